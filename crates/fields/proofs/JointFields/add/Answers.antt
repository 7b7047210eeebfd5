-- `add` meets its contract. Assumes nothing.
use native.Mathlib.Omega.{arith}
use Rattle.fields.proofs.HeldLaws.{add_full, add_there, add_new}
use Rattle.fields.proofs.JointFields.add.Goals as goal
use Rattle.fields.proofs.JointFields.add.Goals.{then-self-gt8-via-then-self-gt8, then-self-gt8-via-else-self-gt8+then-is_named}

pub returns-then-self-gt8 : goal.returns-then-self-gt8
returns-then-self-gt8 c =
    elim c.then-self-gt8.branch [
      | then-self-gt8-via-then-self-gt8 w ↦ add_full _ _ _ _ _ w.if-self-gt8.true c.requires.1
      | then-self-gt8-via-else-self-gt8+then-is_named w ↦ add_there _ _ _ _ _ _ w.name_in.ensures (omega arith) (omega arith) w.is_named.ensures w.if-is_named.true
    ]

pub returns : goal.returns
returns c = add_new _ _ _ _ _ _ c.name_in.ensures (omega arith) (omega arith) c.is_named.ensures c.if-is_named.false c.put.ensures
