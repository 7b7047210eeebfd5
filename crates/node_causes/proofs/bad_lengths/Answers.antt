-- `bad_lengths` meets its contract: each way out is one of cause 4's tests.
-- Assumes nothing.
use mathlib.Core.Path.{ap, sym}
use Rattle.packet.specs.Refusals.{at_place}
use Rattle.policy.specs.NodeLists.{node_count}
use Rattle.policy.specs.AsLists.{lists_of}
use Rattle.node_causes.proofs.CauseLaws.{first_unequal, second_unequal, no_node, too_long, lengths_good}
use Rattle.node_causes.proofs.bad_lengths.Goals as goal
use Rattle.node_causes.proofs.bad_lengths.Goals.{then-policy-n-via-then-policy-n, then-policy-n-via-else-policy-n+then-policy-n-2, then-policy-n-via-else-policy-n+else-policy-n-2+then-n-eq0, then-policy-n-via-else-policy-n+else-policy-n-2+else-n-eq0+then-n-gt512}

pub returns-then-policy-n : goal.returns-then-policy-n
unfolding at_place node_count
returns-then-policy-n c =
    sym
    (ap (at_place 0)
    (elim c.then-policy-n.branch [
      | then-policy-n-via-then-policy-n w ↦ first_unequal (lists_of c.args.policy) w.if-policy-n.true
      | then-policy-n-via-else-policy-n+then-policy-n-2 w ↦ second_unequal (lists_of c.args.policy) w.if-policy-n.false w.if-policy-n-2.true
      | then-policy-n-via-else-policy-n+else-policy-n-2+then-n-eq0 w ↦ no_node (lists_of c.args.policy) w.if-policy-n.false w.if-policy-n-2.false w.if-n-eq0.true
      | then-policy-n-via-else-policy-n+else-policy-n-2+else-n-eq0+then-n-gt512 w ↦ too_long (lists_of c.args.policy) w.if-policy-n.false w.if-policy-n-2.false w.if-n-eq0.false w.if-n-gt512.true
    ]))

pub returns : goal.returns
unfolding at_place node_count
returns c = sym (ap (at_place 0) (lengths_good (lists_of c.args.policy) c.if-policy-n.false c.if-policy-n-2.false c.if-n-eq0.false c.if-n-gt512.false))
