-- `add_table` meets its contract: the first `i` fields are added. Assumes nothing.
use native.Mathlib.Omega.{arith}
use Rattle.fields.proofs.HeldLaws.{adding_none, adding_more, adding_all}
use Rattle.fields.proofs.JointFields.add_table.Goals as goal

pub loop-i-init : goal.loop-i-init
loop-i-init c = adding_none _ _ _ _ c.requires.1

pub add-requires : goal.add-requires
add-requires c = (omega (arith, c.requires), c.loop-i.invariant.few)

pub loop-i-preserved : goal.loop-i-preserved
loop-i-preserved c = adding_more _ _ c.requires.0 _ _ _ c.loop-i-test.true c.loop-i.invariant c.add.ensures

pub returns : goal.returns
returns c = adding_all _ _ c.requires.0 _ _ _ c.loop-i-test.false c.loop-i.invariant
