-- `either` meets its contract: each turn of the loop joins one more word. Assumes nothing.
use mathlib.Core.Path.{refl}
use Rattle.marks.proofs.Touched.{joined_none, joined_more, joined_members}
use Rattle.marks.proofs.either.Goals as goal

pub loop-i-init : goal.loop-i-init
loop-i-init c = joined_none refl

pub loop-i-preserved : goal.loop-i-preserved
loop-i-preserved c = joined_more c.loop-i.invariant c.loop-i-test.true

pub returns : goal.returns
returns c = joined_members c.loop-i.invariant c.loop-i-test.false
