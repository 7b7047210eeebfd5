-- `dups` meets its contract: the dups of the nodes passed are counted, and not too many.
-- Assumes nothing.
use native.Mathlib.Numerals.{add-one}
use Rattle.tree_causes.proofs.CountLaws.{dups_none, dups_next, dups_over, weight_is}
use Rattle.tree_causes.proofs.dups.Goals as goal

pub loop-i-init : goal.loop-i-init
loop-i-init c = dups_none _

pub returns-then-count-gt63 : goal.returns-then-count-gt63
returns-then-count-gt63 c = dups_over _ _ _ _ c.loop-i.invariant (weight_is _ _ c.from-count.ensures) c.if-count-gt63.true c.loop-i-test.true

pub loop-i-preserved : goal.loop-i-preserved
loop-i-preserved c = rw add-one (dups_next _ _ _ _ c.loop-i.invariant (weight_is _ _ c.from-count.ensures) c.if-count-gt63.false)
