-- `join` meets its contract: each turn of the loop does one more word. Assumes nothing.
use Rattle.spans.proofs.Sets.{joining_start, joining_turn, joining_end}
use Rattle.spans.proofs.join.Goals as goal

pub loop-i-init : goal.loop-i-init
loop-i-init c = joining_start _ _ _ _ c.requires.1

pub loop-i-preserved : goal.loop-i-preserved
loop-i-preserved c = joining_turn _ _ _ _ c.requires.1 _ _ c.loop-i.invariant c.loop-i-test.true c.requires.0.wide

pub returns : goal.returns
returns c = joining_end _ _ _ _ c.requires.1 _ _ c.loop-i.invariant c.loop-i-test.false _ _ c.requires.0 _ _ c.hull.ensures
