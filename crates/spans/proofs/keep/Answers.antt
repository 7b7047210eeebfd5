-- `keep` meets its contract: each turn of the loop does one more word. Assumes nothing.
use native.Mathlib.Omega.{arith}
use Rattle.spans.proofs.Sets.{keeping_start, keeping_turn, keeping_end}
use Rattle.spans.proofs.keep.Goals as goal

pub loop-i-init : goal.loop-i-init
loop-i-init c = keeping_start _ _ _ _ _ c.requires.1

pub loop-i-preserved : goal.loop-i-preserved
loop-i-preserved c = keeping_turn _ _ _ _ _ c.requires.1 _ _ _ c.loop-i.invariant c.loop-i-test.true (omega arith)

pub returns : goal.returns
returns c = keeping_end _ _ _ _ _ c.requires.1 _ _ _ c.loop-i.invariant c.loop-i-test.false
