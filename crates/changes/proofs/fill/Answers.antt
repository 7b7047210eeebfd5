-- `fill` meets its contract: each turn of the loop does one more word. Assumes nothing.
use native.Mathlib.Omega.{arith}
use Rattle.changes.proofs.Folds.{fill_start, fill_turn, fill_end}
use Rattle.changes.proofs.fill.Goals as goal

pub loop-i-init : goal.loop-i-init
loop-i-init c = fill_start _ _ _ _ _ _

pub masked-requires : goal.masked-requires
masked-requires c = (c.requires.2, omega (arith, c.requires.0, c.requires.1, c.requires.3, c.loop-i-test.true))

pub loop-i-preserved : goal.loop-i-preserved
loop-i-preserved c = fill_turn _ _ _ _ _ _ _ _ c.loop-i.invariant (omega (arith, c.requires.0, c.requires.4)) _ c.masked.ensures

pub returns : goal.returns
returns c = fill_end _ _ _ _ _ _ _ _ _ c.loop-i.invariant (omega arith)
