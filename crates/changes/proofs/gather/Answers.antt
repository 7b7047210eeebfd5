-- `gather` meets its contract: each turn of the loop takes one more place. Assumes nothing.
use native.Mathlib.Omega.{arith}
use Rattle.changes.proofs.Folds.{gather_start, gather_turn, gather_room, gather_end}
use Rattle.changes.proofs.gather.Goals as goal

pub loop-u-init : goal.loop-u-init
loop-u-init c = gather_start _ _ _

pub overflow_mul-u : goal.overflow_mul-u
overflow_mul-u c = let h = gather_room _ _ _ _ c.loop-u-test.true c.requires.0 c.requires.1 in omega arith

pub overflow_add-at : goal.overflow_add-at
overflow_add-at c = let h = gather_room _ _ _ _ c.loop-u-test.true c.requires.0 c.requires.1 in omega arith

pub bits_from-word-requires : goal.bits_from-word-requires
bits_from-word-requires c = gather_room _ _ _ _ c.loop-u-test.true c.requires.0 c.requires.1

pub loop-u-preserved : goal.loop-u-preserved
loop-u-preserved c = gather_turn _ _ _ _ _ c.loop-u.invariant _ c.bits_from-word.ensures

pub returns : goal.returns
returns c = gather_end _ _ _ _ _ _ c.loop-u.invariant (omega arith)
