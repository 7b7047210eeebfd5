-- `mark_word` meets its contract: each turn of the loop marks the lowest packet left. Assumes nothing.
use native.Mathlib.Omega.{arith}
use borrow.Author.Rules.{rules}
use lib.Count.{trailing_le}
use Rattle.packet_set.proofs.Trailing.{trailing_below, cleared_less}
use Rattle.spans.proofs.Marks.{marking_start, marking_turn, marking_end}
use Rattle.spans.proofs.mark_word.Goals as goal

pub loop-rest-init : goal.loop-rest-init
loop-rest-init c = marking_start _ _ _ _ c.ranges.word.fits

pub overflow_cast-at : goal.overflow_cast-at
overflow_cast-at c = omega (arith, trailing_le 32 c.loop-rest.rest)

pub overflow_add-at : goal.overflow_add-at
overflow_add-at c = omega (arith, trailing_le 32 c.loop-rest.rest)

pub offset_bounds-next-at : goal.offset_bounds-next-at
offset_bounds-next-at c = omega (arith, trailing_le 32 c.loop-rest.rest)

pub bounds-next-at : goal.bounds-next-at
bounds-next-at c = omega (arith, trailing_below 32 _ c.loop-rest.invariant.small (omega arith))

pub offset_bounds-next-at-in-loop-rest : goal.offset_bounds-next-at-in-loop-rest
offset_bounds-next-at-in-loop-rest c = omega (arith, trailing_le 32 c.loop-rest.rest)

pub bounds-next-at-in-loop-rest : goal.bounds-next-at-in-loop-rest
bounds-next-at-in-loop-rest c = omega (arith, trailing_below 32 _ c.loop-rest.invariant.small (omega arith))

pub loop-rest-smaller : goal.loop-rest-smaller
loop-rest-smaller c = cleared_less _ (omega arith)

pub loop-rest-preserved : goal.loop-rest-preserved
loop-rest-preserved c = marking_turn _ _ _ _ _ _ c.loop-rest.invariant c.requires.0 c.requires.1 c.requires.2 (omega arith) _ c.mark.ensures

pub returns : goal.returns
returns c = marking_end _ _ _ _ _ _ c.loop-rest.invariant (search rules)
