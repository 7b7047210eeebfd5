-- `forget_word` meets its contract: each turn of the loop clears the lowest bit that is left. Assumes nothing.
use native.Mathlib.Omega.{arith}
use Rattle.packet_set.proofs.Trailing.{trailing_below, cleared_less}
use Rattle.marks.proofs.Clearing.{word_begun, word_more, word_done}
use Rattle.marks.proofs.forget_word.Goals as goal

pub loop-rest-init : goal.loop-rest-init
loop-rest-init c = word_begun c.ranges.word.fits

pub overflow_cast-b : goal.overflow_cast-b
overflow_cast-b c = omega (arith, trailing_below 32 _ c.loop-rest.invariant.small (omega arith))

pub overflow_add-next : goal.overflow_add-next
overflow_add-next c = omega (arith, trailing_below 32 _ c.loop-rest.invariant.small (omega arith))

pub offset_bounds-next-start : goal.offset_bounds-next-start
offset_bounds-next-start c = omega (arith, trailing_below 32 _ c.loop-rest.invariant.small (omega arith), c.well_formed.0)

pub bounds-next-start : goal.bounds-next-start
bounds-next-start c = omega (arith, trailing_below 32 _ c.loop-rest.invariant.small (omega arith))

pub loop-rest-smaller : goal.loop-rest-smaller
loop-rest-smaller c = cleared_less _ (omega arith)

pub loop-rest-preserved : goal.loop-rest-preserved
loop-rest-preserved c = word_more c.loop-rest.invariant (omega arith) c.requires

pub returns : goal.returns
returns c = word_done c.loop-rest.invariant c.loop-rest-test.false
