-- `main` meets its contract.
use Rattle.printing.proofs.PrintLaws.{front_length}
use native.Mathlib.Omega.{arith}
use Rattle.netkat.proofs.main.Goals as goal

pub slice_bounds-answer-end : goal.slice_bounds-answer-end
slice_bounds-answer-end c = front_length _ _ c.read_all-n.ensures.0

pub slice_bounds-output-end : goal.slice_bounds-output-end
slice_bounds-output-end c = omega (arith, c.answer-written.ensures.fits.0, c.answer-written.ensures.fits.1)

pub slice_bounds-write_all-end : goal.slice_bounds-write_all-end
slice_bounds-write_all-end c = front_length _ _ (omega (arith, c.answer-written.ensures.fits.0, c.answer-written.ensures.fits.1))
