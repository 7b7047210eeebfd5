-- `landing` meets its contract: what is taken away is in the packet. Assumes nothing.
use native.Mathlib.Omega.{arith}
use Rattle.changes.proofs.Walking.{digit_within}
use Rattle.changes.proofs.landing.Goals as goal

pub overflow_mul-old : goal.overflow_mul-old
overflow_mul-old c = omega (arith, digit_within c.args.stride c.args.size c.args.packet)

pub overflow_sub-result : goal.overflow_sub-result
overflow_sub-result c = digit_within _ _ _
