-- `more_than` is safe and ends: the count stays small, since it ends the loop. Assumes nothing.
use native.Mathlib.Omega.{arith}
use Rattle.changes.proofs.more_than.Goals as goal

pub loop-i-init : goal.loop-i-init
loop-i-init c = omega arith
