-- `shifts_of` meets its contract. Assumes nothing.
use native.Mathlib.Nat.{div-le_self}
use native.Mathlib.Omega.{arith}
use Rattle.changes.proofs.shifts_of.Goals as goal

pub returns : goal.returns
returns c = let h = div-le_self 31 c.args.stride in omega arith
