-- `fair_share` meets its contract. Assumes nothing.
use Prim.Native.Nat.{ℕ, ◌*◌, ◌≤◌}
use native.Mathlib.Nat.{mul-le-mul}
use native.Mathlib.Omega.{arith}
use Rattle.changes.proofs.fair_share.Goals as goal

most : (words shifts : ℕ) → (words ≤ 32) × (shifts ≤ 32) → words * shifts ≤ 1024
most words shifts h = mul-le-mul h.0 h.1

pub overflow_mul-result : goal.overflow_mul-result
overflow_mul-result c = let h = most _ _ c.requires in omega arith

pub overflow_add-result : goal.overflow_add-result
overflow_add-result c = let h = most _ _ c.requires in omega arith

pub returns : goal.returns
returns c = let h = most _ _ c.requires in omega arith
