-- Bounds on the entries of lists.
use Prim.Native.Nat.{ℕ, zero, suc, ◌≤◌, ◌<◌}
use mathlib.Core.List.{List}
use mathlib.Core.Path.{◌≡◌, sym, subst}
use native.Mathlib.Decide.{ℕ_discrete}
use native.Mathlib.Omega.{arith}
use lib.ListN.{length, get_or, set, replicate}
use lib.Seq.{get_or-set_same, get_or-set_other, set_out}
use Rattle.packet.proofs.Tests.{lt_or_le}
use mathlib.Core.Logic.{◌⊎◌, inl, inr}

pub replicate_le : (k i v : ℕ) → get_or (replicate k v) i 0 ≤ v
replicate_le zero i v = omega arith
replicate_le (suc k) zero v = omega arith
replicate_le (suc k) (suc i) v = replicate_le k i v

-- an entry that is put in is within the bound of the others
pub set_le : (xs : List ℕ) (n v b : ℕ) → v ≤ b → ((i : ℕ) → get_or xs i 0 ≤ b) → (i : ℕ) → get_or (set xs n v) i 0 ≤ b
set_le xs n v b h all i = go (ℕ_discrete i n) (lt_or_le n (length xs))
  where
    go : Dec (i ≡ n) → (n < length xs) ⊎ (length xs ≤ n) → get_or (set xs n v) i 0 ≤ b
    go (yes e) (inl l) = subst (λ (x : ℕ). get_or (set xs n v) x 0 ≤ b) (sym e) (omega (arith, get_or-set_same xs n v 0 l))
    go (yes e) (inr l) = subst (λ (x : List ℕ). get_or x i 0 ≤ b) (sym (set_out xs n v l)) (all i)
    go (no e) l = let a = all i in omega (arith, get_or-set_other xs n i v 0 e)
