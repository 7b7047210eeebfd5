-- Boolean tests as facts.
use Prim.Native.Nat.{ℕ}
use mathlib.Core.Bool.{Bool, true, false}
use mathlib.Core.Path.{◌≡◌, refl, subst}
use lib.Dec.{T, eqb, eqb_refl}
pub use Rattle.packet.proofs.Tests.{T_true, true_T, T_false, both, either}

pub eqb_true : (m n : ℕ) → m ≡ n → T (eqb m n)
eqb_true m n e = subst (λ (k : ℕ). T (eqb m k)) e (eqb_refl m)

-- two tests that say the same are equal
pub same_test : (a b : Bool) → (T a → T b) → (T b → T a) → a ≡ b
same_test true true f g = refl
same_test true false f g = absurd (f tt)
same_test false true f g = absurd (g tt)
same_test false false f g = refl
