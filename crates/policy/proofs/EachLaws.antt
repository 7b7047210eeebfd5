-- Each element of a list, and how often a number stands in one.
use Prim.Native.Nat.{ℕ, zero, suc, ◌+◌, ◌<◌}
use mathlib.Core.Bool.{false}
use mathlib.Core.List.{List, [], ◌∷◌, ◌++◌}
use mathlib.Core.Logic.{◌↔◌}
use mathlib.Core.Path.{◌≡◌, refl, sym}
use native.Mathlib.Nat.{zero-add}
use native.Mathlib.Omega.{arith}
use lib.Dec.{eqb, leb}
use lib.ListN.{get_or}
use borrow.Author.Tests.{leb-false, lt-leb, eq-eqb, ne_eqb}
pub use Rattle.packet.proofs.Tests.{or_false}
use Rattle.policy.specs.InnerEach.{Each}
use Rattle.policy.specs.NodeLists.{one}
use Rattle.policy.specs.Legality.{some_not_below, occurrences}

module _ {A : Type 0} where
  pub each_map : (P Q : A → Type 0) (xs : List A) → ((x : A) → P x → Q x) → Each P xs → Each Q xs
  unfolding Each
  each_map P Q [] f e = tt
  each_map P Q (x ∷ xs) f e = (f x e.0, each_map P Q xs f e.1)

  pub each_append : (P : A → Type 0) (xs ys : List A) → Each P (xs ++ ys) ↔ (Each P xs × Each P ys)
  unfolding Each
  each_append P [] ys = (λ e. (tt, e), λ e. e.1)
  each_append P (x ∷ xs) ys =
      (λ e. ((e.0, ((each_append P xs ys).0 e.1).0), ((each_append P xs ys).0 e.1).1), λ e. (e.0.0, (each_append P xs ys).1 (e.0.1, e.1)))

  pub each_at : (P : A → Type 0) (xs : List A) (d : A) → P d → Each P xs → (i : ℕ) → P (get_or xs i d)
  unfolding Each
  each_at P [] d h e i = h
  each_at P (x ∷ xs) d h e zero = e.0
  each_at P (x ∷ xs) d h e (suc i) = each_at P xs d h e.1 i

  each_both : (P Q : A → Type 0) (xs : List A) → Each P xs → Each Q xs → Each (λ x. P x × Q x) xs
  unfolding Each
  each_both P Q [] e f = tt
  each_both P Q (x ∷ xs) e f = ((e.0, f.0), each_both P Q xs e.1 f.1)

  each_all : (P : A → Type 0) (xs : List A) → ((x : A) → P x) → Each P xs
  unfolding Each
  each_all P [] f = tt
  each_all P (x ∷ xs) f = (f x, each_all P xs f)

-- of each x each y, and of each y each x
pub each_swap : {A B : Type 0} (R : A → B → Type 0) (xs : List A) (ys : List B) → Each (λ x. Each (R x) ys) xs → Each (λ y. Each (λ x. R x y) xs) ys
unfolding Each
each_swap R [] ys e = each_all (λ y. Unit) ys (λ y. tt)
each_swap R (x ∷ xs) ys e = each_both (R x) (λ y. Each (λ z. R z y) xs) ys e.0 (each_swap R xs ys e.1)

pub below_each : (i : ℕ) (cs : List ℕ) → (some_not_below i cs ≡ false) ↔ Each (λ c. c < i) cs
unfolding some_not_below Each
below_each i [] = (λ e. tt, λ e. refl)
below_each i (c ∷ cs) = (
  λ e. let f = or_false (leb i c) (some_not_below i cs) e in (leb-false i c f.0, (below_each i cs).0 f.1),
  λ e. rw (lt-leb i c e.0) ((below_each i cs).1 e.1),
)

pub one_same : (a b : ℕ) → a ≡ b → one (eqb a b) ≡ 1
unfolding one
one_same a b e = rw (eq-eqb a b e)

pub one_other : (a b : ℕ) → (a ≡ b → ⊥) → one (eqb a b) ≡ 0
unfolding one
one_other a b h = rw (ne_eqb a b h)

pub occurrences_append : (j : ℕ) (xs ys : List ℕ) → occurrences j (xs ++ ys) ≡ occurrences j xs + occurrences j ys
unfolding occurrences
occurrences_append j [] ys = sym (zero-add (occurrences j ys))
occurrences_append j (x ∷ xs) ys = omega (arith, occurrences_append j xs ys)

pub occurrences_none : (j : ℕ) (xs : List ℕ) → Each (λ x. x ≡ j → ⊥) xs → occurrences j xs ≡ 0
unfolding occurrences Each
occurrences_none j [] e = refl
occurrences_none j (x ∷ xs) e = omega (arith, one_other x j e.0, occurrences_none j xs e.1)
