-- Tests and the facts they stand for.
-- Assumes nothing.
use Prim.Native.Nat.{ℕ, suc, ◌<◌, ◌≤◌}
use native.Mathlib.Omega.{arith}
use mathlib.Core.Bool.{Bool, true, false, ◌&&◌, ◌||◌, xor, true≢false}
use mathlib.Core.Logic.{◌⊎◌, inl, inr, ◌↔◌}
use mathlib.Core.Path.{◌≡◌, refl, sym, ◌∙◌, subst}
use lib.Dec.{T, ltb}
use borrow.Author.Tests.{ltb-true, ltb-false}

pub clash {ℓ} : {A : Type ℓ} {b : Bool} → b ≡ true → b ≡ false → A
clash p q = absurd (true≢false (sym p ∙ q))

pub or_true : (a b : Bool) → (a || b) ≡ true → (a ≡ true) ⊎ (b ≡ true)
or_true true b e = inl refl
or_true false b e = inr e

pub or_left : (a b : Bool) → a ≡ true → (a || b) ≡ true
or_left true b e = refl
or_left false b e = clash refl (sym e)

pub or_right : (a b : Bool) → b ≡ true → (a || b) ≡ true
or_right true b e = refl
or_right false b e = e

pub or_false : (a b : Bool) → (a || b) ≡ false → (a ≡ false) × (b ≡ false)
or_false true b e = clash refl e
or_false false b e = (refl, e)

pub and_true : (a b : Bool) → (a && b) ≡ true → (a ≡ true) × (b ≡ true)
and_true true b e = (refl, e)
and_true false b e = clash e refl

-- the tests agree
pub xor_same : (a b : Bool) → a ≡ b → xor a b ≡ false
unfolding xor
xor_same true b e = rw (sym e) refl
xor_same false b e = rw (sym e) refl

pub xor_false : (a b : Bool) → xor a b ≡ false → a ≡ b
unfolding xor
xor_false true true e = refl
xor_false true false e = e
xor_false false true e = sym e
xor_false false false e = refl

pub T_true : (b : Bool) → T b → b ≡ true
T_true true t = refl
T_true false t = absurd t

pub true_T : {b : Bool} → b ≡ true → T b
true_T e = subst T (sym e) tt

pub T_false : (b : Bool) → (T b → ⊥) → b ≡ false
T_false true f = absurd (f tt)
T_false false f = refl

pub both : (a b : Bool) → T (a && b) ↔ (T a × T b)
both true b = (λ t. (tt, t), λ t. t.1)
both false b = (λ t. absurd t, λ t. absurd t.0)

pub either : (a b : Bool) → T (a || b) ↔ (T a ⊎ T b)
either true b = (λ t. inl tt, λ t. tt)
either false b = (λ t. inr t, back)
  where
    back : ⊥ ⊎ T b → T b
    back (inl t) = absurd t
    back (inr t) = t

pub lt_or_le : (i n : ℕ) → (i < n) ⊎ (n ≤ i)
lt_or_le i n = go (ltb i n) refl
  where
    go : (b : Bool) → ltb i n ≡ b → (i < n) ⊎ (n ≤ i)
    go true e = inl (ltb-true i n e)
    go false e = inr (ltb-false i n e)

-- a number below n + 1 is below n or is n
pub last_or_before : {i n : ℕ} → i < suc n → (i < n) ⊎ (i ≡ n)
last_or_before {i} {n} h = go (lt_or_le i n)
  where
    go : (i < n) ⊎ (n ≤ i) → (i < n) ⊎ (i ≡ n)
    go (inl l) = inl l
    go (inr g) = inr (omega arith)
