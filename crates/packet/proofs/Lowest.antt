-- The lowest number that passes a test, as it is found and as a loop finds it.
-- Assumes nothing.
use Prim.Native.Nat.{ℕ, zero, suc, ◌<◌, ◌≤◌}
use native.Mathlib.Nat.{not-suc-le-zero}
use native.Mathlib.Omega.{arith}
use mathlib.Core.Bool.{Bool, true, false}
use mathlib.Core.Logic.{◌⊎◌, inl, inr, ⊎_elim}
use Rattle.std.specs.Prelude.{Option, None, Some}
use mathlib.Core.List.{List}
use mathlib.Core.Path.{◌≡◌, refl, sym, ap, ap₂, subst, ◌∙◌}
use lib.ListN.{length, get_or}
use Rattle.std.specs.List.{position, position_or_len}
use Rattle.std.proofs.lemmas.Grind.{common_steps}
use Rattle.std.proofs.lemmas.List.Sums.{fails_before_first}
use Rattle.std.proofs.lemmas.List.Quantifiers.{position-Some}
use Rattle.packet.specs.Lowest.{lowest, or_at}
use Rattle.packet.proofs.Tests.{clash, lt_or_le, last_or_before}

-- i is the lowest number below n that passes
pub record IsLowest (test : ℕ → Bool) (n i : ℕ) : Type 0 where
  pub below : i < n
  pub passes : test i ≡ true
  pub first : (j : ℕ) → j < i → test j ≡ false

-- what an answer says: none passes, or which one is the lowest
abbrev pub Found : (ℕ → Bool) → ℕ → Option ℕ → Type 0
Found test n None = (j : ℕ) → j < n → test j ≡ false
Found test n (Some i) = IsLowest test n i

module _ (test : ℕ → Bool) where
  pub lowest_is : (n : ℕ) → Found test n (lowest test n)
  unfolding lowest or_at
  lowest_is zero = λ j h. absurd (not-suc-le-zero h)
  lowest_is (suc n) = go (lowest test n) (test n) refl (lowest_is n)
    where
      go : (o : Option ℕ) (b : Bool) → test n ≡ b → Found test n o → Found test (suc n) (or_at o b n)
      go (Some i) b e f = record { below = omega (arith, f.below); passes = f.passes; first = f.first }
      go None true e f = record { below = omega arith; passes = e; first = f }
      go None false e f = λ j h. ⊎_elim (f j) (λ q. ap test q ∙ e) (last_or_before h)

  -- one answer alone is right
  pub lowest_only : (n : ℕ) (o : Option ℕ) → Found test n o → lowest test n ≡ o
  lowest_only n o = go (lowest test n) o (lowest_is n)
    where
      same : {i j : ℕ} → IsLowest test n i → IsLowest test n j → (i < j) ⊎ (j ≤ i) → (j < i) ⊎ (i ≤ j) → i ≡ j
      same f g (inl l) k = clash f.passes (g.first _ l)
      same f g (inr l) (inl k) = clash g.passes (f.first _ k)
      same f g (inr l) (inr k) = omega arith

      go : (p o : Option ℕ) → Found test n p → Found test n o → p ≡ o
      go None None f g = refl
      go None (Some j) f g = clash g.passes (f j g.below)
      go (Some i) None f g = clash f.passes (g i f.below)
      go (Some i) (Some j) f g = ap Some (same f g (lt_or_le i j) (lt_or_le j i))

  -- nothing found: no place passes
  pub lowest_none : (n : ℕ) → lowest test n ≡ None → (i : ℕ) → i < n → test i ≡ false
  lowest_none n e = subst (Found test n) e (lowest_is n)

  -- no place passes: nothing is found
  pub none_lowest : (n : ℕ) → ((i : ℕ) → i < n → test i ≡ false) → lowest test n ≡ None
  none_lowest n = lowest_only n None

  -- ---- a loop that has found nothing below i

  -- what does not pass at i is not found below i + 1
  pub lowest_more : (i : ℕ) → lowest test i ≡ None → test i ≡ false → lowest test (suc i) ≡ None
  unfolding lowest or_at
  lowest_more i e f = ap₂ (λ (o : Option ℕ) (b : Bool). or_at o b i) e f

  -- what passes at i is found there in every longer range
  pub lowest_found : (i n : ℕ) → lowest test i ≡ None → test i ≡ true → i < n → lowest test n ≡ Some i
  lowest_found i n e f h = lowest_only n (Some i) (record { below = h; passes = f; first = lowest_none i e })

  -- the end of the range
  pub lowest_none_whole : (i n : ℕ) → lowest test i ≡ None → i ≡ n → lowest test n ≡ None
  lowest_none_whole i n e q = subst (λ (m : ℕ). lowest test m ≡ None) q e

-- two tests that agree below n, where nothing from n to m passes the first
pub lowest_same : (test other : ℕ → Bool) (n m : ℕ) → n ≤ m → ((i : ℕ) → i < n → test i ≡ other i) → ((i : ℕ) → n ≤ i → i < m → test i ≡ false)
    → lowest test m ≡ lowest other n
lowest_same test other n m l same nothing = lowest_only test m (lowest other n) (go (lowest other n) (lowest_is other n))
  where
    go : (o : Option ℕ) → Found other n o → Found test m o
    go None f = λ j h. ⊎_elim (λ b. same j b ∙ f j b) (λ b. nothing j b h) (lt_or_le j n)
    go (Some i) f = record {
      below = omega (arith, f.below);
      passes = same i f.below ∙ f.passes;
      first = λ j h. same j (omega (arith, f.below)) ∙ f.first j h;
    }

-- what `position` answers is the lowest place
pub position_lowest : (p : ℕ → Bool) (xs : List ℕ) → position p xs ≡ lowest (λ i. p (get_or xs i 0)) (length xs)
position_lowest p xs = sym (lowest_only (λ i. p (get_or xs i 0)) (length xs) (position p xs) (go (position p xs) refl))
  where
    go : (o : Option ℕ) → position p xs ≡ o → Found (λ i. p (get_or xs i 0)) (length xs) o
    go None e = let none : length xs ≤ position_or_len p xs = grind (arith, common_steps) in λ j h. fails_before_first p xs j 0 (omega (arith, none, h))
    go (Some i) e = let (h, t, f) = position-Some p xs i 0 e in record { below = h; passes = t; first = f }
