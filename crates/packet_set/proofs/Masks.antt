-- A number by its bits, over any width.
-- Assumes nothing.
use Prim.Native.Nat.{ℕ, zero, suc, ◌+◌, ◌-◌, ◌*◌, ◌/◌, ◌%◌, ◌^◌, ◌≤◌, ◌<◌}
use mathlib.Core.Bool.{Bool, true, false, cond}
use mathlib.Core.Logic.{◌⊎◌, inl, inr}
use mathlib.Core.Path.{◌≡◌, refl, sym, ap, ◌∙◌, subst}
use native.Mathlib.Nat.{eq-or-lt_of_le, le_of_suc-le-suc, not-suc-le-zero}
use native.Mathlib.Decide.{dec_lt}
use native.Mathlib.Omega.{arith}
use lib.Dec.{T, eqb}
use lib.Pow.{pow_pos, high, low, field, mod-mod-pow}
use Rattle.packet_set.specs.Bits.{bit, mask_of}
use Rattle.packet_set.proofs.Digits.{bit_high}

-- a bit as a digit
digit : Bool → ℕ
digit b = cond b 1 0

pub mask_of_lt : (w : ℕ) (f : ℕ → Bool) → mask_of w f < 2 ^ w
unfolding mask_of
mask_of_lt zero f = omega arith
mask_of_lt (suc w) f = go (f w) (mask_of_lt w f)
  where
    go : (b : Bool) → mask_of w f < 2 ^ w → mask_of w f + cond b (2 ^ w) 0 < 2 ^ suc w
    go true h = omega arith
    go false h = omega (arith, pow_pos w)

-- bit i of a number depends on its digits up to i alone
pub bit_low : (w n i : ℕ) → i < w → bit (n % 2 ^ w) i ≡ bit n i
unfolding bit
bit_low w n i h = ap (λ (d : ℕ). eqb d 1) (digits (n % 2 ^ w) ∙ ap (λ (x : ℕ). x / 2 ^ i) (sym cut) ∙ sym (digits n))
  where
    digits : (x : ℕ) → x / 2 ^ i % 2 ≡ x % 2 ^ (1 + i) / 2 ^ i
    digits x = sym (field x 1 i)

    sum_up : w - (1 + i) + (1 + i) ≡ w
    sum_up = omega arith

    cut : n % 2 ^ (1 + i) ≡ n % 2 ^ w % 2 ^ (1 + i)
    cut = sym (mod-mod-pow n (w - (1 + i)) (1 + i)) ∙ ap (λ (x : ℕ). n % 2 ^ x % 2 ^ (1 + i)) sum_up

mask_of_suc : (w : ℕ) (f : ℕ → Bool) → mask_of (suc w) f ≡ digit (f w) * 2 ^ w + mask_of w f
unfolding mask_of digit
mask_of_suc w f = go (f w)
  where
    go : (b : Bool) → mask_of w f + cond b (2 ^ w) 0 ≡ cond b 1 0 * 2 ^ w + mask_of w f
    go true = omega arith
    go false = omega arith

digit_bit : (b : Bool) → eqb (digit b % 2) 1 ≡ b
unfolding digit
digit_bit true = refl
digit_bit false = refl

pub bit_mask_of : (w : ℕ) (f : ℕ → Bool) (i : ℕ) → i < w → bit (mask_of w f) i ≡ f i
unfolding bit
bit_mask_of zero f i h = absurd (not-suc-le-zero h)
bit_mask_of (suc w) f i h = go (eq-or-lt_of_le (le_of_suc-le-suc h)) (bit_mask_of w f i)
  where
    top : bit (digit (f w) * 2 ^ w + mask_of w f) w ≡ f w
    top = ap (λ (x : ℕ). eqb (x % 2) 1) (high (digit (f w)) w (mask_of_lt w f)) ∙ digit_bit (f w)

    go : (i ≡ w) ⊎ (i < w) → (i < w → bit (mask_of w f) i ≡ f i) → bit (mask_of (suc w) f) i ≡ f i
    go (inl e) ih = rw (mask_of_suc w f, e) top
    go (inr l) ih = rw (mask_of_suc w f) (sym (bit_low w (digit (f w) * 2 ^ w + mask_of w f) i l) ∙ ap (λ (x : ℕ). bit x i) (low (digit (f w)) w (mask_of_lt w f)) ∙ ih l)

pub bit_below : (w a i : ℕ) → a < 2 ^ w → T (bit a i) → i < w
bit_below w a i h t = go (dec_lt i w)
  where
    go : Dec (i < w) → i < w
    go (yes l) = l
    go (no n) = absurd (subst T (bit_high w a i h (nlt n)) t)
      where
        nlt : ¬ (i < w) → w ≤ i
        nlt m = omega arith
