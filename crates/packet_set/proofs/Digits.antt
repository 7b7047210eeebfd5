-- Laws of bits, over any width. Assumes nothing.
use Prim.Native.Nat.{ℕ, zero, suc, ◌+◌, ◌*◌, ◌/◌, ◌%◌, ◌^◌, ◌≤◌, ◌<◌}
use mathlib.Core.Path.{◌≡◌, refl, sym, ap, ◌∙◌}
use mathlib.Core.Bool.{Bool, true, false, not, xor, ◌&&◌, ◌||◌, true≢false}
use native.Mathlib.Nat.{le_of_suc-le-suc, not-suc-le-zero, div-one, zero-div, div-eq_of_lt, lt_of_lt_of_le, mod-lt, pow-suc, zero-lt-suc, one-mul, div-lt_iff_lt-mul}
use native.Mathlib.Decide.{dec_lt}
use native.Mathlib.Omega.{arith}
use lib.Dec.{eqb, ltb, lit<, eqb-suc-zero, eqb-zero-suc, eqb-suc-suc}
use borrow.Author.Tests.{lt-ltb, le-ltb}
use lib.Arith.{lt-one}
use lib.Pow.{pow_pos, pow_mono, shr-shr, shl_exact}
use lib.Bits.{bit_or, bit_and, bit_xor, or_shr, or_mod, and_shr, and_mod, xor_shr, xor_mod, and_mask}
use Rattle.packet_set.specs.Bits.{bit, marked, only_bits}
use Rattle.packet_set.specs.InnerMembers.{without}

-- ---- the lowest bit and the rest

pub bit_zero : (m : ℕ) → bit m 0 ≡ eqb (m % 2) 1
unfolding bit
bit_zero m = ap (λ (x : ℕ). eqb (x % 2) 1) (div-one m)

pub bit_suc : (m i : ℕ) → bit m (suc i) ≡ bit (m / 2) i
unfolding bit
bit_suc m i =
    let e : 1 + i ≡ suc i = omega arith in
    ap (λ (x : ℕ). eqb (x % 2) 1) (sym (shr-shr m 1 i ∙ ap (λ (x : ℕ). m / 2 ^ x) e))

-- a shift down by k
pub bit_shift : (m k i : ℕ) → bit (m / 2 ^ k) i ≡ bit m (k + i)
unfolding bit
bit_shift m k i = ap (λ (x : ℕ). eqb (x % 2) 1) (shr-shr m k i)

below_two : (P : ℕ → Type 0) → P 0 → P 1 → (x : ℕ) → x < 2 → P x
below_two P p q zero h = p
below_two P p q (suc zero) h = q
below_two P p q (suc (suc x)) h = absurd (not-suc-le-zero (le_of_suc-le-suc (le_of_suc-le-suc h)))

low_two : (m : ℕ) → m % 2 < 2
low_two m = mod-lt m (zero-lt-suc 1)

-- ---- or, and, exclusive or

module _ (op : ℕ → ℕ → ℕ) (g : Bool → Bool → Bool)
    (shr : (a b k : ℕ) → op a b / 2 ^ k ≡ op (a / 2 ^ k) (b / 2 ^ k))
    (low : (a b k : ℕ) → op a b % 2 ^ k ≡ op (a % 2 ^ k) (b % 2 ^ k))
    (digit : (x : ℕ) → x < 2 → (y : ℕ) → y < 2 → eqb (op x y) 1 ≡ g (eqb x 1) (eqb y 1)) where
  bit_op : (a b i : ℕ) → bit (op a b) i ≡ g (bit a i) (bit b i)
  unfolding bit
  bit_op a b i =
      ap (λ (x : ℕ). eqb (x % 2) 1) (shr a b i) ∙ ap (λ (x : ℕ). eqb x 1) (low (a / 2 ^ i) (b / 2 ^ i) 1)
      ∙ digit (a / 2 ^ i % 2) (low_two (a / 2 ^ i)) (b / 2 ^ i % 2) (low_two (b / 2 ^ i))

pub bit_or_lem : (a b i : ℕ) → bit (bit_or a b) i ≡ bit a i || bit b i
bit_or_lem =
    bit_op bit_or ◌||◌ or_shr or_mod
    (below_two (λ x. (y : ℕ) → y < 2 → eqb (bit_or x y) 1 ≡ eqb x 1 || eqb y 1) (below_two (λ y. eqb (bit_or 0 y) 1 ≡ eqb 0 1 || eqb y 1) refl refl)
    (below_two (λ y. eqb (bit_or 1 y) 1 ≡ eqb 1 1 || eqb y 1) refl refl))

pub bit_and_lem : (a b i : ℕ) → bit (bit_and a b) i ≡ bit a i && bit b i
bit_and_lem =
    bit_op bit_and ◌&&◌ and_shr and_mod
    (below_two (λ x. (y : ℕ) → y < 2 → eqb (bit_and x y) 1 ≡ eqb x 1 && eqb y 1) (below_two (λ y. eqb (bit_and 0 y) 1 ≡ eqb 0 1 && eqb y 1) refl refl)
    (below_two (λ y. eqb (bit_and 1 y) 1 ≡ eqb 1 1 && eqb y 1) refl refl))

pub bit_xor_lem : (a b i : ℕ) → bit (bit_xor a b) i ≡ xor (bit a i) (bit b i)
bit_xor_lem =
    bit_op bit_xor xor xor_shr xor_mod
    (below_two (λ x. (y : ℕ) → y < 2 → eqb (bit_xor x y) 1 ≡ xor (eqb x 1) (eqb y 1)) (below_two (λ y. eqb (bit_xor 0 y) 1 ≡ xor (eqb 0 1) (eqb y 1)) (unfold xor in refl) (unfold xor in refl))
    (below_two (λ y. eqb (bit_xor 1 y) 1 ≡ xor (eqb 1 1) (eqb y 1)) (unfold xor in refl) (unfold xor in refl)))

xor_part : (p q : Bool) → xor p (p && q) ≡ p && not q
unfolding xor
xor_part true true = refl
xor_part true false = refl
xor_part false true = refl
xor_part false false = refl

pub bit_without : (a b i : ℕ) → bit (without a b) i ≡ bit a i && not (bit b i)
bit_without a b i = bit_xor_lem a (bit_and a b) i ∙ ap (xor (bit a i)) (bit_and_lem a b i) ∙ xor_part (bit a i) (bit b i)

-- ---- numbers with known bits

pub bit_of_zero : (i : ℕ) → bit 0 i ≡ false
unfolding bit
bit_of_zero i = ap (λ (x : ℕ). eqb (x % 2) 1) (zero-div (2 ^ i))

pub bit_high : (w m i : ℕ) → m < 2 ^ w → w ≤ i → bit m i ≡ false
unfolding bit
bit_high w m i h l = ap (λ (x : ℕ). eqb (x % 2) 1) (div-eq_of_lt (lt_of_lt_of_le h (pow_mono l)))

pub bit_pow : (k i : ℕ) → bit (2 ^ k) i ≡ eqb i k
bit_pow zero zero = bit_zero 1
bit_pow zero (suc i) = bit_high 1 1 (suc i) (omega arith) (omega arith) ∙ sym (eqb-suc-zero i)
bit_pow (suc k) zero =
    let even : 2 ^ suc k % 2 ≡ 0 = omega (arith, pow-suc 2 k) in
    bit_zero (2 ^ suc k) ∙ ap (λ (x : ℕ). eqb x 1) even ∙ sym (eqb-zero-suc k)
bit_pow (suc k) (suc i) =
    let half : 2 ^ suc k / 2 ≡ 2 ^ k = omega (arith, pow-suc 2 k) in
    bit_suc (2 ^ suc k) i ∙ ap (λ (x : ℕ). bit x i) half ∙ bit_pow k i ∙ sym (eqb-suc-suc i k)

-- marking sets that bit and no other
pub bit_marked : (m i j : ℕ) → bit (marked m i) j ≡ bit m j || eqb j i
unfolding marked
bit_marked m i j = bit_or_lem m (2 ^ i) j ∙ ap (λ (b : Bool). bit m j || b) (bit_pow i j)

-- ---- the bits determine the number

same_low : (x : ℕ) → x < 2 → (y : ℕ) → y < 2 → eqb x 1 ≡ eqb y 1 → x ≡ y
same_low =
    below_two (λ x. (y : ℕ) → y < 2 → eqb x 1 ≡ eqb y 1 → x ≡ y)
    (below_two (λ y. eqb 0 1 ≡ eqb y 1 → 0 ≡ y) (λ e. refl) (λ e. absurd (true≢false (sym e))))
    (below_two (λ y. eqb 1 1 ≡ eqb y 1 → 1 ≡ y) (λ e. absurd (true≢false e)) (λ e. refl))

pub bits_same : (w a b : ℕ) → a < 2 ^ w → b < 2 ^ w → ((i : ℕ) → i < w → bit a i ≡ bit b i) → a ≡ b
bits_same zero a b ha hb h = lt-one ha ∙ sym (lt-one hb)
bits_same (suc w) a b ha hb h =
    let rest : a / 2 ≡ b / 2 = bits_same w (a / 2) (b / 2) (omega (arith, pow-suc 2 w)) (omega (arith, pow-suc 2 w)) (λ i l. sym (bit_suc a i) ∙ h (suc i) (omega arith) ∙ bit_suc b i) in
    let low : a % 2 ≡ b % 2 = same_low (a % 2) (low_two a) (b % 2) (low_two b) (sym (bit_zero a) ∙ h 0 (omega arith) ∙ bit_zero b) in
    omega arith

-- at all bits, whatever the width
under_power : (n : ℕ) → n < 2 ^ n
under_power zero = pow_pos 0
under_power (suc n) = omega (arith, under_power n)

pub same_bits : (a b : ℕ) → ((i : ℕ) → bit a i ≡ bit b i) → a ≡ b
same_bits a b h =
    bits_same (a + b) a b (lt_of_lt_of_le (under_power a) (pow_mono (let l : a ≤ a + b = omega arith in l))) (lt_of_lt_of_le (under_power b) (pow_mono (let l : b ≤ a + b = omega arith in l))) (λ i l. h i)

pub no_bits : (m : ℕ) → ((i : ℕ) → bit m i ≡ false) → m ≡ 0
no_bits m h = same_bits m 0 (λ i. h i ∙ sym (bit_of_zero i))

-- no bit at or above w: a number below 2 ^ w
pub bits_below : (w m : ℕ) → ((i : ℕ) → w ≤ i → bit m i ≡ false) → m < 2 ^ w
bits_below zero m h = omega (arith, no_bits m (λ i. h i (omega arith)))
bits_below (suc w) m h =
    let half : m / 2 < 2 ^ w = bits_below w (m / 2) (λ i l. sym (bit_suc m i) ∙ h (suc i) (omega arith)) in
    omega (arith, pow-suc 2 w)

-- ---- by shift, or and and, as the code has it

pub shift_marks : (w m i : ℕ) → i < w → bit_or m (1 * 2 ^ i % 2 ^ w) ≡ marked m i
unfolding marked
shift_marks w m i l = ap (bit_or m) (shl_exact 1 i w (lit< tt) (omega arith) ∙ one-mul (2 ^ i))

pub shift_tests : (m i : ℕ) → eqb (bit_and (m / 2 ^ i) 1) 1 ≡ bit m i
unfolding bit
shift_tests m i = ap (λ (x : ℕ). eqb x 1) (and_mask (m / 2 ^ i) 1)

pub shift_range : (m d : ℕ) → ltb (m / 2 ^ d) 2 ≡ only_bits m d
unfolding only_bits
shift_range m d = go (dec_lt (m / 2 ^ d) 2)
  where
    go : Dec (m / 2 ^ d < 2) → ltb (m / 2 ^ d) 2 ≡ ltb m (2 ^ suc d)
    go (yes l) = lt-ltb (m / 2 ^ d) 2 l ∙ sym (lt-ltb m (2 ^ suc d) (omega (arith, pow-suc 2 d, (div-lt_iff_lt-mul (pow_pos d)).0 l)))
    go (no l) =
        let h : ¬ (m < 2 ^ suc d) = λ k. l ((div-lt_iff_lt-mul (pow_pos d)).1 (omega (arith, pow-suc 2 d))) in
        le-ltb (m / 2 ^ d) 2 (omega arith) ∙ sym (le-ltb m (2 ^ suc d) (omega arith))
