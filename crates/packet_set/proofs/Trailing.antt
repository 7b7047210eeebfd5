-- Trailing zeros are the lowest bit; a number without it. Over any width. Assumes nothing.
use Prim.Native.Nat.{ℕ, zero, suc, ◌-◌, ◌/◌, ◌%◌, ◌^◌, ◌<◌}
use mathlib.Core.Path.{◌≡◌, refl, sym, ap, ap₂, ◌∙◌}
use mathlib.Core.Bool.{Bool, true, false, not, ◌&&◌}
use native.Mathlib.Nat.{not-suc-le-zero, le_of_suc-le-suc, pow-suc, mod-lt, zero-lt-suc}
use native.Mathlib.Omega.{arith}
use lib.Bits.{bit_and, and_le_r}
use lib.Dec.{eqb, eqb-suc-zero, eqb-suc-suc}
use borrow.Author.Tests.{eq-eqb}
use lib.Count.{count_trailing_zeros, under}
use Rattle.packet_set.specs.Bits.{bit}
use Rattle.packet.proofs.Lowest.{IsLowest}
use Rattle.packet_set.proofs.Digits.{bit_zero, bit_suc, bit_and_lem}

pub trailing_lowest : (k n : ℕ) → n < 2 ^ k → 0 < n → IsLowest (bit n) k (count_trailing_zeros k n)
unfolding count_trailing_zeros
trailing_lowest zero n h p = absurd (omega arith)
trailing_lowest (suc k) n h p = go (n % 2) refl (mod-lt n (zero-lt-suc 1)) (trailing_lowest k (n / 2) (omega (arith, pow-suc 2 k)))
  where
    go : (d : ℕ) → n % 2 ≡ d → d < 2 → (0 < n / 2 → IsLowest (bit (n / 2)) k (count_trailing_zeros k (n / 2)))
        → IsLowest (bit n) (suc k) (under d (count_trailing_zeros k (n / 2)))
    go zero e l ih =
        let f : IsLowest (bit (n / 2)) k (count_trailing_zeros k (n / 2)) = ih (omega arith) in
        record { below = omega (arith, f.below); passes = bit_suc n (count_trailing_zeros k (n / 2)) ∙ f.passes; first = earlier f }
      where
        earlier : IsLowest (bit (n / 2)) k (count_trailing_zeros k (n / 2)) → (j : ℕ) → j < suc (count_trailing_zeros k (n / 2)) → bit n j ≡ false
        earlier f zero h = bit_zero n ∙ ap (λ (x : ℕ). eqb x 1) e
        earlier f (suc j) h = bit_suc n j ∙ f.first j (le_of_suc-le-suc h)
    go (suc zero) e l ih =
        record { below = zero-lt-suc k; passes = bit_zero n ∙ ap (λ (x : ℕ). eqb x 1) e; first = λ j h. absurd (not-suc-le-zero h) }
    go (suc (suc d)) e l ih = absurd (not-suc-le-zero (le_of_suc-le-suc (le_of_suc-le-suc l)))

pub trailing_below : (k n : ℕ) → n < 2 ^ k → 0 < n → count_trailing_zeros k n < k
trailing_below k n h p = (trailing_lowest k n h p).below

lowest_off : (k n : ℕ) → n < 2 ^ k → 0 < n → (j : ℕ) → bit n j && bit (n - 1) j ≡ bit n j && not (eqb j (count_trailing_zeros k n))
unfolding count_trailing_zeros
lowest_off zero n h p = absurd (omega arith)
lowest_off (suc k) n h p = go (n % 2) refl (mod-lt n (zero-lt-suc 1)) (lowest_off k (n / 2) (omega (arith, pow-suc 2 k)))
  where
    no_bit : (a b c : Bool) → a ≡ false → a && b ≡ a && c
    no_bit a b c e = rw e

    this_bit : (a b c : Bool) → b ≡ false → c ≡ true → a && b ≡ a && not c
    this_bit a b c e f = rw (e, f)

    other_bit : (a b c : Bool) → a ≡ b → c ≡ false → a && b ≡ a && not c
    other_bit true b c e f = rw (← e, f)
    other_bit false b c e f = refl

    go : (d : ℕ) → n % 2 ≡ d → d < 2 → (0 < n / 2 → (i : ℕ) → bit (n / 2) i && bit (n / 2 - 1) i ≡ bit (n / 2) i && not (eqb i (count_trailing_zeros k (n / 2))))
        → (j : ℕ) → bit n j && bit (n - 1) j ≡ bit n j && not (eqb j (under d (count_trailing_zeros k (n / 2))))
    go zero e l ih zero = no_bit (bit n 0) _ _ (bit_zero n ∙ ap (λ (x : ℕ). eqb x 1) e)
    go zero e l ih (suc i) =
        let half : (n - 1) / 2 ≡ n / 2 - 1 = omega arith in
        ap₂ (λ (a b : Bool). a && b) (bit_suc n i) (bit_suc (n - 1) i ∙ ap (λ (x : ℕ). bit x i) half) ∙ ih (omega arith) i
        ∙ sym (ap₂ (λ (a b : Bool). a && not b) (bit_suc n i) (eqb-suc-suc i (count_trailing_zeros k (n / 2))))
    go (suc zero) e l ih zero =
        let even : (n - 1) % 2 ≡ 0 = omega arith in
        this_bit (bit n 0) (bit (n - 1) 0) (eqb 0 0) (bit_zero (n - 1) ∙ ap (λ (x : ℕ). eqb x 1) even) (eq-eqb 0 0 refl)
    go (suc zero) e l ih (suc i) =
        let half : (n - 1) / 2 ≡ n / 2 = omega arith in
        other_bit (bit n (suc i)) (bit (n - 1) (suc i)) (eqb (suc i) 0) (bit_suc n i ∙ sym (bit_suc (n - 1) i ∙ ap (λ (x : ℕ). bit x i) half)) (eqb-suc-zero i)
    go (suc (suc d)) e l ih j = absurd (omega arith)

-- n & (n − 1) is n without its lowest bit
pub bit_cleared : (k n j : ℕ) → n < 2 ^ k → 0 < n → bit (bit_and n (n - 1)) j ≡ bit n j && not (eqb j (count_trailing_zeros k n))
bit_cleared k n j h p = bit_and_lem n (n - 1) j ∙ lowest_off k n h p j

pub cleared_less : (n : ℕ) → 0 < n → bit_and n (n - 1) < n
cleared_less n p = omega (arith, and_le_r n (n - 1))
