-- A number as it is printed reads back as itself.
use Prim.Native.Nat.{ℕ, zero, suc, ◌+◌, ◌-◌, ◌*◌, ◌/◌, ◌%◌, ◌<◌}
use native.Mathlib.Nat.{not-suc-le-zero, div-lt_iff_lt-mul, div-add-mod'}
use native.Mathlib.Decide.{dec_lt}
use native.Mathlib.Omega.{arith}
use mathlib.Core.Bool.{true, false}
use mathlib.Core.List.{List, [], ◌∷◌, ◌++◌}
use mathlib.Core.Path.{◌≡◌, refl, ◌∙◌, ap}
use lib.Dec.{ltb}
use borrow.Author.Tests.{lt-ltb, le-ltb}
use Rattle.grammar.specs.Tokens.{decimal}
use Rattle.printing.specs.ThreeFields.{digits_up_to, numeral}

decimal_last : (n : ℕ) (xs : List ℕ) (b : ℕ) → decimal n (xs ++ (b ∷ [])) ≡ decimal n xs * 10 + (b - 48)
unfolding decimal
decimal_last n [] b = refl
decimal_last n (x ∷ xs) b = decimal_last (n * 10 + (x - 48)) xs b

digits_small : (k n : ℕ) → ltb n 10 ≡ true → digits_up_to (suc k) n ≡ (48 + n) ∷ []
unfolding digits_up_to
digits_small k n e = rw (e, digits_up_to)

digits_large : (k n : ℕ) → ltb n 10 ≡ false → digits_up_to (suc k) n ≡ digits_up_to k (n / 10) ++ ((48 + n % 10) ∷ [])
unfolding digits_up_to
digits_large k n e = rw (e, digits_up_to)

one_digit : (n : ℕ) → decimal 0 ((48 + n) ∷ []) ≡ n
unfolding decimal
one_digit n = omega arith

digits_read : (k n : ℕ) → n < k → decimal 0 (digits_up_to k n) ≡ n
digits_read zero n h = absurd (not-suc-le-zero h)
digits_read (suc k) n h = go (λ m l. digits_read k m l) (dec_lt n 10)
  where
    go : ((m : ℕ) → m < k → decimal 0 (digits_up_to k m) ≡ m) → Dec (n < 10) → decimal 0 (digits_up_to (suc k) n) ≡ n
    go below (yes l) = ap (decimal 0) (digits_small k n (lt-ltb n 10 l)) ∙ one_digit n
    go below (no l) =
        let tens : n / 10 < k = (div-lt_iff_lt-mul {k = 10} (omega arith)).1 (omega arith) in
        ap (decimal 0) (digits_large k n (le-ltb n 10 (omega arith)))
        ∙ decimal_last 0 (digits_up_to k (n / 10)) (48 + n % 10)
        ∙ ap (λ (m : ℕ). m * 10 + (48 + n % 10 - 48)) (below (n / 10) tens)
        ∙ omega (arith, div-add-mod' n 10)

-- so two printed numbers are the same only if the numbers are
pub numeral_read : (n : ℕ) → decimal 0 (numeral n) ≡ n
unfolding numeral
numeral_read n = digits_read (suc n) n (omega arith)
