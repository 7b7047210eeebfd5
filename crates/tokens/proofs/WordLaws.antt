-- What the word functions go by.
use Prim.Native.Nat.{ℕ, ◌+◌, ◌-◌, ◌*◌, ◌≤◌, ◌<◌}
use native.Mathlib.Nat.{le_refl}
use native.Mathlib.Omega.{arith}
use mathlib.Core.Bool.{Bool, true, false, ◌&&◌, ◌||◌, cond}
use mathlib.Core.List.{List, [], ◌∷◌}
use mathlib.Core.Path.{◌≡◌, refl, sym, subst}
use lib.Dec.{eqb, leb}
use lib.ListN.{length, get_or}
use borrow.Author.Tests.{le-leb, lt-leb, leb-true, le-ltb, lt-ltb}
use Rattle.packet.proofs.Lowest.{Found, lowest_is}
use Rattle.packet.proofs.Tests.{and_true}
use Rattle.fields.specs.Bytes.{is_digit}
use Rattle.fields.specs.Names.{same_word, field_named, names_in}
use Rattle.fields.proofs.NameLaws.{length_names}
use Rattle.std.specs.Prelude.{Option, Some, None}
use Rattle.grammar.specs.declared.Token.{Token}
use Rattle.grammar.specs.declared.Token.TheVariants.{Number, Bad}
use Rattle.grammar.specs.Tokens.{all_digits, decimal, leading_zero, is_number, number_token}
use Rattle.tokens.specs.Inner.{number_from}

pub and_false : (a : Bool) → a && false ≡ false
and_false true = refl
and_false false = refl

decimal_grows : (n : ℕ) (w : List ℕ) → n ≤ decimal n w
unfolding decimal
decimal_grows n [] = le_refl n
decimal_grows n (b ∷ bs) = let h : n * 10 + (b - 48) ≤ decimal (n * 10 + (b - 48)) bs = decimal_grows (n * 10 + (b - 48)) bs in omega arith

pub number_none : (n : ℕ) → n ≤ 65535 → number_from n [] ≡ Some n
unfolding number_from all_digits decimal
number_none n h = rw (le-leb n 65535 h)

pub number_more : (n b : ℕ) (bs : List ℕ) → is_digit b ≡ true → number_from n (b ∷ bs) ≡ number_from (n * 10 + (b - 48)) bs
unfolding number_from all_digits decimal
number_more n b bs e = rw e

pub number_not : (n b : ℕ) (bs : List ℕ) → is_digit b ≡ false → number_from n (b ∷ bs) ≡ None
unfolding number_from all_digits decimal
number_not n b bs e = rw e

pub number_large : (n : ℕ) (bs : List ℕ) → 65535 < n → number_from n bs ≡ None
unfolding number_from
number_large n bs h = rw (lt-leb (decimal n bs) 65535 (let g : n ≤ decimal n bs = decimal_grows n bs in omega arith), and_false (all_digits bs))

-- a field that has been found is one of at most eight
pub field_few : (cells w : List ℕ) (f : ℕ) → length cells ≤ 128 → Some f ≡ field_named (names_in cells) w → f < 8
unfolding field_named
field_few cells w f h e =
    let bears : ℕ → Bool = λ k. same_word w (get_or (names_in cells) k []) in
    let l : f < length (names_in cells) = (subst (Found bears (length (names_in cells))) (sym e) (lowest_is bears (length (names_in cells)))).below in
    omega (arith, length_names cells)

pub leading_short : (w : List ℕ) → length w ≤ 1 → leading_zero w ≡ false
unfolding leading_zero
leading_short w h = rw (le-ltb 1 (length w) h) (and_false (eqb (get_or w 0 0) 48))

pub leading_long : (w : List ℕ) → 1 < length w → leading_zero w ≡ eqb (get_or w 0 0) 48
unfolding leading_zero
leading_long w h = rw (lt-ltb 1 (length w) h) (go (eqb (get_or w 0 0) 48))
  where
    go : (b : Bool) → b && true ≡ b
    go true = refl
    go false = refl

pub number_zero : (w : List ℕ) → leading_zero w ≡ true → number_token w ≡ Bad
unfolding number_token is_number
number_zero w e = rw (e, and_false (all_digits w))

number_test : (w : List ℕ) → leading_zero w ≡ false → is_number w ≡ all_digits w && leb (decimal 0 w) 65535
unfolding is_number
number_test w e = rw e (go (all_digits w))
  where
    go : (b : Bool) → b && true && leb (decimal 0 w) 65535 ≡ b && leb (decimal 0 w) 65535
    go true = refl
    go false = refl

-- the token of a number, where there is one
abbrev pub numbered : Option ℕ → Token
numbered (Some n) = Number n
numbered None = Bad

pub number_is : (w : List ℕ) {o : Option ℕ} → leading_zero w ≡ false → o ≡ number_from 0 w → number_token w ≡ numbered o
unfolding number_token number_from
number_is w e q = rw (q, number_test w e) (go (all_digits w && leb (decimal 0 w) 65535))
  where
    go : (b : Bool) → cond b (Number (decimal 0 w)) Bad ≡ numbered (cond b (Some (decimal 0 w)) None)
    go true = refl
    go false = refl

pub digit_low : (b : ℕ) → is_digit b ≡ true → 48 ≤ b
unfolding is_digit
digit_low b e = leb-true 48 b (and_true (leb 48 b) (leb b 57) e).0

pub digit_high : (b : ℕ) → is_digit b ≡ true → b ≤ 57
unfolding is_digit
digit_high b e = leb-true b 57 (and_true (leb 48 b) (leb b 57) e).1

pub or_turn : (d u l : Bool) → (d || u) || l ≡ (u || l) || d
or_turn true true l = refl
or_turn true false true = refl
or_turn true false false = refl
or_turn false true true = refl
or_turn false true false = refl
or_turn false false true = refl
or_turn false false false = refl
