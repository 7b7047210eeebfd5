-- The tokens left never grow as a reader goes on, wherever a token is cut, and fall with each token read.
use Prim.Native.Nat.{ℕ, zero, suc, ◌+◌, ◌-◌, ◌≤◌, ◌<◌}
use native.Mathlib.Omega.{arith}
use mathlib.Core.Bool.{Bool, true, false, cond, true≢false}
use mathlib.Core.List.{List, [], ◌∷◌}
use mathlib.Core.Path.{◌≡◌, refl, sym, ◌∙◌, ap, ap₂}
use lib.ListN.{length, drop}
use lib.Seq.{drop-drop}
use borrow.Author.Tests.{ne_eqb}
use Rattle.fields.specs.Bytes.{is_blank, is_capital, is_small, is_letter, is_digit, in_word}
use Rattle.grammar.specs.Tokens.{is_double, word_of, rest_of_token, placed_from, tokens_from}
use Rattle.tokens.specs.Inner.{FirstAt}
use Rattle.tokens.specs.declared.Placed as Found
use Rattle.tokens.proofs.TokenLaws.{placed_over, placed_blank, placed_front}

word_no_blank : (b : ℕ) → in_word b ≡ true → is_blank b ≡ false
unfolding is_blank in_word is_capital is_small is_letter is_digit
word_no_blank b e = rw (ne_eqb b 32 (λ q. true≢false (sym e ∙ ap in_word q)), ne_eqb b 9 (λ q. true≢false (sym e ∙ ap in_word q)))

rest_word : (b c : ℕ) (cs : List ℕ) → in_word b ≡ true → in_word c ≡ true → rest_of_token b (c ∷ cs) ≡ suc (rest_of_token c cs)
unfolding rest_of_token word_of
rest_word b c cs p q = rw (p, q)

rest_none : (b c : ℕ) (cs : List ℕ) → in_word b ≡ true → in_word c ≡ false → rest_of_token b (c ∷ cs) ≡ 0
unfolding rest_of_token word_of
rest_none b c cs p q = rw (p, q)

rest_mark : (b c : ℕ) (cs : List ℕ) → in_word b ≡ false → rest_of_token b (c ∷ cs) ≡ cond (is_double b c) 1 0
unfolding rest_of_token
rest_mark b c cs p = rw p

module _ (names : List (List ℕ)) where
  -- how many tokens there are after so many bytes
  unfoldable count : ℕ → List ℕ → ℕ
  count over bs = length (placed_from names over 0 bs)

  place_free : (over at at' : ℕ) (bs : List ℕ) → length (placed_from names over at bs) ≡ length (placed_from names over at' bs)
  unfolding placed_from
  place_free zero at at' [] = refl
  place_free (suc over) at at' [] = refl
  place_free (suc over) at at' (b ∷ bs) = place_free over (suc at) (suc at') bs
  place_free zero at at' (b ∷ bs) = go (is_blank b) refl (place_free zero (suc at) (suc at') bs) (place_free (rest_of_token b bs) (suc at) (suc at') bs)
    where
      go : (t : Bool) → is_blank b ≡ t → length (placed_from names 0 (suc at) bs) ≡ length (placed_from names 0 (suc at') bs)
          → length (placed_from names (rest_of_token b bs) (suc at) bs) ≡ length (placed_from names (rest_of_token b bs) (suc at') bs)
          → length (placed_from names 0 at (b ∷ bs)) ≡ length (placed_from names 0 at' (b ∷ bs))
      go true e h k = ap length (placed_blank names at b bs e) ∙ h ∙ sym (ap length (placed_blank names at' b bs e))
      go false e h k = ap length (placed_front names at b bs e) ∙ ap suc k ∙ sym (ap length (placed_front names at' b bs e))

  placed_length : (over at : ℕ) (bs : List ℕ) → length (placed_from names over at bs) ≡ count over bs
  unfolding count
  placed_length over at bs = place_free over at 0 bs

  count_none : (over : ℕ) → count over [] ≡ 0
  unfolding count placed_from
  count_none zero = refl
  count_none (suc over) = refl

  count_over : (over b : ℕ) (bs : List ℕ) → count (suc over) (b ∷ bs) ≡ count over bs
  unfolding count placed_from
  count_over over b bs = placed_length over 1 bs

  count_blank : (b : ℕ) (bs : List ℕ) → is_blank b ≡ true → count 0 (b ∷ bs) ≡ count 0 bs
  unfolding count
  count_blank b bs e = ap length (placed_blank names 0 b bs e) ∙ placed_length 0 1 bs

  count_front : (b : ℕ) (bs : List ℕ) → is_blank b ≡ false → count 0 (b ∷ bs) ≡ suc (count (rest_of_token b bs) bs)
  unfolding count
  count_front b bs e = ap length (placed_front names 0 b bs e) ∙ ap suc (placed_length (rest_of_token b bs) 1 bs)

  -- to skip bytes, or to begin a byte later, makes no token more
  record Fewer (bs : List ℕ) : Type 0 where
    skipped : (over : ℕ) → count over bs ≤ count 0 bs
    later : (b : ℕ) → count 0 bs ≤ count 0 (b ∷ bs)

  one_more : (c : ℕ) (cs : List ℕ) → Fewer cs → count 0 (c ∷ cs) ≤ suc (count 0 cs)
  one_more c cs f = go (is_blank c) refl
    where
      go : (t : Bool) → is_blank c ≡ t → count 0 (c ∷ cs) ≤ suc (count 0 cs)
      go true e = omega (arith, count_blank c cs e)
      go false e = omega (arith, count_front c cs e, f.skipped (rest_of_token c cs))

  -- a token cut after its first byte is one token or none
  cut : (b c : ℕ) (cs : List ℕ) → Fewer cs → count 0 (c ∷ cs) ≤ suc (count (rest_of_token b (c ∷ cs)) (c ∷ cs))
  cut b c cs f = go (in_word b) (in_word c) (is_double b c) refl refl refl
    where
      rest : (n : ℕ) → rest_of_token b (c ∷ cs) ≡ n → count 0 (c ∷ cs) ≤ suc (count n (c ∷ cs)) → count 0 (c ∷ cs) ≤ suc (count (rest_of_token b (c ∷ cs)) (c ∷ cs))
      rest n e h = omega (arith, h, ap (λ (m : ℕ). count m (c ∷ cs)) e)

      go : (s t u : Bool) → in_word b ≡ s → in_word c ≡ t → is_double b c ≡ u → count 0 (c ∷ cs) ≤ suc (count (rest_of_token b (c ∷ cs)) (c ∷ cs))
      go true true u p q r =
          rest (suc (rest_of_token c cs)) (rest_word b c cs p q) (omega (arith, count_front c cs (word_no_blank c q), count_over (rest_of_token c cs) c cs))
      go true false u p q r = rest 0 (rest_none b c cs p q) (omega arith)
      go false t true p q r = rest 1 (rest_mark b c cs p ∙ rw r) (omega (arith, one_more c cs f, count_over 0 c cs))
      go false t false p q r = rest 0 (rest_mark b c cs p ∙ rw r) (omega arith)

  fewer : (bs : List ℕ) → Fewer bs
  fewer [] = record { skipped = λ over. omega (arith, count_none over, count_none 0); later = λ b. omega (arith, count_none 0) }
  fewer (c ∷ cs) = record { skipped = skipped (fewer cs); later = λ b. later b (is_blank b) refl (fewer cs) }
    where
      skipped : Fewer cs → (over : ℕ) → count over (c ∷ cs) ≤ count 0 (c ∷ cs)
      skipped f zero = omega arith
      skipped f (suc over) = omega (arith, count_over over c cs, f.skipped over, f.later c)

      later : (b : ℕ) (t : Bool) → is_blank b ≡ t → Fewer cs → count 0 (c ∷ cs) ≤ count 0 (b ∷ c ∷ cs)
      later b true e f = omega (arith, count_blank b (c ∷ cs) e)
      later b false e f = omega (arith, count_front b (c ∷ cs) e, cut b c cs f)

  -- the tokens left never grow
  pub no_more : (text : List ℕ) (at at' : ℕ) → at ≤ at' → length (tokens_from names text at') ≤ length (tokens_from names text at)
  unfolding tokens_from
  no_more text at at' h =
      let place : at' - at + at ≡ at' = omega arith in
      let sum : at + (at' - at) ≡ at' = omega arith in
      let bytes : drop (at' - at) (drop at text) ≡ drop at' text = drop-drop (at' - at) at text ∙ ap (λ (n : ℕ). drop n text) sum in
      let there : length (placed_from names 0 at' (drop at' text)) ≡ count (at' - at) (drop at text) = sym (ap₂ (λ (n : ℕ) (l : List ℕ). length (placed_from names 0 n l)) place bytes)
      ∙ sym (ap length (placed_over names (at' - at) at (drop at text))) ∙ placed_length (at' - at) at (drop at text) in
      omega (arith, there, placed_length 0 at (drop at text), (fewer (drop at text)).skipped (at' - at))

  -- a token read on from `at`, at once or later, leaves fewer
  pub fewer_next : (text : List ℕ) {at at' : ℕ} {t : Found.Placed} → at ≤ at' → FirstAt names text at' t → length (tokens_from names text t.next) < length (tokens_from names text at)
  fewer_next text {at} {at'} h f = omega (arith, ap length f.tokens_are, no_more text at at' h)
