-- What the token functions go by.
use Prim.Native.Nat.{ℕ, zero, suc, ◌+◌, ◌-◌, ◌≤◌, ◌<◌}
use native.Mathlib.Nat.{zero-add, le_refl}
use native.Mathlib.Omega.{arith}
use mathlib.Core.Bool.{Bool, true, false, ◌&&◌, ◌||◌, cond, true≢false}
use mathlib.Core.List.{List, [], ◌∷◌}
use mathlib.Core.Path.{◌≡◌, refl, sym, ◌∙◌, ap, ap₂, subst}
use lib.Dec.{eqb, ltb}
use lib.ListN.{length, get_or, take, drop, length-drop, drop_of_length-le, get_or-eq_default}
use lib.Seq.{drop-cons, drop-drop, get_or-drop}
use borrow.Author.Tests.{eqb-true, ltb-true, ltb-false}
use Rattle.fields.specs.Bytes.{is_blank, in_word}
use Rattle.grammar.specs.declared.Token.{Token}
use Rattle.grammar.specs.declared.Comparison.{Comparison}
use Rattle.grammar.specs.declared.Token.TheVariants.{Operator, Exclamation, Bad}
use Rattle.grammar.specs.declared.Comparison.TheVariants.{Different, Assigned}
use Rattle.grammar.specs.Tokens.{Placed, word_token, single_mark, is_double, double_mark, begins_double, mark_token, word_of, front_token, rest_of_token, placed_from, tokens_from}
use Rattle.tokens.specs.Inner.{FrontAt, FirstAt, Skipped}
use Rattle.tokens.specs.declared.Placed as Found
use Rattle.tokens.proofs.WordLaws.{and_false}

module _ (names : List (List ℕ)) where
  pub placed_over : (k at : ℕ) (bs : List ℕ) → placed_from names k at bs ≡ placed_from names 0 (k + at) (drop k bs)
  unfolding placed_from
  placed_over zero at bs = ap (λ (n : ℕ). placed_from names 0 n bs) (sym (zero-add at))
  placed_over (suc k) at [] = refl
  placed_over (suc k) at (b ∷ bs) = placed_over k (suc at) bs ∙ ap (λ (n : ℕ). placed_from names 0 n (drop k bs)) (omega arith)

  pub placed_blank : (at b : ℕ) (bs : List ℕ) → is_blank b ≡ true → placed_from names 0 at (b ∷ bs) ≡ placed_from names 0 (suc at) bs
  unfolding placed_from
  placed_blank at b bs e = rw (e, placed_from)

  pub placed_front : (at b : ℕ) (bs : List ℕ) → is_blank b ≡ false
      → placed_from names 0 at (b ∷ bs) ≡ record { token = front_token names b bs; start = at } ∷ placed_from names (rest_of_token b bs) (suc at) bs
  unfolding placed_from
  placed_front at b bs e = rw (e, placed_from)

  pub from_end : (text : List ℕ) (at : ℕ) → length text ≤ at → tokens_from names text at ≡ []
  unfolding tokens_from placed_from
  from_end text at h = rw (drop_of_length-le text h)

  pub from_blank : (text : List ℕ) (at : ℕ) → at < length text → is_blank (get_or text at 0) ≡ true → tokens_from names text at ≡ tokens_from names text (suc at)
  unfolding tokens_from
  from_blank text at h e = rw (drop-cons text at 0 h) (placed_blank at (get_or text at 0) (drop (suc at) text) e)

  pub from_front : (text : List ℕ) (at : ℕ) → at < length text → is_blank (get_or text at 0) ≡ false
      → tokens_from names text at
      ≡ record { token = front_token names (get_or text at 0) (drop (suc at) text); start = at }
      ∷ tokens_from names text (suc at + rest_of_token (get_or text at 0) (drop (suc at) text))
  unfolding tokens_from
  from_front text at h e =
      rw (drop-cons text at 0 h) (placed_front at (get_or text at 0) (drop (suc at) text) e)
      ∙ ap (λ (l : List Placed). record { token = front_token names (get_or text at 0) (drop (suc at) text); start = at } ∷ l)
      (placed_over (rest_of_token (get_or text at 0) (drop (suc at) text)) (suc at) (drop (suc at) text)
      ∙ ap₂ (λ (n : ℕ) (l : List ℕ). placed_from names 0 n l) (omega arith)
      (drop-drop (rest_of_token (get_or text at 0) (drop (suc at) text)) (suc at) text))

-- one byte more of a word
pub word_more : (text : List ℕ) (i : ℕ) → i < length text → in_word (get_or text i 0) ≡ true → word_of (drop i text) ≡ get_or text i 0 ∷ word_of (drop (suc i) text)
unfolding word_of
word_more text i h e = rw (drop-cons text i 0 h, e)

pub word_stops : (text : List ℕ) (i : ℕ) → i < length text → in_word (get_or text i 0) ≡ false → word_of (drop i text) ≡ []
unfolding word_of
word_stops text i h e = rw (drop-cons text i 0 h, e)

pub word_none : (text : List ℕ) (i : ℕ) → length text ≤ i → word_of (drop i text) ≡ []
unfolding word_of
word_none text i h = rw (drop_of_length-le text h)

word_part : (xs : List ℕ) → take (length (word_of xs)) xs ≡ word_of xs
unfolding word_of
word_part [] = refl
word_part (b ∷ bs) = go (in_word b) refl (word_part bs)
  where
    go : (t : Bool) → in_word b ≡ t → take (length (word_of bs)) bs ≡ word_of bs → take (length (word_of (b ∷ bs))) (b ∷ bs) ≡ word_of (b ∷ bs)
    go true e h = rw e (ap (λ (l : List ℕ). b ∷ l) h)
    go false e h = rw e

word_short : (xs : List ℕ) → length (word_of xs) ≤ length xs
unfolding word_of
word_short [] = le_refl 0
word_short (b ∷ bs) = go (in_word b) refl (word_short bs)
  where
    go : (t : Bool) → in_word b ≡ t → length (word_of bs) ≤ length bs → length (word_of (b ∷ bs)) ≤ length (b ∷ bs)
    go true e h = rw e (omega arith)
    go false e h = rw e (omega arith)

-- the token of a word
pub front_word : (names : List (List ℕ)) (text : List ℕ) (at end : ℕ) {t : Token} → at < length text → in_word (get_or text at 0) ≡ true
    → end ≡ at + length (word_of (drop at text))
    → t ≡ word_token names (take (end - at) (drop at text))
    → FrontAt names text at (record { token = t; start = at; next = end })
unfolding front_token rest_of_token
front_word names text at end h e q n =
    record {
      is = n ∙ token;
      starts = refl;
      ends = rw e (let l : length (word_of (drop at text)) ≡ suc (length (word_of (drop (suc at) text))) = ap length (word_more text at h e) in omega arith);
      within = let l : length (word_of (drop at text)) ≤ length (drop at text) = word_short (drop at text) in omega (arith, length-drop at text);
    }
  where
    front : drop at text ≡ get_or text at 0 ∷ drop (suc at) text
    front = drop-cons text at 0 h

    part : take (end - at) (drop at text) ≡ word_of (drop at text)
    part = let l : end - at ≡ length (word_of (drop at text)) = omega (arith, q) in ap (λ (k : ℕ). take k (drop at text)) l ∙ word_part (drop at text)

    token : word_token names (take (end - at) (drop at text)) ≡ front_token names (get_or text at 0) (drop (suc at) text)
    token = ap (word_token names) (part ∙ ap word_of front) ∙ sym (rw e)

after_is : (text : List ℕ) (at : ℕ) → get_or (drop (suc at) text) 0 0 ≡ get_or text (at + 1) 0
after_is text at = get_or-drop (suc at) text 0 0 ∙ ap (λ (k : ℕ). get_or text k 0) (omega arith)

-- the token of a mark, which has one byte more or not
pub front_mark : (names : List (List ℕ)) (text : List ℕ) (at next : ℕ) {t : Token} → at < length text → in_word (get_or text at 0) ≡ false
    → t ≡ mark_token (get_or text at 0) (get_or text (at + 1) 0)
    → next ≡ at + 1 + cond (is_double (get_or text at 0) (get_or text (at + 1) 0)) 1 0
    → next ≤ length text
    → FrontAt names text at (record { token = t; start = at; next = next })
unfolding front_token rest_of_token
front_mark names text at next h e n q w =
    record {
      is = rw (e, after_is text at) n;
      starts = refl;
      ends = q ∙ rw (e, after_is text at) (ap (λ (k : ℕ). k + cond (is_double (get_or text at 0) (get_or text (at + 1) 0)) 1 0) (omega arith));
      within = w;
    }

pub word_within : (text : List ℕ) (at r : ℕ) → at ≤ length text → r ≡ at + length (word_of (drop at text)) → r ≤ length text
word_within text at r h e = let l : length (word_of (drop at text)) ≤ length (drop at text) = word_short (drop at text) in omega (arith, length-drop at text)

-- a byte that makes no mark of two with the next
pub mark_alone : (b a : ℕ) → is_double b a ≡ false → mark_token b a ≡ mark_token b 0
unfolding mark_token double_mark begins_double is_double
mark_alone b a e = go (eqb b 33) (eqb b 60) (eqb a 61) (eqb a 45) e
  where
    go : (x y u v : Bool) → (x && u) || (y && v) ≡ false
        → cond (x || y) (cond x (cond u (Operator Different) Exclamation) (cond (y && v) (Operator Assigned) Bad)) (single_mark b)
        ≡ cond (x || y) (cond x Exclamation (cond (y && false) (Operator Assigned) Bad)) (single_mark b)
    go true y true v e = absurd (true≢false e)
    go true y false v e = refl
    go false true u true e = absurd (true≢false e)
    go false true u false e = refl
    go false false u v e = refl

-- and two that are one mark: the first says which
pub mark_double : (b a : ℕ) → is_double b a ≡ true → mark_token b a ≡ Operator (cond (eqb b 33) Different Assigned)
unfolding mark_token double_mark begins_double is_double
mark_double b a e = go (eqb b 33) refl
  where
    bang : (u v : Bool) → u || v ≡ true → v ≡ false → cond u (Operator Different) Exclamation ≡ Operator Different
    bang true v e f = refl
    bang false v e f = absurd (true≢false (sym e ∙ f))

    other : (y v : Bool) → y && v ≡ true → cond y (cond (y && v) (Operator Assigned) Bad) (single_mark b) ≡ Operator Assigned
    other true true e = refl
    other true false e = absurd (true≢false (sym e))
    other false v e = absurd (true≢false (sym e))

    Goal : ℕ → Type 0
    Goal x = is_double x a ≡ true → mark_token x a ≡ Operator (cond (eqb x 33) Different Assigned)

    go : (x : Bool) → eqb b 33 ≡ x → mark_token b a ≡ Operator (cond (eqb b 33) Different Assigned)
    go true q = subst Goal (sym (eqb-true b 33 q)) (λ d. bang (eqb a 61) false d refl) e
    go false q = rw q (other (eqb b 60) (eqb a 45) (sym (rw q) ∙ e))

lone_not : (b : ℕ) → is_double b 0 ≡ false
unfolding is_double
lone_not b = rw (and_false (eqb b 33), and_false (eqb b 60))

module _ (names : List (List ℕ)) (text : List ℕ) (at : ℕ) {after : ℕ} (h : at < length text) (word : in_word (get_or text at 0) ≡ false) (next : after ≡ get_or text (at + 1) 0) where
  pub front_alone : {t : Token} → is_double (get_or text at 0) after ≡ false → t ≡ mark_token (get_or text at 0) 0 → FrontAt names text at (record { token = t; start = at; next = at + 1 })
  front_alone d e =
      let n : is_double (get_or text at 0) (get_or text (at + 1) 0) ≡ false = ap (is_double (get_or text at 0)) (sym next) ∙ d in
      let z : at + 1 ≡ at + 1 + 0 = omega arith in
      front_mark names text at (at + 1) h word (e ∙ sym (mark_alone _ _ n)) (rw n z) (omega arith)

  pub front_two : {c : Comparison} → is_double (get_or text at 0) after ≡ true → c ≡ cond (eqb (get_or text at 0) 33) Different Assigned → FrontAt names text at (record { token = Operator c; start = at; next = at + 2 })
  front_two d e =
      let n : is_double (get_or text at 0) (get_or text (at + 1) 0) ≡ true = ap (is_double (get_or text at 0)) (sym next) ∙ d in
      let z : at + 2 ≡ at + 1 + 1 = omega arith in
      front_mark names text at (at + 2) h word (ap Operator e ∙ sym (mark_double _ _ n)) (rw n z) (go (ltb (at + 1) (length text)) refl n)
    where
      go : (b : Bool) → ltb (at + 1) (length text) ≡ b → is_double (get_or text at 0) (get_or text (at + 1) 0) ≡ true → at + 2 ≤ length text
      go true q n = let l : at + 1 < length text = ltb-true _ _ q in omega arith
      go false q n = absurd (true≢false (sym n ∙ ap (is_double (get_or text at 0)) (get_or-eq_default text 0 (ltb-false _ _ q)) ∙ lone_not (get_or text at 0)))

-- the first token after blanks
module _ (names : List (List ℕ)) (text : List ℕ) (at s : ℕ) (k : Skipped text at s) where
  pub token_end : length text ≤ s → tokens_from names text at ≡ []
  token_end h = sym (k.same names) ∙ from_end names text s h

  pub token_front : (r : Found.Placed) → s < length text → FrontAt names text s r → FirstAt names text at r
  token_front r h f =
      record {
        tokens_are =
            sym (k.same names) ∙ from_front names text s h (k.found h)
            ∙ ap₂ (λ (x : Placed) (n : ℕ). x ∷ tokens_from names text n)
            (ap₂ (λ (x : Token) (n : ℕ). record { token = x; start = n }) (sym f.is) (sym f.starts)) (sym f.ends);
        low = omega (arith, k.low, f.starts);
        onward = omega (arith, f.starts, f.ends);
        within = f.within;
      }
