-- Words and the names in cells. Assumes nothing.
use Prim.Native.Nat.{ℕ, zero, suc, ◌+◌, ◌-◌, ◌*◌, ◌/◌, ◌≤◌, ◌<◌}
use native.Mathlib.Nat.{not-suc-le-zero, le_of_suc-le-suc, le_refl}
use native.Mathlib.Omega.{arith}
use mathlib.Core.Bool.{Bool, true, false, ◌||◌, true≢false}
use mathlib.Core.List.{List, [], ◌∷◌}
use Rattle.std.specs.Prelude.{None, Some}
use mathlib.Core.Path.{◌≡◌, refl, sym, ◌∙◌, ap, ap₂, subst}
use lib.Dec.{eqb}
use Rattle.std.specs.Prelude.{is_some}
use lib.ListN.{length, get_or, take, drop, drop_of_length-le}
use lib.Seq.{drop-drop, drop-cons}
use borrow.Author.Tests.{eqb-true, eq-eqb, le-leb, lt-leb}
use Rattle.packet.specs.Lowest.{lowest}
use Rattle.packet.proofs.Lowest.{Found, lowest_is, lowest_found, lowest_none_whole}
use Rattle.packet.proofs.Tests.{and_true}
use Rattle.fields.specs.Bytes.{is_small, is_digit}
use Rattle.fields.specs.Names.{same_word, field_named, is_named, cell_name, names_from, names_in, well_formed, all_small_or_digit}

pub same_eq : (a b : List ℕ) → same_word a b ≡ true → a ≡ b
same_eq [] [] e = refl
same_eq [] (y ∷ ys) e = absurd (true≢false (sym e))
same_eq (x ∷ xs) [] e = absurd (true≢false (sym e))
same_eq (x ∷ xs) (y ∷ ys) e = ap₂ ◌∷◌ (eqb-true x y (and_true (eqb x y) (same_word xs ys) e).0) (same_eq xs ys (and_true (eqb x y) (same_word xs ys) e).1)

pub same_refl : (a : List ℕ) → same_word a a ≡ true
same_refl [] = refl
same_refl (x ∷ xs) = rw (eq-eqb x x refl) (same_refl xs)

-- the answer of a test that two words are the same
pub same_is : (r : Bool) (a b : List ℕ) → (r ≡ true → a ≡ b) → (a ≡ b → r ≡ true) → r ≡ same_word a b
same_is true a b f g = sym (subst (λ (x : List ℕ). same_word a x ≡ true) (f refl) (same_refl a))
same_is false a b f g = go (same_word a b) refl
  where
    go : (s : Bool) → same_word a b ≡ s → false ≡ same_word a b
    go true e = absurd (true≢false (sym (g (same_eq a b e))))
    go false e = sym e

-- ---- cells

-- a cell whose length is over 15 holds the empty word
pub long_name : (cell : List ℕ) → 15 < get_or cell 0 0 → [] ≡ cell_name cell
unfolding cell_name
long_name [] h = absurd (not-suc-le-zero h)
long_name (n ∷ bs) h = rw (lt-leb n 15 h) refl

-- else the name is as long as its first byte says
pub short_name : (cell : List ℕ) → 16 ≡ length cell → get_or cell 0 0 ≤ 15 → cell_name cell ≡ take (get_or cell 0 0) (drop 1 cell)
unfolding cell_name
short_name [] e h = refl
short_name (n ∷ bs) e h = rw (le-leb n 15 h) refl

-- as a function cuts it out
pub name_cut : (cell : List ℕ) → 16 ≡ length cell → get_or cell 0 0 ≤ 15 → take (get_or cell 0 0 + 1 - 1) (drop 1 cell) ≡ cell_name cell
name_cut cell e h = let one : get_or cell 0 0 + 1 - 1 ≡ get_or cell 0 0 = omega arith in ap (λ (k : ℕ). take k (drop 1 cell)) one ∙ sym (short_name cell e h)

pub length_names_from : (n : ℕ) (cells : List ℕ) → length (names_from n cells) ≡ n
unfolding names_from
length_names_from zero cells = refl
length_names_from (suc n) cells = ap suc (length_names_from n (drop 16 cells))

pub length_names : (cells : List ℕ) → length (names_in cells) ≡ length cells / 16
unfolding names_in
length_names cells = length_names_from (length cells / 16) cells

-- name i lies in cell i
pub names_from_at : (n : ℕ) (cells : List ℕ) (i : ℕ) → i < n → get_or (names_from n cells) i [] ≡ cell_name (take 16 (drop (i * 16) cells))
unfolding names_from
names_from_at zero cells i h = absurd (not-suc-le-zero h)
names_from_at (suc n) cells zero h = refl
names_from_at (suc n) cells (suc i) h =
    let next : 16 + i * 16 ≡ suc i * 16 = omega arith in
    names_from_at n (drop 16 cells) i (le_of_suc-le-suc h)
    ∙ ap (λ (l : List ℕ). cell_name (take 16 l)) (drop-drop (i * 16) 16 cells ∙ ap (λ (k : ℕ). drop k cells) next)

pub names_at : (cells : List ℕ) (i : ℕ) → i < length cells / 16 → get_or (names_in cells) i [] ≡ cell_name (take 16 (drop (i * 16) cells))
unfolding names_in
names_at cells i h = names_from_at (length cells / 16) cells i h

-- ---- bytes of names

module _ (w : List ℕ) (i : ℕ) where
  pub all_fails : i < length w → (is_small (get_or w i 0) || is_digit (get_or w i 0)) ≡ false → all_small_or_digit (drop i w) ≡ false
  unfolding all_small_or_digit
  all_fails h e = ap all_small_or_digit (drop-cons w i 0 h) ∙ rw e refl

  pub all_on : i < length w → (is_small (get_or w i 0) || is_digit (get_or w i 0)) ≡ true → all_small_or_digit (drop i w) ≡ all_small_or_digit (drop (suc i) w)
  unfolding all_small_or_digit
  all_on h e = ap all_small_or_digit (drop-cons w i 0 h) ∙ rw e refl

  pub all_end : length w ≤ i → all_small_or_digit (drop i w) ≡ true
  unfolding all_small_or_digit
  all_end h = ap all_small_or_digit (drop_of_length-le w h)

pub no_name : (w : List ℕ) → length w ≡ 0 → well_formed w ≡ false
unfolding well_formed
no_name [] e = refl
no_name (b ∷ bs) e = absurd (not-suc-le-zero (subst (λ (k : ℕ). k ≤ 0) (sym e) (le_refl 0)))

-- ---- looking a word up

-- the word is name f
abbrev pub bears : List ℕ → List ℕ → ℕ → Bool
bears cells w f = same_word w (get_or (names_in cells) f [])

pub bears_cell : (cells w : List ℕ) (f : ℕ) {r s : Bool} → f < length cells / 16 → r ≡ same_word w (cell_name (take (f * 16 + 16 - f * 16) (drop (f * 16) cells))) → r ≡ s → bears cells w f ≡ s
bears_cell cells w f h e q =
    let sixteen : f * 16 + 16 - f * 16 ≡ 16 = omega arith in
    ap (same_word w) (names_at cells f h ∙ sym (ap (λ (k : ℕ). cell_name (take k (drop (f * 16) cells))) sixteen)) ∙ sym e ∙ q

pub find_found : (cells w : List ℕ) (f : ℕ) → f < length cells / 16 → lowest (bears cells w) f ≡ None → bears cells w f ≡ true → field_named (names_in cells) w ≡ Some f
unfolding field_named
find_found cells w f h miss e = lowest_found (bears cells w) f (length (names_in cells)) miss e (subst (λ (k : ℕ). f < k) (sym (length_names cells)) h)

pub find_none : (cells w : List ℕ) (f : ℕ) → lowest (bears cells w) f ≡ None → f ≡ length cells / 16 → field_named (names_in cells) w ≡ None
unfolding field_named
find_none cells w f miss e = lowest_none_whole (bears cells w) f (length (names_in cells)) miss (e ∙ sym (length_names cells))

pub found_below : (names : List (List ℕ)) (w : List ℕ) (f : ℕ) → field_named names w ≡ Some f → f < length names
unfolding field_named
found_below names w f e = (subst (Found (λ (f : ℕ). same_word w (get_or names f [])) (length names)) e (lowest_is _ (length names))).below

pub is_named_lem : (names : List (List ℕ)) (w : List ℕ) (f : ℕ) → field_named names w ≡ Some f → is_named names w ≡ true
unfolding is_named
is_named_lem names w f e = ap is_some e

pub not_named : (names : List (List ℕ)) (w : List ℕ) → field_named names w ≡ None → is_named names w ≡ false
unfolding is_named
not_named names w e = ap is_some e
