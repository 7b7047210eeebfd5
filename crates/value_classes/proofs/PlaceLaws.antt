-- The place of a value among named values, and the lowest that is not named, found by keys. Assumes nothing.
use Prim.Native.Nat.{ℕ, zero, suc, ◌<◌, ◌≤◌, ◌+◌}
use native.Mathlib.Omega.{arith}
use native.Mathlib.Numerals.{add-one}
use mathlib.Core.Bool.{Bool, true, false, cond}
use mathlib.Core.List.{List, [], ◌∷◌, map}
use mathlib.Core.Logic.{inl, inr, ⊎_elim}
use mathlib.Core.Path.{◌≡◌, refl, sym, ap, ◌∙◌}
use lib.Dec.{eqb}
use lib.ListN.{length, get_or, drop, drop_of_length-le}
use lib.Seq.{drop-cons}
use borrow.Author.Tests.{eqb-true, eqb-false, eq-eqb, ne_eqb}
use Rattle.std.specs.Prelude.{Ok, Err}
use Rattle.std.specs.declared.result.Result.{Result}
use Rattle.std.specs.Result.{result_unwrap_or}
use Rattle.std.specs.Ordering.{nat_cmp}
use Rattle.std.specs.List.{Contains}
use Rattle.std.specs.List.Sorted.{IsBinarySearchResult}
use Rattle.std.proofs.lemmas.List.{get_or_default}
use Rattle.std.proofs.lemmas.List.Sorted.{searched}
use Rattle.packet.proofs.Tests.{lt_or_le}
use Rattle.policy.specs.InnerAscending.{Ascending, Among}
use Rattle.policy.proofs.Ascending.{each_among}
use Rattle.classes.specs.Named.{place_in, unnamed_from}
use Rattle.ascending.proofs.RankLaws.{ascending_rise}
use Rattle.ascending.proofs.SortLaws.{at_among, among_contains}
use Rattle.value_classes.specs.Names.{key_of}

-- ---- the place of a number

pub place_at : (k : ℕ) (xs : List ℕ) (i : ℕ) → Ascending xs → i < length xs → get_or xs i 0 ≡ k → place_in k xs ≡ i
unfolding place_in Ascending
place_at k [] i a h e = omega arith
place_at k (x ∷ xs) zero a h e = rw (eq-eqb k x (sym e))
place_at k (x ∷ xs) (suc i) a h e =
    let later = each_among (λ y. x < y) xs a.0 (get_or xs i 0) (at_among xs i (omega arith)) in
    rw (ne_eqb k x (λ (s : k ≡ x). omega arith)) (ap suc (place_at k xs i a.1 (omega arith) e))

no_place : (k : ℕ) (xs : List ℕ) → (Among k xs → ⊥) → place_in k xs ≡ length xs
unfolding place_in Among
no_place k [] h = refl
no_place k (x ∷ xs) h = rw (ne_eqb k x (λ (s : k ≡ x). h (inl s))) (ap suc (no_place k xs (λ m. h (inr m))))

-- what a binary search answers, or the length
pub place_found : (k : ℕ) (xs : List ℕ) (r : Result ℕ ℕ) → Ascending xs → IsBinarySearchResult (λ y. nat_cmp y k) xs r → result_unwrap_or r (length xs) ≡ place_in k xs
place_found k xs (Ok i) a s = let found = searched xs k (Ok i) s (λ i j h l. ascending_rise xs a i j 0 h l) in sym (place_at k xs i a found.0 found.1)
place_found k xs (Err i) a s =
    let around = searched xs k (Err i) s (λ i j h l. ascending_rise xs a i j 0 h l) in
    sym (no_place k xs (λ m. none (among_contains xs k m) around.1 around.2))
  where
    none : Contains xs k → ((j : ℕ) → j < i → get_or xs j 0 < k) → ((j : ℕ) → i ≤ j → j < length xs → k < get_or xs j 0) → ⊥
    none (j, l, e) low high =
        let same : get_or xs j 0 ≡ k = get_or_default xs j 0 k l ∙ e in
        ⊎_elim (λ (h : j < i). let b = low j h in omega arith) (λ (h : i ≤ j). let b = high j h l in omega arith) (lt_or_le j i)

-- ---- by keys

module _ (f : ℕ) where
  key_same : (v w : ℕ) → eqb (key_of f v) (key_of f w) ≡ eqb v w
  key_same v w = go (eqb v w) refl
    where
      go : (b : Bool) → eqb v w ≡ b → eqb (key_of f v) (key_of f w) ≡ b
      go true e = eq-eqb (key_of f v) (key_of f w) (ap (key_of f) (eqb-true v w e))
      go false e = ne_eqb (key_of f v) (key_of f w) (λ s. eqb-false v w e (omega arith))

  pub place_by_key : (v : ℕ) (names : List ℕ) → place_in (key_of f v) (map (key_of f) names) ≡ place_in v names
  unfolding place_in
  place_by_key v [] = refl
  place_by_key v (w ∷ ws) = rw (key_same v w, place_by_key v ws)

  pub unnamed_by_key : (v : ℕ) (names : List ℕ) → unnamed_from (key_of f v) (map (key_of f) names) ≡ key_of f (unnamed_from v names)
  unfolding unnamed_from
  unnamed_by_key v [] = refl
  unnamed_by_key v (w ∷ ws) = rw (key_same v w) (go (eqb v w) (ap (λ k. unnamed_from k (map (key_of f) ws)) next ∙ unnamed_by_key (suc v) ws))
    where
      next : suc (key_of f v) ≡ key_of f (suc v)
      next = omega arith

      go : (b : Bool) → unnamed_from (suc (key_of f v)) (map (key_of f) ws) ≡ key_of f (unnamed_from (suc v) ws)
          → cond b (unnamed_from (suc (key_of f v)) (map (key_of f) ws)) (key_of f v) ≡ key_of f (cond b (unnamed_from (suc v) ws) v)
      go true e = e
      go false e = refl

-- ---- the lowest number that is missing, from a key on

module _ (f : ℕ) (part : List ℕ) where
  -- the first v are the keys of the values below v
  pub record NamedTo (v : ℕ) : Type 0 where
    pub rest : unnamed_from (key_of f 0) part ≡ unnamed_from (key_of f v) (drop v part)

  pub named_none : NamedTo 0
  named_none = record { rest = refl }

  module _ {v : ℕ} (h : NamedTo v) where
    module _ (l : v < length part) where
      unnamed_cons : unnamed_from (key_of f 0) part ≡ cond (eqb (key_of f v) (get_or part v 0)) (unnamed_from (suc (key_of f v)) (drop (suc v) part)) (key_of f v)
      unfolding unnamed_from
      unnamed_cons = h.rest ∙ ap (unnamed_from (key_of f v)) (drop-cons part v 0 l)

      pub named_more : get_or part v 0 ≡ key_of f v → NamedTo (v + 1)
      named_more e = rw add-one (record { rest = unnamed_cons ∙ ap (λ (b : Bool). cond b (unnamed_from (suc (key_of f v)) (drop (suc v) part)) (key_of f v)) (eq-eqb (key_of f v) (get_or part v 0) (sym e)) ∙ ap (λ k. unnamed_from k (drop (suc v) part)) next })
        where
          next : suc (key_of f v) ≡ key_of f (suc v)
          next = omega arith

      pub named_other : (get_or part v 0 ≡ key_of f v → ⊥) → key_of f v ≡ unnamed_from (key_of f 0) part
      named_other h = sym (unnamed_cons ∙ ap (λ (b : Bool). cond b (unnamed_from (suc (key_of f v)) (drop (suc v) part)) (key_of f v)) (ne_eqb (key_of f v) (get_or part v 0) (λ e. h (sym e))))

    pub named_all : length part ≤ v → key_of f v ≡ unnamed_from (key_of f 0) part
    unfolding unnamed_from
    named_all l = sym (h.rest ∙ ap (unnamed_from (key_of f v)) (drop_of_length-le part l))
