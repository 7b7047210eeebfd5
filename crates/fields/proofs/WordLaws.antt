-- Looking words up in lists of names. Assumes nothing.
use Prim.Native.Nat.{ℕ, zero, suc, ◌<◌}
use native.Mathlib.Nat.{not-suc-le-zero, le_of_suc-le-suc}
use native.Mathlib.Omega.{arith}
use mathlib.Core.Bool.{Bool, true, false, cond}
use mathlib.Core.List.{List, [], ◌∷◌, ◌++◌, map}
use mathlib.Core.Logic.{◌⊎◌, inl, inr, ⊎_elim, ◌↔◌}
use Rattle.std.specs.Prelude.{Option, None, Some, is_some}
use mathlib.Core.Path.{◌≡◌, refl, sym, ◌∙◌, ap, subst}
use lib.ListN.{length, get_or, take, length-append, length-map, get_or-append, get_or-map}
use lib.Seq.{get_or_at, get_or-take, length-take-le}
use Rattle.packet.proofs.Lowest.{Found, lowest_is, lowest_only, none_lowest}
use Rattle.packet.proofs.Tests.{clash, last_or_before}
use Rattle.fields.specs.Names.{same_word, field_named, is_named}
use Rattle.fields.specs.Inner.{kept_name}
use Rattle.fields.proofs.NameLaws.{same_eq, same_refl, not_named, found_below}

same_differs : (a b : List ℕ) → (a ≡ b → ⊥) → same_word a b ≡ false
same_differs a b h = go (same_word a b) refl
  where
    go : (r : Bool) → same_word a b ≡ r → r ≡ false
    go true e = absurd (h (same_eq a b e))
    go false e = refl

-- ---- the first of the names that is a word

module _ (names : List (List ℕ)) (w : List ℕ) where
  pub found_is : (f : ℕ) → field_named names w ≡ Some f → get_or names f [] ≡ w
  unfolding field_named
  found_is f e = sym (same_eq w (get_or names f []) (subst (Found (λ (f : ℕ). same_word w (get_or names f [])) (length names)) e (lowest_is _ (length names))).passes)

  pub found_first : (f : ℕ) → field_named names w ≡ Some f → (j : ℕ) → j < f → get_or names j [] ≡ w → ⊥
  unfolding field_named
  found_first f e j h q =
      clash (ap (same_word w) q ∙ same_refl w) ((subst (Found (λ (f : ℕ). same_word w (get_or names f [])) (length names)) e (lowest_is _ (length names))).first j h)

  pub first_found : (f : ℕ) → f < length names → get_or names f [] ≡ w → ((j : ℕ) → j < f → get_or names j [] ≡ w → ⊥) → field_named names w ≡ Some f
  unfolding field_named
  first_found f h e none_before =
      lowest_only
      (λ (f : ℕ). same_word w (get_or names f []))
      (length names)
      (Some f)
      (record { below = h; passes = ap (same_word w) e ∙ same_refl w; first = λ j b. same_differs w (get_or names j []) (λ q. none_before j b (sym q)) })

  -- a word that is none of the names
  pub none_found : ((i : ℕ) → i < length names → get_or names i [] ≡ w → ⊥) → field_named names w ≡ None
  unfolding field_named
  none_found h = none_lowest (λ (f : ℕ). same_word w (get_or names f [])) (length names) (λ i b. same_differs w (get_or names i []) (λ q. h i b (sym q)))

  pub no_name_is : is_named names w ≡ false → (i : ℕ) → i < length names → get_or names i [] ≡ w → ⊥
  unfolding is_named field_named
  no_name_is e i h q = go (field_named names w) e (lowest_is (λ (f : ℕ). same_word w (get_or names f [])) (length names))
    where
      go : (o : Option ℕ) → is_some o ≡ false → Found (λ (f : ℕ). same_word w (get_or names f [])) (length names) o → ⊥
      go None f g = clash (ap (same_word w) q ∙ same_refl w) (g i h)
      go (Some f) g k = clash refl g

  pub none_named : ((i : ℕ) → i < length names → get_or names i [] ≡ w → ⊥) → is_named names w ≡ false
  none_named h = not_named names w (none_found h)

  pub word_named : (i : ℕ) → i < length names → get_or names i [] ≡ w → is_named names w ≡ true
  word_named i h q = go (is_named names w) refl
    where
      go : (b : Bool) → is_named names w ≡ b → b ≡ true
      go true e = refl
      go false e = absurd (no_name_is e i h q)

  -- where one of the names stands
  pub record Stands : Type 0 where
    pub at : ℕ
    pub is : field_named names w ≡ Some at

  pub stands : is_named names w ≡ true → Stands
  unfolding is_named
  stands e = go (field_named names w) refl e
    where
      go : (o : Option ℕ) → field_named names w ≡ o → is_some o ≡ true → Stands
      go None q f = clash f refl
      go (Some i) q f = record { at = i; is = q }

-- ---- names of two lists

pub named_none : (w : List ℕ) → is_named [] w ≡ false
named_none w = none_named [] w (λ i h. absurd (not-suc-le-zero h))

pub named_before : (a b : List (List ℕ)) (w : List ℕ) → is_named a w ≡ true → is_named (a ++ b) w ≡ true
named_before a b w e =
    let s = stands a w e in
    let below = found_below a w s.at s.is in
    word_named (a ++ b) w s.at (omega (arith, below, length-append a b)) (get_or-append a b [] s.at below ∙ found_is a w s.at s.is)

-- the last name
pub named_last : (a : List (List ℕ)) (w : List ℕ) → is_named (a ++ (w ∷ [])) w ≡ true
named_last a w = word_named (a ++ (w ∷ [])) w (length a) (omega (arith, length-append a (w ∷ []))) (get_or_at a w [] [] (length a) refl)

-- a name is the first or one of the others
pub named_cons : (x : List ℕ) (xs : List (List ℕ)) (w : List ℕ) → is_named (x ∷ xs) w ≡ true → (x ≡ w) ⊎ (is_named xs w ≡ true)
named_cons x xs w e = go (stands (x ∷ xs) w e).at (found_below (x ∷ xs) w _ (stands (x ∷ xs) w e).is) (found_is (x ∷ xs) w _ (stands (x ∷ xs) w e).is)
  where
    go : (i : ℕ) → i < suc (length xs) → get_or (x ∷ xs) i [] ≡ w → (x ≡ w) ⊎ (is_named xs w ≡ true)
    go zero h q = inl q
    go (suc i) h q = inr (word_named xs w i (le_of_suc-le-suc h) q)

pub unnamed_first : (x : List ℕ) (xs : List (List ℕ)) (w : List ℕ) → is_named (x ∷ xs) w ≡ false → x ≡ w → ⊥
unnamed_first x xs w e q = no_name_is (x ∷ xs) w e 0 (omega arith) q

pub unnamed_rest : (x : List ℕ) (xs : List (List ℕ)) (w : List ℕ) → is_named (x ∷ xs) w ≡ false → is_named xs w ≡ false
unnamed_rest x xs w e = none_named xs w (λ i h q. no_name_is (x ∷ xs) w e (suc i) (omega arith) q)

-- one name more doesn't matter to another word
pub named_other : (a : List (List ℕ)) (x w : List ℕ) → (x ≡ w → ⊥) → is_named (a ++ (x ∷ [])) w ≡ is_named a w
named_other a x w other = go (is_named a w) refl
  where
    none_there : is_named a w ≡ false → (i : ℕ) → i < length (a ++ (x ∷ [])) → get_or (a ++ (x ∷ [])) i [] ≡ w → ⊥
    none_there e i h q = ⊎_elim before last (last_or_before {n = length a} (omega (arith, length-append a (x ∷ []))))
      where
        before : i < length a → ⊥
        before b = no_name_is a w e i b (sym (get_or-append a (x ∷ []) [] i b) ∙ q)

        last : i ≡ length a → ⊥
        last k = other (sym (get_or_at a x [] [] i (sym k)) ∙ q)

    go : (b : Bool) → is_named a w ≡ b → is_named (a ++ (x ∷ [])) w ≡ b
    go true e = named_before a (x ∷ []) w e
    go false e = none_named (a ++ (x ∷ [])) w (none_there e)

-- ---- names that differ from one another

pub record Apart (names : List (List ℕ)) : Type 0 where
  pub differ : (i j : ℕ) → i < j → j < length names → get_or names i [] ≡ get_or names j [] → ⊥

pub apart_none : Apart []
apart_none = record { differ = λ i j l h. absurd (not-suc-le-zero h) }

pub apart_rest : {x : List ℕ} {xs : List (List ℕ)} → Apart (x ∷ xs) → Apart xs
apart_rest a = record { differ = λ i j l h e. a.differ (suc i) (suc j) (omega arith) (omega arith) e }

pub apart_first : {x : List ℕ} {xs : List (List ℕ)} → Apart (x ∷ xs) → is_named xs x ≡ false
apart_first {x} {xs} a = none_named xs x (λ i h e. a.differ 0 (suc i) (omega arith) (omega arith) (sym e))

pub apart_snoc : (names : List (List ℕ)) (w : List ℕ) → Apart names → is_named names w ≡ false → Apart (names ++ (w ∷ []))
apart_snoc names w a e = record { differ = differs }
  where
    differs : (i j : ℕ) → i < j → j < length (names ++ (w ∷ [])) → get_or (names ++ (w ∷ [])) i [] ≡ get_or (names ++ (w ∷ [])) j [] → ⊥
    differs i j l h q = ⊎_elim before last (last_or_before {n = length names} (omega (arith, length-append names (w ∷ []))))
      where
        before : j < length names → ⊥
        before b = a.differ i j l b (sym (get_or-append names (w ∷ []) [] i (omega arith)) ∙ q ∙ get_or-append names (w ∷ []) [] j b)

        last : j ≡ length names → ⊥
        last k = no_name_is names w e i (omega arith) (sym (get_or-append names (w ∷ []) [] i (omega arith)) ∙ q ∙ get_or_at names w [] [] j (sym k))

-- no name repeats an earlier one
pub apart_each : (names : List (List ℕ)) → ((i : ℕ) → i < length names → is_named (take i names) (get_or names i []) ≡ false) → Apart names
apart_each names h =
    record {
      differ = λ i j l b e. no_name_is (take j names) (get_or names j []) (h j b) i (omega (arith, length-take-le j names (omega arith))) (get_or-take j names i [] l ∙ e);
    }

-- a word that stands at a place of such names is found there
pub apart_found : (names : List (List ℕ)) (w : List ℕ) (i : ℕ) → Apart names → i < length names → get_or names i [] ≡ w → field_named names w ≡ Some i
apart_found names w i a h e = first_found names w i h e (λ j b q. a.differ j i b h (q ∙ sym e))

-- ---- names of which some are emptied

module _ (theirs names : List (List ℕ)) (w : List ℕ) (word : w ≡ [] → ⊥) where
  keep_empty : kept_name theirs [] ≡ []
  unfolding kept_name
  keep_empty = go (is_named theirs [])
    where
      go : (b : Bool) → ◌≡◌ {A = List ℕ} (cond b [] []) []
      go true = refl
      go false = refl

  kept_at : (i : ℕ) → get_or (map (kept_name theirs) names) i [] ≡ kept_name theirs (get_or names i [])
  kept_at i = ap (get_or (map (kept_name theirs) names) i) (sym keep_empty) ∙ get_or-map (kept_name theirs) names i []

  -- what is kept and no empty word is one of theirs
  kept_is : (x : List ℕ) → kept_name theirs x ≡ w → (is_named theirs w ≡ true) × (x ≡ w)
  unfolding kept_name
  kept_is x = go (is_named theirs x) refl
    where
      go : (b : Bool) → is_named theirs x ≡ b → cond b x [] ≡ w → (is_named theirs w ≡ true) × (x ≡ w)
      go true e q = (ap (is_named theirs) (sym q) ∙ e, q)
      go false e q = absurd (word (sym q))

  is_kept : is_named theirs w ≡ true → (x : List ℕ) → x ≡ w → kept_name theirs x ≡ w
  unfolding kept_name
  is_kept e x q = ap (kept_name theirs) q ∙ rw e refl

  -- a word is found among them where it is one of theirs and stands there
  pub kept_found : (f : ℕ) → (field_named (map (kept_name theirs) names) w ≡ Some f) ↔ ((is_named theirs w ≡ true) × (field_named names w ≡ Some f))
  kept_found f = (to, back)
    where
      long : length (map (kept_name theirs) names) ≡ length names
      long = length-map names (kept_name theirs)

      to : field_named (map (kept_name theirs) names) w ≡ Some f → (is_named theirs w ≡ true) × (field_named names w ≡ Some f)
      to e =
          let here = kept_is (get_or names f []) (sym (kept_at f) ∙ found_is (map (kept_name theirs) names) w f e) in (
            here.0,
            first_found
                names
                w
                f
                (omega (arith, long, found_below (map (kept_name theirs) names) w f e))
                here.1
                (λ j b q. found_first (map (kept_name theirs) names) w f e j b (kept_at j ∙ is_kept here.0 (get_or names j []) q)),
          )

      back : (is_named theirs w ≡ true) × (field_named names w ≡ Some f) → field_named (map (kept_name theirs) names) w ≡ Some f
      back (t, e) =
          first_found
          (map (kept_name theirs) names)
          w
          f
          (omega (arith, long, found_below names w f e))
          (kept_at f ∙ is_kept t (get_or names f []) (found_is names w f e))
          (λ j b q. found_first names w f e j b (kept_is (get_or names j []) (sym (kept_at j) ∙ q)).1)
