-- The classing by named values is faithful where legal policies name them (document 02, A.7). Assumes nothing.
use Prim.Native.Nat.{ℕ, suc, ◌<◌, ◌≤◌}
use native.Mathlib.Omega.{arith}
use mathlib.Core.Bool.{Bool, true, false, cond}
use mathlib.Core.List.{List}
use mathlib.Core.Path.{◌≡◌, refl, sym, ap, ◌∙◌, subst}
use lib.Dec.{ltb}
use lib.ListN.{length, get_or}
use borrow.Author.Tests.{ltb-true, ltb-false, lt-ltb, le-ltb}
use Rattle.policy.specs.declared.FieldAction.{FieldAction}
use Rattle.policy.specs.Tree.{Policy}
use Rattle.policy.specs.NodeLists.{NodeLists}
use Rattle.policy.specs.InnerAscending.{Ascending, Among}
use Rattle.policy.specs.InnerEach.{Each}
use Rattle.policy.specs.InnerTransport.{EachAction}
use Rattle.policy.specs.Legality.{Legal, InFields, bad_field, field_of, value_of}
use Rattle.policy.specs.NamedValues.{named_values, class_count}
use Rattle.policy.proofs.Ascending.{ascending_all, among_each}
use Rattle.policy.proofs.NamedLaws.{Names, named_ascending, named_below_lem, core_length, core_at}
use Rattle.policy.proofs.TransportLaws.{each_action_both}
use Rattle.classes.specs.Classing.{Alone, Faithful, NamesAlone}
use Rattle.classes.specs.Named.{place_in, unnamed_from, shown_in, by_name}
use Rattle.classes.proofs.Places.{place_within, place_named, place_unnamed, at_place, place_at, each_named, lowest_unnamed}

-- ---- one field of n values, these of them named

module _ (n : ℕ) (names : List ℕ) (up : Ascending names) (below : Each (λ v. v < n) names) where
  unnamed_low : (unnamed_from 0 names ≤ length names) × (Among (unnamed_from 0 names) names → ⊥)
  unnamed_low = let l = lowest_unnamed 0 names up (among_each _ names (λ x m. omega arith)) in (omega (arith, l.few), l.unnamed)

  shown_under : (x : ℕ) → x < class_count n names → shown_in names x < n
  unfolding class_count shown_in
  shown_under x h = go (ltb x (length names)) refl (ltb (length names) n) refl h
    where
      go : (b : Bool) → ltb x (length names) ≡ b → (d : Bool) → ltb (length names) n ≡ d → x < cond d (suc (length names)) (length names) → cond b (get_or names x 0) (unnamed_from 0 names) < n
      go true e d f k = each_named (λ v. v < n) names below x (ltb-true x (length names) e)
      go false e true f k = omega (arith, unnamed_low.0, ltb-true (length names) n f)
      go false e false f k = omega (arith, ltb-false x (length names) e)

  class_under : (v : ℕ) → v < n → place_in v names < class_count n names
  unfolding class_count
  class_under v h = go (ltb (length names) n) refl
    where
      go : (d : Bool) → ltb (length names) n ≡ d → place_in v names < cond d (suc (length names)) (length names)
      go true f = omega (arith, place_within v names)
      -- every value is named
      go false f = place_named v names (ascending_all names 0 n up (among_each _ names (λ x m. omega arith)) below (omega (arith, ltb-false (length names) n f)) v (omega arith) h)

  class_of_shown_under : (x : ℕ) → x < class_count n names → place_in (shown_in names x) names ≡ x
  unfolding class_count shown_in
  class_of_shown_under x h = go (ltb x (length names)) refl (ltb (length names) n) refl h
    where
      go : (b : Bool) → ltb x (length names) ≡ b → (d : Bool) → ltb (length names) n ≡ d → x < cond d (suc (length names)) (length names) → place_in (cond b (get_or names x 0) (unnamed_from 0 names)) names ≡ x
      go true e d f k = place_at names up x (ltb-true x (length names) e)
      go false e true f k = place_unnamed (unnamed_from 0 names) names unnamed_low.1 ∙ (let l = ltb-false x (length names) e in omega arith)
      go false e false f k = let l = ltb-false x (length names) e in omega arith

-- a named value shares its class with no other
alone_in : (names : List ℕ) (v w : ℕ) → Among v names → place_in w names ≡ place_in v names → w ≡ v
alone_in names v w m e =
    let inside = place_named v names m in
    sym (at_place w names (omega (arith, e, inside))) ∙ ap (λ x. get_or names x 0) e ∙ at_place v names inside

module _ (Ls : List NodeLists) (sizes : List ℕ) where
  -- (i) to (iii)
  pub name_faithful : Each (Legal sizes) Ls → Faithful (by_name Ls sizes) sizes
  name_faithful g = record {
    fields = core_length Ls sizes;
    shown_below = λ f x k b. shown_under (get_or sizes f 0) _ (named_ascending Ls f) (named_below_lem sizes Ls g f) x (subst (λ n. x < n) (core_at Ls sizes f k) b);
    class_below = λ f v k b. subst (λ n. place_in v (named_values Ls f) < n) (sym (core_at Ls sizes f k)) (class_under (get_or sizes f 0) _ (named_ascending Ls f) (named_below_lem sizes Ls g f) v b);
    class_shown = λ f x k b. class_of_shown_under (get_or sizes f 0) _ (named_ascending Ls f) (named_below_lem sizes Ls g f) x (subst (λ n. x < n) (core_at Ls sizes f k) b);
  }

  alone : (a : FieldAction) → Names Ls a → Alone (by_name Ls sizes) sizes a
  unfolding Alone
  alone a m v b e = alone_in (named_values Ls (field_of a)) (value_of a) v m e

  -- (iv)
  pub name_alone : (p : Policy) → InFields sizes p → EachAction (Names Ls) p → NamesAlone (by_name Ls sizes) sizes p
  unfolding InFields NamesAlone
  name_alone p =
      each_action_both (λ a. bad_field sizes (field_of a) (value_of a) ≡ false) (Names Ls)
      (λ a. (bad_field sizes (field_of a) (value_of a) ≡ false) × Alone (by_name Ls sizes) sizes a) (λ a n m. (n, alone a m)) p
