-- A field's named values as they are held: how many there are, the class of a value, and the value shown for a class. Assumes nothing.
use Prim.Native.Nat.{ℕ, zero, suc, ◌<◌, ◌≤◌, ◌+◌, ◌-◌, ◌%◌}
use native.Mathlib.Omega.{arith}
use native.Mathlib.Nat.{sub-zero}
use native.Mathlib.Numerals.{add-one}
use mathlib.Core.List.{List, [], ◌∷◌, map}
use mathlib.Core.Path.{◌≡◌, refl, sym, ap, ◌∙◌, subst}
use mathlib.Core.HLevel.{Unit-prop, ×_prop}
use mathlib.Core.Logic.{∥∥₁_elim, ∥∥₁_map}
use native.Mathlib.Bridge.{le_prop}
use lib.ListN.{length, get_or, take, drop, length-map}
use lib.Seq.{slice, take-nil, length-slice}
use borrow.Author.Tests.{lt-ltb, le-ltb}
use Rattle.policy.specs.InnerAscending.{Ascending}
use Rattle.policy.specs.InnerEach.{Each}
use Rattle.policy.specs.NodeLists.{NodeLists}
use Rattle.policy.specs.NamedValues.{named_values, class_count, core_sizes}
use Rattle.policy.proofs.EachLaws.{each_at}
use Rattle.policy.proofs.NamedLaws.{core_length, core_at}
use Rattle.classes.specs.Named.{place_in, unnamed_from, shown_in}
use Rattle.ascending.specs.Sorting.{count_below}
use Rattle.value_classes.specs.Names.{key_of, count_of, FieldNames, NamesOf, SomeNames, SomeStarts, StartsOf, ClassIs, ShownIs, CoreSizesOf}
use Rattle.value_classes.proofs.PartLaws.{keys_ascending}
use Rattle.value_classes.proofs.PlaceLaws.{place_by_key, unnamed_by_key}
use Rattle.value_classes.proofs.Filling.{Filled, front_is}

-- a part as the code makes it
part_slice : (from to : ℕ) (xs : List ℕ) → take (to - from) (drop from xs) ≡ slice from to xs
part_slice zero to xs = ap (λ n. take n xs) (sub-zero to)
part_slice (suc from) zero xs = let none : 0 - suc from ≡ 0 = omega arith in ap (λ n. take n (drop (suc from) xs)) none
part_slice (suc from) (suc to) [] = take-nil (suc to - suc from)
part_slice (suc from) (suc to) (x ∷ xs) = let same : suc to - suc from ≡ to - from = omega arith in ap (λ n. take n (drop from xs)) same ∙ part_slice from to xs

-- the part of field f
abbrev pub part_of : List ℕ → List ℕ → ℕ → List ℕ
part_of keys starts f = take (get_or starts (f + 1) 0 - get_or starts f 0) (drop (get_or starts f 0) keys)

module _ {f : ℕ} {names keys : List ℕ} {from to : ℕ} (h : FieldNames f names keys from to) where
  part_same : take (to - from) (drop from keys) ≡ map (key_of f) names
  part_same = part_slice from to keys ∙ h.part.same

  names_length : length names ≡ to - from
  names_length = sym (length-map names (key_of f)) ∙ sym (ap length h.part.same) ∙ length-slice from to keys h.inside

  part_ascending : Ascending (take (to - from) (drop from keys))
  part_ascending = subst Ascending (sym part_same) (keys_ascending f names h.part.ascending)

  part_few : length (take (to - from) (drop from keys)) ≤ 1024
  part_few = omega (arith, ap length part_same, length-map names (key_of f), h.part.few)

  part_place : (v : ℕ) → place_in (key_of f v) (take (to - from) (drop from keys)) ≡ place_in v names
  part_place v = ap (place_in (key_of f v)) part_same ∙ place_by_key f v names

  part_unnamed : (r : ℕ) → key_of f r ≡ unnamed_from (key_of f 0) (take (to - from) (drop from keys)) → r ≡ unnamed_from 0 names
  part_unnamed r e = omega (arith, e ∙ ap (unnamed_from (key_of f 0)) part_same ∙ unnamed_by_key f 0 names)

  part_long : length (take (to - from) (drop from keys)) ≡ length names
  part_long = ap length part_same ∙ length-map names (key_of f)

  part_at : (x : ℕ) → x < length names → get_or (take (to - from) (drop from keys)) x 0 ≡ key_of f (get_or names x 0)
  part_at x l = ap (λ (ks : List ℕ). get_or ks x 0) part_same ∙ key_at names x l
    where
      key_at : (vs : List ℕ) (i : ℕ) → i < length vs → get_or (map (key_of f) vs) i 0 ≡ key_of f (get_or vs i 0)
      key_at [] i b = omega arith
      key_at (v ∷ vs) zero b = refl
      key_at (v ∷ vs) (suc i) b = key_at vs i (omega arith)

  shown_at : (x : ℕ) → x < length (take (to - from) (drop from keys)) → get_or (take (to - from) (drop from keys)) x 0 % 65536 ≡ shown_in names x
  unfolding shown_in
  shown_at x l =
      rw (lt-ltb x (length names) (omega (arith, part_long)))
      (let small : get_or names x 0 < 65536 = each_at (λ v. v < 65536) names 0 (omega arith) h.part.small x in omega (arith, part_at x (omega (arith, part_long))))

  shown_last : (x r : ℕ) → length (take (to - from) (drop from keys)) ≤ x → key_of f r ≡ unnamed_from (key_of f 0) (take (to - from) (drop from keys)) → r ≡ shown_in names x
  unfolding shown_in
  shown_last x r l e = rw (le-ltb x (length names) (omega (arith, part_long))) (part_unnamed r e)

-- ---- that numbers ascend has at most one proof, so it follows where names are merely there

above_prop : (x : ℕ) (xs : List ℕ) → IsProp (Each (λ y. x < y) xs)
unfolding Each
above_prop x [] = Unit-prop
above_prop x (y ∷ ys) = ×_prop le_prop (above_prop x ys)

ascending_prop : (xs : List ℕ) → IsProp (Ascending xs)
unfolding Ascending
ascending_prop [] = Unit-prop
ascending_prop (x ∷ xs) = ×_prop (above_prop x xs) (ascending_prop xs)

-- ---- by the starts, as the code reads them

module _ {keys starts : List ℕ} {f : ℕ} (l : f < 8) where
  field : (some : SomeNames keys starts) → FieldNames f (named_values some.policies f) keys (get_or starts f 0) (get_or starts (f + 1) 0)
  field some = rw add-one (some.names.each f l)

  module _ (named : ∥ SomeNames keys starts ∥₁) where
    pub starts_inside : get_or starts (f + 1) 0 ≤ length keys
    starts_inside = ∥∥₁_elim named le_prop (λ some. (field some).inside)

    module _ {part : List ℕ} (same : part ≡ part_of keys starts f) where
      pub field_ascending : Ascending part
      field_ascending = ∥∥₁_elim named (ascending_prop part) (λ some. subst Ascending (sym same) (part_ascending (field some)))

      pub field_few : length part ≤ 1024
      field_few = ∥∥₁_elim named le_prop (λ some. subst (λ (p : List ℕ). length p ≤ 1024) (sym same) (part_few (field some)))

pub starts_named : {keys starts : List ℕ} → ∥ SomeNames keys starts ∥₁ → ∥ SomeStarts starts ∥₁
starts_named named = ∥∥₁_map named (λ some. record { keys = _; names = some })

module _ {starts : List ℕ} {f : ℕ} (l : f < 8) (named : ∥ SomeStarts starts ∥₁) where
  pub starts_order : get_or starts f 0 ≤ get_or starts (f + 1) 0
  starts_order = ∥∥₁_elim named le_prop (λ some. (field l some.names).order)

  pub starts_few : get_or starts (f + 1) 0 ≤ 1024
  starts_few = ∥∥₁_elim named le_prop (λ some. omega (arith, (field l some.names).inside, some.names.names.room))

module _ (keys starts : List ℕ) (f : ℕ) (l : f < 8) where
  of : (Ls : List NodeLists) → NamesOf Ls keys starts → FieldNames f (named_values Ls f) keys (get_or starts f 0) (get_or starts (f + 1) 0)
  of Ls h = field l (record { policies = Ls; names = h })

  module _ {part : List ℕ} (same : part ≡ part_of keys starts f) where
    pub class_is : (v k r : ℕ) → k ≡ key_of f v → r ≡ place_in k part → ClassIs keys starts f v r
    class_is v k r e p = record { class = λ Ls h. p ∙ rw (e, same) (part_place (of Ls h) v) }

    pub shown_is : (x : ℕ) → x < length part → ShownIs keys starts f x (get_or part x 0 % 65536)
    shown_is x b = record { shown = λ Ls h. rw same (shown_at (of Ls h) x (rw same at b)) }

    pub shown_lowest : (x r : ℕ) → length part ≤ x → key_of f r ≡ unnamed_from (key_of f 0) part → ShownIs keys starts f x r
    shown_lowest x r b e = record { shown = λ Ls h. shown_last (of Ls h) x r (rw same at b) (rw same at e) }

-- ---- where fields start

abbrev pub StartAt : List ℕ → ℕ → ℕ → Type 0
StartAt keys f r = r ≡ count_below (key_of f 0) keys

pub starts_found : (keys starts : List ℕ) (n : ℕ) → 9 ≤ n → Filled (StartAt keys) 9 n starts → StartsOf keys starts
starts_found keys starts n all filled = record { nine = filled.long; each = λ f l. filled.each f (omega arith) }

-- ---- class counts

module _ (size named : ℕ) where
  pub count_rest : named < size → named + 1 ≡ count_of size named
  unfolding count_of
  count_rest h = rw (lt-ltb named size h) (add-one named)

  pub count_named : size ≤ named → named ≡ count_of size named
  unfolding count_of
  count_named h = rw (le-ltb named size h)

-- the class count of a field, by its starts
abbrev pub CountAt : List ℕ → List ℕ → ℕ → ℕ → Type 0
CountAt sizes starts f r = r ≡ count_of (get_or sizes f 0) (get_or starts (f + 1) 0 - get_or starts f 0)

pub counts_found : (sizes starts core : List ℕ) (n : ℕ) → length sizes ≤ 8 → length sizes ≤ n → Filled (CountAt sizes starts) 8 n core → CoreSizesOf sizes starts core
unfolding class_count count_of
counts_found sizes starts core n few all filled =
    record {
      room = filled.long;
      sizes_of_core = λ Ls keys h. front_is (length sizes) core (core_sizes Ls sizes) (omega (arith, filled.long)) (core_length Ls sizes) (same Ls keys h);
    }
  where
    same : (Ls : List NodeLists) (keys : List ℕ) → NamesOf Ls keys starts → (f : ℕ) → f < length sizes → get_or core f 0 ≡ get_or (core_sizes Ls sizes) f 0
    same Ls keys h f l =
        filled.each f (omega arith)
        ∙ ap (count_of (get_or sizes f 0)) (sym (names_length (of keys starts f (omega arith) Ls h)))
        ∙ sym (core_at Ls sizes f l)
