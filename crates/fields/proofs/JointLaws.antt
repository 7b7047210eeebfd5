-- The joint fields of any number of tables (document 02, A.4): "Fields are numbered as in the left table, then names that only the right one has."
-- Assumes nothing.
use Prim.Native.Nat.{ℕ, zero, suc, ◌*◌, ◌<◌}
use native.Mathlib.Nat.{not-suc-le-zero, le_of_suc-le-suc}
use native.Mathlib.Omega.{arith}
use mathlib.Core.Bool.{Bool, true, false, cond, not, ◌||◌}
use mathlib.Core.List.Memᴰ
use mathlib.Core.List.{List, [], ◌∷◌, ◌++◌, map, map-append, append_assoc, append-nil, Memᴰ}
use mathlib.Core.Logic.{◌⊎◌, inl, inr, ⊎_elim, ◌↔◌}
use Rattle.std.specs.Prelude.{None, Some}
use mathlib.Core.Path.{◌≡◌, refl, sym, ◌∙◌, ap, ap₂, subst}
use borrow.Author.Tests.{eqb-true, not-false}
use lib.Dec.{eqb}
use lib.ListN.{length, get_or, take, length-map, get_or-append, get_or-map}
use lib.Seq.{append_snoc}
use Rattle.std.specs.Prelude.{Ok}
use Rattle.packet.specs.Lowest.{lowest}
use Rattle.packet.proofs.Lowest.{lowest_none}
use Rattle.packet.proofs.Stages.{first_refused_passed, refused_at_passed, at_place_none}
use Rattle.packet.proofs.Tests.{clash, or_false}
use Rattle.fields.specs.Names.{field_named, is_named, names_in, well_formed, is_constant, bad_name}
use Rattle.fields.specs.Tables.{Table, Field, fields_from, fields_of, with_field, with_fields, with_tables, joint, joint_names, joint_sizes, names_for, any_table, mismatched, another, other_size, names_stage, sizes_stage, tables_stage}
use Rattle.fields.specs.Inner.{kept_name}
use Rattle.fields.proofs.NameLaws.{length_names, found_below}
use Rattle.fields.proofs.TableLaws.{size_below}
use Rattle.fields.proofs.HeldLaws.{field_there, field_new}
use Rattle.fields.proofs.WordLaws.{found_is, named_none, named_before, named_last, named_cons, unnamed_first, unnamed_rest, named_other, Apart, apart_none, apart_rest, apart_first, apart_snoc, apart_each, apart_found, kept_found}

abbrev pub names_of : List Field → List (List ℕ)
names_of fs = map (λ (f : Field). f.name) fs

abbrev pub sizes_of : List Field → List ℕ
sizes_of fs = map (λ (f : Field). f.size) fs

-- ---- what the causes say of each table

-- 16 bytes a name; each name well-formed and no constant, and no name twice
pub record Good (t : Table) : Type 0 where
  pub matched : length t.cells ≡ length t.sizes * 16
  pub formed : (i : ℕ) → i < length t.sizes → well_formed (get_or (names_in t.cells) i []) ≡ true
  pub free : (i : ℕ) → i < length t.sizes → is_constant (get_or (names_in t.cells) i []) ≡ false
  pub apart : Apart (names_in t.cells)

-- no cause 20 at a name
not_bad : (names : List (List ℕ)) (i : ℕ) → bad_name names i ≡ false
    → (well_formed (get_or names i []) ≡ true) × (is_constant (get_or names i []) ≡ false) × (is_named (take i names) (get_or names i []) ≡ false)
unfolding bad_name
not_bad names i e =
    let w = get_or names i [] in
    let last = or_false (not (well_formed w) || is_constant w) (is_named (take i names) w) e in
    let first = or_false (not (well_formed w)) (is_constant w) last.0 in
    (not-false (well_formed w) first.0, first.1, last.1)

any_none : (test : Table → Bool) (t : Table) (ts : List Table) → any_table test ts ≡ false → Memᴰ t ts → test t ≡ false
unfolding any_table
any_none test t ts e (Memᴰ.head {x} {xs} q) = ap test q ∙ (or_false (test x) (any_table test xs) e).0
any_none test t ts e (Memᴰ.tail {x} {xs} m) = any_none test t xs (or_false (test x) (any_table test xs) e).1 m

names_pass : (t : Table) (side : ℕ) (ts : List Table) → names_stage side ts ≡ Ok tt → Memᴰ t ts → lowest (bad_name (names_in t.cells)) (length t.sizes) ≡ None
unfolding names_stage
names_pass t side ts e (Memᴰ.head {x} {xs} q) =
    ap (λ (u : Table). lowest (bad_name (names_in u.cells)) (length u.sizes)) q ∙ refused_at_passed 20 side _ (first_refused_passed _ _ e).0
names_pass t side ts e (Memᴰ.tail {x} {xs} m) = names_pass t (suc side) xs (first_refused_passed _ _ (first_refused_passed _ _ e).1).0 m

module _ (ts : List Table) (e : tables_stage ts ≡ Ok tt) where
  all_matched : any_table mismatched ts ≡ false
  unfolding tables_stage
  all_matched = at_place_none 0 _ (refused_at_passed 4 0 _ (first_refused_passed _ _ e).0)

  all_named : names_stage 1 ts ≡ Ok tt
  unfolding tables_stage
  all_named = (first_refused_passed _ _ (first_refused_passed _ _ e).1).0

  all_sized : sizes_stage 1 ts ≡ Ok tt
  unfolding tables_stage
  all_sized = (first_refused_passed _ _ (first_refused_passed _ _ (first_refused_passed _ _ e).1).1).0

  pub good : (t : Table) → Memᴰ t ts → Good t
  unfolding mismatched
  good t m =
      record {
        matched = long;
        formed = λ i h. (each i h).0;
        free = λ i h. (each i h).1;
        apart = apart_each (names_in t.cells) (λ i h. (each i (omega (arith, h, long, length_names t.cells))).2);
      }
    where
      long : length t.cells ≡ length t.sizes * 16
      long = eqb-true (length t.cells) (length t.sizes * 16) (not-false _ (any_none mismatched t ts all_matched m))

      each : (i : ℕ) → i < length t.sizes
          → (well_formed (get_or (names_in t.cells) i []) ≡ true) × (is_constant (get_or (names_in t.cells) i []) ≡ false) × (is_named (take i (names_in t.cells)) (get_or (names_in t.cells) i []) ≡ false)
      each i h = not_bad (names_in t.cells) i (lowest_none (bad_name (names_in t.cells)) (length t.sizes) (names_pass t 1 ts all_named m) i h)

-- ---- the fields of a table

names_from_lem : (ws : List (List ℕ)) (ss : List ℕ) → length ws ≡ length ss → names_of (fields_from ws ss) ≡ ws
unfolding fields_from
names_from_lem [] ss e = refl
names_from_lem (w ∷ ws) [] e = absurd (not-suc-le-zero {n = length ws} (omega arith))
names_from_lem (w ∷ ws) (s ∷ ss) e = ap (◌∷◌ w) (names_from_lem ws ss (omega arith))

sizes_from : (ws : List (List ℕ)) (ss : List ℕ) → length ws ≡ length ss → sizes_of (fields_from ws ss) ≡ ss
unfolding fields_from
sizes_from [] [] e = refl
sizes_from [] (s ∷ ss) e = absurd (not-suc-le-zero {n = length ss} (omega arith))
sizes_from (w ∷ ws) [] e = refl
sizes_from (w ∷ ws) (s ∷ ss) e = ap (◌∷◌ s) (sizes_from ws ss (omega arith))

module _ {t : Table} (g : Good t) where
  as_many : length (names_in t.cells) ≡ length t.sizes
  as_many = length_names t.cells ∙ omega (arith, g.matched)

  pub table_names : names_of (fields_of t) ≡ names_in t.cells
  unfolding fields_of
  table_names = names_from_lem (names_in t.cells) t.sizes as_many

  pub table_sizes : sizes_of (fields_of t) ≡ t.sizes
  unfolding fields_of
  table_sizes = sizes_from (names_in t.cells) t.sizes as_many

  table_apart : Apart (names_of (fields_of t))
  table_apart = subst Apart (sym table_names) g.apart

-- ---- joint names are distinct

with_field_apart : (fs : List Field) (f : Field) → Apart (names_of fs) → Apart (names_of (with_field fs f))
with_field_apart fs f a = go (is_named (names_of fs) f.name) refl
  where
    go : (b : Bool) → is_named (names_of fs) f.name ≡ b → Apart (names_of (with_field fs f))
    go true e = subst (λ (l : List Field). Apart (names_of l)) (sym (field_there fs f e)) a
    go false e = subst Apart (sym (ap names_of (field_new fs f e) ∙ map-append (λ (g : Field). g.name) fs (f ∷ []))) (apart_snoc (names_of fs) f.name a e)

with_fields_apart : (fs gs : List Field) → Apart (names_of fs) → Apart (names_of (with_fields fs gs))
unfolding with_fields
with_fields_apart fs [] a = a
with_fields_apart fs (g ∷ gs) a = with_fields_apart (with_field fs g) gs (with_field_apart fs g a)

with_tables_apart : (fs : List Field) (ts : List Table) → Apart (names_of fs) → Apart (names_of (with_tables fs ts))
unfolding with_tables
with_tables_apart fs [] a = a
with_tables_apart fs (t ∷ ts) a = with_tables_apart (with_fields fs (fields_of t)) ts (with_fields_apart fs (fields_of t) a)

pub joint_apart : (ts : List Table) → Apart (joint_names ts)
unfolding joint_names joint
joint_apart ts = with_tables_apart [] ts apart_none

-- two joint fields never bear one name; any tables
pub joint_distinct : (ts : List Table) (i j : ℕ) → i < j → j < length (joint_names ts) → get_or (joint_names ts) i [] ≡ get_or (joint_names ts) j [] → ⊥
joint_distinct ts = (joint_apart ts).differ

-- ---- the fields that are there stay where they are

pub record Begins (fs gs : List Field) : Type 0 where
  pub more : List Field
  pub is : gs ≡ fs ++ more

begins_then : {fs gs hs : List Field} → Begins fs gs → Begins gs hs → Begins fs hs
begins_then {fs} a b = record { more = a.more ++ b.more; is = b.is ∙ ap (λ (l : List Field). l ++ b.more) a.is ∙ append_assoc fs a.more b.more }

begins_same : (fs : List Field) → Begins fs fs
begins_same fs = record { more = []; is = sym (append-nil fs) }

with_field_begins : (fs : List Field) (f : Field) → Begins fs (with_field fs f)
with_field_begins fs f = go (is_named (names_of fs) f.name) refl
  where
    go : (b : Bool) → is_named (names_of fs) f.name ≡ b → Begins fs (with_field fs f)
    go true e = record { more = []; is = field_there fs f e ∙ sym (append-nil fs) }
    go false e = record { more = f ∷ []; is = field_new fs f e }

with_fields_begins : (fs gs : List Field) → Begins fs (with_fields fs gs)
unfolding with_fields
with_fields_begins fs [] = begins_same fs
with_fields_begins fs (g ∷ gs) = begins_then (with_field_begins fs g) (with_fields_begins (with_field fs g) gs)

with_tables_begins : (fs : List Field) (ts : List Table) → Begins fs (with_tables fs ts)
unfolding with_tables
with_tables_begins fs [] = begins_same fs
with_tables_begins fs (t ∷ ts) = begins_then (with_fields_begins fs (fields_of t)) (with_tables_begins (with_fields fs (fields_of t)) ts)

-- ---- fields whose names differ are added where they are new

-- the names that are none of these, in their order
unfoldable pub only_in : List (List ℕ) → List (List ℕ) → List (List ℕ)
only_in seen [] = []
only_in seen (w ∷ ws) = cond (is_named seen w) (only_in seen ws) (w ∷ only_in seen ws)

unfoldable new_fields : List (List ℕ) → List Field → List Field
new_fields seen [] = []
new_fields seen (f ∷ fs) = cond (is_named seen f.name) (new_fields seen fs) (f ∷ new_fields seen fs)

names_new : (seen : List (List ℕ)) (fs : List Field) → names_of (new_fields seen fs) ≡ only_in seen (names_of fs)
unfolding new_fields only_in
names_new seen [] = refl
names_new seen (f ∷ fs) = go (is_named seen f.name) (names_new seen fs)
  where
    go : (b : Bool) → names_of (new_fields seen fs) ≡ only_in seen (names_of fs)
        → names_of (cond b (new_fields seen fs) (f ∷ new_fields seen fs)) ≡ cond b (only_in seen (names_of fs)) (f.name ∷ only_in seen (names_of fs))
    go true e = e
    go false e = ap (◌∷◌ f.name) e

new_all : (fs : List Field) → new_fields [] fs ≡ fs
unfolding new_fields
new_all [] = refl
new_all (f ∷ fs) = rw (named_none f.name) (ap (◌∷◌ f) (new_all fs))

-- a name that none of the fields bears doesn't matter
new_skips : (seen : List (List ℕ)) (w : List ℕ) (fs : List Field) → is_named (names_of fs) w ≡ false → new_fields (seen ++ (w ∷ [])) fs ≡ new_fields seen fs
unfolding new_fields
new_skips seen w [] e = refl
new_skips seen w (f ∷ fs) e =
    ap₂
    (λ (b : Bool) (l : List Field). cond b l (f ∷ l))
    (named_other seen w f.name (λ q. unnamed_first f.name (names_of fs) w e (sym q)))
    (new_skips seen w fs (unnamed_rest f.name (names_of fs) w e))

with_fields_new : (fs gs : List Field) → Apart (names_of gs) → with_fields fs gs ≡ fs ++ new_fields (names_of fs) gs
unfolding with_fields new_fields
with_fields_new fs [] a = sym (append-nil fs)
with_fields_new fs (g ∷ gs) a = go (is_named (names_of fs) g.name) refl (λ (l : List Field). with_fields_new l gs (apart_rest a))
  where
    go : (b : Bool) → is_named (names_of fs) g.name ≡ b → ((l : List Field) → with_fields l gs ≡ l ++ new_fields (names_of l) gs)
        → with_fields (with_field fs g) gs ≡ fs ++ cond (is_named (names_of fs) g.name) (new_fields (names_of fs) gs) (g ∷ new_fields (names_of fs) gs)
    go true e rest = rw e (ap (λ (l : List Field). with_fields l gs) (field_there fs g e) ∙ rest fs)
    go false e rest =
        rw e
        (ap (λ (l : List Field). with_fields l gs) (field_new fs g e)
        ∙ rest (fs ++ (g ∷ []))
        ∙ append_snoc fs g (new_fields (names_of (fs ++ (g ∷ []))) gs)
        ∙ ap (λ (l : List Field). fs ++ g ∷ l) (ap (λ (s : List (List ℕ)). new_fields s gs) (map-append (λ (f : Field). f.name) fs (g ∷ [])) ∙ new_skips (names_of fs) g.name gs (apart_first a)))

-- ---- the numbers of the joint fields

first_table : {t : Table} → Good t → with_fields [] (fields_of t) ≡ fields_of t
first_table {t} g = with_fields_new [] (fields_of t) (table_apart g) ∙ new_all (fields_of t)

joint_begins : (t : Table) (ts : List Table) → Good t → Begins (fields_of t) (joint (t ∷ ts))
unfolding joint with_tables
joint_begins t ts g = subst (λ (l : List Field). Begins l (with_tables (with_fields [] (fields_of t)) ts)) (first_table g) (with_tables_begins (with_fields [] (fields_of t)) ts)

module _ (t : Table) (ts : List Table) (e : tables_stage (t ∷ ts) ≡ Ok tt) where
  first_good : Good t
  first_good = good (t ∷ ts) e t (Memᴰ.head refl)

  -- "Fields are numbered as in the left table": name i of the first table is joint field i, with its size
  pub left_numbers : (i : ℕ) → i < length t.sizes → (get_or (joint_names (t ∷ ts)) i [] ≡ get_or (names_in t.cells) i []) × (get_or (joint_sizes (t ∷ ts)) i 0 ≡ get_or t.sizes i 0)
  unfolding joint_names joint_sizes
  left_numbers i h = (names_are, sizes_are)
    where
      b : Begins (fields_of t) (joint (t ∷ ts))
      b = joint_begins t ts first_good

      names_are : get_or (names_of (joint (t ∷ ts))) i [] ≡ get_or (names_in t.cells) i []
      names_are =
          ap (λ (l : List (List ℕ)). get_or l i []) (ap names_of b.is ∙ map-append (λ (f : Field). f.name) (fields_of t) b.more ∙ ap (λ (l : List (List ℕ)). l ++ names_of b.more) (table_names first_good))
          ∙ get_or-append (names_in t.cells) (names_of b.more) [] i (omega (arith, as_many first_good))

      sizes_are : get_or (sizes_of (joint (t ∷ ts))) i 0 ≡ get_or t.sizes i 0
      sizes_are =
          ap (λ (l : List ℕ). get_or l i 0) (ap sizes_of b.is ∙ map-append (λ (f : Field). f.size) (fields_of t) b.more ∙ ap (λ (l : List ℕ). l ++ sizes_of b.more) (table_sizes first_good))
          ∙ get_or-append t.sizes (sizes_of b.more) 0 i h

-- tables up to the last one
with_tables_last : (fs : List Field) (ts : List Table) (t : Table) → with_tables fs (ts ++ (t ∷ [])) ≡ with_fields (with_tables fs ts) (fields_of t)
unfolding with_tables
with_tables_last fs [] t = refl
with_tables_last fs (u ∷ ts) t = with_tables_last (with_fields fs (fields_of u)) ts t

-- a further table's names follow, those that are new, in their order
pub next_follows : (ts : List Table) (t : Table) → Good t → joint_names (ts ++ (t ∷ [])) ≡ joint_names ts ++ only_in (joint_names ts) (names_in t.cells)
unfolding joint_names joint
next_follows ts t g =
    ap names_of (with_tables_last [] ts t ∙ with_fields_new (with_tables [] ts) (fields_of t) (table_apart g))
    ∙ map-append (λ (f : Field). f.name) (with_tables [] ts) (new_fields (names_of (with_tables [] ts)) (fields_of t))
    ∙ ap (◌++◌ (names_of (with_tables [] ts))) (names_new (names_of (with_tables [] ts)) (fields_of t) ∙ ap (only_in (names_of (with_tables [] ts))) (table_names g))

pub one_table : (t : Table) → Good t → joint_names (t ∷ []) ≡ names_in t.cells
unfolding joint_names joint with_tables
one_table t g = ap names_of (first_table g) ∙ table_names g

-- "then names that only the right one has"
pub right_follows : (left right : Table) → tables_stage (left ∷ right ∷ []) ≡ Ok tt → joint_names (left ∷ right ∷ []) ≡ names_in left.cells ++ only_in (names_in left.cells) (names_in right.cells)
right_follows left right e =
    next_follows (left ∷ []) right (good (left ∷ right ∷ []) e right (Memᴰ.tail (Memᴰ.head refl)))
    ∙ ap (λ (l : List (List ℕ)). l ++ only_in l (names_in right.cells)) (one_table left (good (left ∷ right ∷ []) e left (Memᴰ.head refl)))

-- ---- every name of a table is a joint name

named_begins : {fs gs : List Field} (w : List ℕ) → Begins fs gs → is_named (names_of fs) w ≡ true → is_named (names_of gs) w ≡ true
named_begins {fs} w b e =
    ap (λ (l : List (List ℕ)). is_named l w) (ap names_of b.is ∙ map-append (λ (f : Field). f.name) fs b.more) ∙ named_before (names_of fs) (names_of b.more) w e

with_field_named : (fs : List Field) (f : Field) → is_named (names_of (with_field fs f)) f.name ≡ true
with_field_named fs f = go (is_named (names_of fs) f.name) refl
  where
    go : (b : Bool) → is_named (names_of fs) f.name ≡ b → is_named (names_of (with_field fs f)) f.name ≡ true
    go true e = ap (λ (l : List Field). is_named (names_of l) f.name) (field_there fs f e) ∙ e
    go false e = ap (λ (l : List (List ℕ)). is_named l f.name) (ap names_of (field_new fs f e) ∙ map-append (λ (g : Field). g.name) fs (f ∷ [])) ∙ named_last (names_of fs) f.name

with_fields_named : (fs gs : List Field) (w : List ℕ) → is_named (names_of gs) w ≡ true → is_named (names_of (with_fields fs gs)) w ≡ true
unfolding with_fields
with_fields_named fs [] w e = clash e (named_none w)
with_fields_named fs (g ∷ gs) w e = ⊎_elim first (with_fields_named (with_field fs g) gs w) (named_cons g.name (names_of gs) w e)
  where
    first : g.name ≡ w → is_named (names_of (with_fields (with_field fs g) gs)) w ≡ true
    first q = named_begins w (with_fields_begins (with_field fs g) gs) (ap (is_named (names_of (with_field fs g))) (sym q) ∙ with_field_named fs g)

with_tables_named : (t : Table) (fs : List Field) (ts : List Table) (w : List ℕ) → Memᴰ t ts → is_named (names_of (fields_of t)) w ≡ true → is_named (names_of (with_tables fs ts)) w ≡ true
unfolding with_tables
with_tables_named t fs ts w (Memᴰ.head {x} {xs} q) e =
    named_begins w (with_tables_begins (with_fields fs (fields_of x)) xs) (with_fields_named fs (fields_of x) w (ap (λ (u : Table). is_named (names_of (fields_of u)) w) (sym q) ∙ e))
with_tables_named t fs ts w (Memᴰ.tail {x} {xs} m) e = with_tables_named t (with_fields fs (fields_of x)) xs w m e

pub named_joint : (ts : List Table) → tables_stage ts ≡ Ok tt → (t : Table) → Memᴰ t ts → (w : List ℕ) → is_named (names_in t.cells) w ≡ true → is_named (joint_names ts) w ≡ true
unfolding joint_names joint
named_joint ts e t m w n = with_tables_named t [] ts w m (ap (λ (l : List (List ℕ)). is_named l w) (table_names (good ts e t m)) ∙ n)

-- ---- the field of a word

-- A word of a text is field f exactly if it stands in the table of the text's side and f is its joint number.
pub word_field : (ts : List Table) (t : Table) (w : List ℕ) (f : ℕ) → (w ≡ [] → ⊥)
    → (field_named (names_for ts t) w ≡ Some f) ↔ ((is_named (names_in t.cells) w ≡ true) × (field_named (joint_names ts) w ≡ Some f))
unfolding names_for kept_name
word_field ts t w f word = kept_found (names_in t.cells) (joint_names ts) w word f

-- ---- one size for each name

-- a later table agrees with this one
later_same : (t : Table) (ts : List Table) (side : ℕ) → sizes_stage side (t ∷ ts) ≡ Ok tt → (u : Table) → Memᴰ u ts → (w : List ℕ) (i j : ℕ) → i < length t.sizes
    → field_named (names_in t.cells) w ≡ Some i → field_named (names_in u.cells) w ≡ Some j → get_or t.sizes i 0 ≡ get_or u.sizes j 0
unfolding sizes_stage other_size another
later_same t ts side e u m w i j h p q = sym (eqb-true (get_or u.sizes j 0) (get_or t.sizes i 0) (not-false _ agrees))
  where
    none_other : other_size t i u ≡ false
    none_other = any_none (other_size t i) u ts (lowest_none (λ i. any_table (other_size t i) ts) (length t.sizes) (refused_at_passed 21 side _ (first_refused_passed _ _ e).0) i h) m

    agrees : not (eqb (get_or u.sizes j 0) (get_or t.sizes i 0)) ≡ false
    agrees = sym (ap (another (get_or t.sizes i 0) u.sizes) (ap (field_named (names_in u.cells)) (found_is (names_in t.cells) w i p) ∙ q)) ∙ none_other

sized_pairs : (ts : List Table) (side : ℕ) → sizes_stage side ts ≡ Ok tt → ((v : Table) → Memᴰ v ts → Good v) → (t u : Table) → Memᴰ t ts → Memᴰ u ts → (w : List ℕ) (i j : ℕ)
    → field_named (names_in t.cells) w ≡ Some i → field_named (names_in u.cells) w ≡ Some j → get_or t.sizes i 0 ≡ get_or u.sizes j 0
unfolding sizes_stage
sized_pairs [] side e goods t u m n w i j p q = absurd (Memᴰ.not-nil m)
sized_pairs (x ∷ xs) side e goods t u m n w i j p q = go (Memᴰ.cases_cons m) (Memᴰ.cases_cons n) (sized_pairs xs (suc side) (first_refused_passed _ _ (first_refused_passed _ _ e).1).0 (λ v k. goods v (Memᴰ.tail k)) t u)
  where
    first : (v z : Table) → v ≡ x → Memᴰ z xs → (k l : ℕ) → field_named (names_in v.cells) w ≡ Some k → field_named (names_in z.cells) w ≡ Some l → get_or v.sizes k 0 ≡ get_or z.sizes l 0
    first v z a k' k l b c =
        let here : field_named (names_in x.cells) w ≡ Some k = ap (λ (y : Table). field_named (names_in y.cells) w) (sym a) ∙ b in
        ap (λ (y : Table). get_or y.sizes k 0) a
        ∙ later_same x xs side e z k' w k l (size_below x.cells w x.sizes k (goods x (Memᴰ.head refl)).matched here) here c

    go : (t ≡ x) ⊎ Memᴰ t xs → (u ≡ x) ⊎ Memᴰ u xs
        → (Memᴰ t xs → Memᴰ u xs → (w : List ℕ) (i j : ℕ) → field_named (names_in t.cells) w ≡ Some i → field_named (names_in u.cells) w ≡ Some j → get_or t.sizes i 0 ≡ get_or u.sizes j 0)
        → get_or t.sizes i 0 ≡ get_or u.sizes j 0
    go (inl a) (inl b) rest = let same : t ≡ u = a ∙ sym b in let index : i ≡ j = cc in cc
    go (inl a) (inr b) rest = first t u a b i j p q
    go (inr a) (inl b) rest = sym (first u t b a j i q p)
    go (inr a) (inr b) rest = rest a b w i j p q

-- past 21 all tables that have a name give it one size
pub same_size : (ts : List Table) → tables_stage ts ≡ Ok tt → (t u : Table) → Memᴰ t ts → Memᴰ u ts → (w : List ℕ) (i j : ℕ)
    → field_named (names_in t.cells) w ≡ Some i → field_named (names_in u.cells) w ≡ Some j → get_or t.sizes i 0 ≡ get_or u.sizes j 0
same_size ts e t u m n w i j p q = sized_pairs ts 1 (all_sized ts e) (good ts e) t u m n w i j p q

-- ---- each joint field is a field of one of the tables

-- the field of some name and size, at a place of both lists
pub record Placed (ws : List (List ℕ)) (ss : List ℕ) (f : Field) : Type 0 where
  pub at : ℕ
  pub below : at < length ss
  pub within : at < length ws
  pub name : get_or ws at [] ≡ f.name
  pub size : get_or ss at 0 ≡ f.size

pub record Comes (ts : List Table) (f : Field) : Type 0 where
  pub from : Table
  pub one : Memᴰ from ts
  pub is : Placed (names_in from.cells) from.sizes f

placed : (ws : List (List ℕ)) (ss : List ℕ) (f : Field) → Memᴰ f (fields_from ws ss) → Placed ws ss f
unfolding fields_from
placed [] ss f m = absurd (Memᴰ.not-nil m)
placed (w ∷ ws) [] f m = absurd (Memᴰ.not-nil m)
placed (w ∷ ws) (s ∷ ss) f m = go (Memᴰ.cases_cons m) (placed ws ss f)
  where
    go : (f ≡ record { name = w; size = s }) ⊎ Memᴰ f (fields_from ws ss) → (Memᴰ f (fields_from ws ss) → Placed ws ss f) → Placed (w ∷ ws) (s ∷ ss) f
    go (inl e) rest = record { at = 0; below = omega arith; within = omega arith; name = sym (ap (λ (g : Field). g.name) e); size = sym (ap (λ (g : Field). g.size) e) }
    go (inr k) rest = let p = rest k in record { at = suc p.at; below = omega (arith, p.below); within = omega (arith, p.within); name = p.name; size = p.size }

in_with_field : (fs : List Field) (g f : Field) → Memᴰ f (with_field fs g) → Memᴰ f fs ⊎ (f ≡ g)
in_with_field fs g f m = go (is_named (names_of fs) g.name) refl
  where
    go : (b : Bool) → is_named (names_of fs) g.name ≡ b → Memᴰ f fs ⊎ (f ≡ g)
    go true e = inl (subst (Memᴰ f) (field_there fs g e) m)
    go false e = ⊎_elim inl (λ k. inr (Memᴰ.eq_of_singleton k)) (Memᴰ.append_cases fs (subst (Memᴰ f) (field_new fs g e) m))

in_with_fields : (fs gs : List Field) (f : Field) → Memᴰ f (with_fields fs gs) → Memᴰ f fs ⊎ Memᴰ f gs
unfolding with_fields
in_with_fields fs [] f m = inl m
in_with_fields fs (g ∷ gs) f m = ⊎_elim (λ k. ⊎_elim inl (λ e. inr (Memᴰ.head e)) (in_with_field fs g f k)) (λ k. inr (Memᴰ.tail k)) (in_with_fields (with_field fs g) gs f m)

in_with_tables : (fs : List Field) (ts : List Table) (f : Field) → Memᴰ f (with_tables fs ts) → Memᴰ f fs ⊎ Comes ts f
unfolding with_tables fields_of
in_with_tables fs [] f m = inl m
in_with_tables fs (t ∷ ts) f m = ⊎_elim (λ k. ⊎_elim inl (λ l. inr (record { from = t; one = Memᴰ.head refl; is = placed (names_in t.cells) t.sizes f l })) (in_with_fields fs (fields_of t) f k)) (λ c. inr (later c)) (in_with_tables (with_fields fs (fields_of t)) ts f m)
  where
    later : Comes ts f → Comes (t ∷ ts) f
    later c = record { from = c.from; one = Memᴰ.tail c.one; is = c.is }

at_in : {A : Type 0} (l : List A) (i : ℕ) (d : A) → i < length l → Memᴰ (get_or l i d) l
at_in [] i d h = absurd (not-suc-le-zero h)
at_in (x ∷ l) zero d h = Memᴰ.head refl
at_in (x ∷ l) (suc i) d h = Memᴰ.tail (at_in l i d (le_of_suc-le-suc h))

abbrev no_field : Field
no_field = record { name = []; size = 0 }

module _ (ts : List Table) (f : ℕ) where
  pub joint_name : get_or (joint_names ts) f [] ≡ (get_or (joint ts) f no_field).name
  unfolding joint_names
  joint_name = get_or-map (λ (g : Field). g.name) (joint ts) f no_field

  pub joint_size : get_or (joint_sizes ts) f 0 ≡ (get_or (joint ts) f no_field).size
  unfolding joint_sizes
  joint_size = get_or-map (λ (g : Field). g.size) (joint ts) f no_field

  pub joint_comes : f < length (joint_names ts) → Comes ts (get_or (joint ts) f no_field)
  unfolding joint_names joint
  joint_comes h =
      ⊎_elim
      (λ m. absurd (Memᴰ.not-nil m))
      (λ c. c)
      (in_with_tables [] ts (get_or (with_tables [] ts) f no_field) (at_in (with_tables [] ts) f no_field (subst (λ (n : ℕ). f < n) (length-map (with_tables [] ts) (λ (g : Field). g.name)) h)))

-- past 20 each joint name is well-formed and no constant
pub joint_formed : (ts : List Table) → tables_stage ts ≡ Ok tt → (f : ℕ) → f < length (joint_names ts)
    → (well_formed (get_or (joint_names ts) f []) ≡ true) × (is_constant (get_or (joint_names ts) f []) ≡ false)
joint_formed ts e f h =
    let c = joint_comes ts f h in
    let g = good ts e c.from c.one in
    let same : get_or (joint_names ts) f [] ≡ get_or (names_in c.from.cells) c.is.at [] = joint_name ts f ∙ sym c.is.name in
    (ap well_formed same ∙ g.formed c.is.at c.is.below, ap is_constant same ∙ g.free c.is.at c.is.below)

-- past 21 a table gives each of its names the joint size
pub one_size : (ts : List Table) → tables_stage ts ≡ Ok tt → (t : Table) → Memᴰ t ts → (w : List ℕ) (f i : ℕ)
    → field_named (joint_names ts) w ≡ Some f → field_named (names_in t.cells) w ≡ Some i → get_or t.sizes i 0 ≡ get_or (joint_sizes ts) f 0
one_size ts e t m w f i p q =
    let c = joint_comes ts f (found_below (joint_names ts) w f p) in
    let named : get_or (names_in c.from.cells) c.is.at [] ≡ w = c.is.name ∙ sym (joint_name ts f) ∙ found_is (joint_names ts) w f p in
    let there = apart_found (names_in c.from.cells) w c.is.at (good ts e c.from c.one).apart c.is.within named in
    same_size ts e t c.from m c.one w i c.is.at q there ∙ c.is.size ∙ sym (joint_size ts f)
