-- Joint fields in cells and sizes: one more of them, those of a table, those of two. Assumes nothing.
use Prim.Native.Nat.{ℕ, zero, suc, ◌+◌, ◌-◌, ◌*◌, ◌≤◌, ◌<◌}
use native.Mathlib.Nat.{not-suc-le-zero, le_of_suc-le-suc}
use native.Mathlib.Numerals.{add-one}
use native.Mathlib.Omega.{arith}
use mathlib.Core.Bool.{Bool, true, false, cond}
use mathlib.Core.List.{List, [], ◌∷◌, ◌++◌, map, map-append, append_assoc}
use mathlib.Core.Path.{◌≡◌, refl, sym, ◌∙◌, ap, ap₂, subst}
use lib.ListN.{length, get_or, set, take, drop, length-set, length-map, length-append}
use lib.Seq.{drop-drop, paste, length-paste, take_at, drop_at, take_all, take-suc, take-suc-set, length-take-le}
use borrow.Rule.Slice.PartMut.{put_mid}
use Rattle.std.specs.Prelude.{Err}
use Rattle.packet.specs.Refusals.{refusal}
use Rattle.packet.specs.Sizes.{fields_stage}
use Rattle.packet.proofs.Stages.{too_many}
use Rattle.fields.specs.declared.JointFields.{JointFields}
use Rattle.fields.specs.Names.{cell_name, is_named, names_from, names_in}
use Rattle.fields.specs.Tables.{Table, Field, table, with_field, with_fields, with_tables, fields_from, fields_of, joint, joint_names, joint_sizes}
use Rattle.fields.specs.Inner.{Held, FieldPut, FieldAdded, TableAdded, JointlyHeld, field_in}
use Rattle.fields.proofs.NameLaws.{length_names, names_at}
use Rattle.fields.proofs.TableLaws.{names_from_take, names_from_suc, names_in_take}

length_snoc : {A : Type 0} (l : List A) (x : A) → length (l ++ (x ∷ [])) ≡ suc (length l)
length_snoc l x = length-append l (x ∷ []) ∙ add-one (length l)

-- so few fields are counted as they are
held_few : {fs : List Field} {count : ℕ} {cells sizes : List ℕ} → Held fs count cells sizes → count ≤ 8 → length fs ≡ count
held_few h few = omega (arith, h.counts)

-- ---- one field put

module _ (cell : List ℕ) (size count : ℕ) (cells sizes : List ℕ) where
  pub put_full : count ≡ 8 → 128 ≡ length cells → FieldPut cell size count cells sizes 9 cells sizes
  put_full e room =
      record {
        holds = λ fs h.
            let many : length (fs ++ (field_in cell size ∷ [])) ≡ 9 = length_snoc fs (field_in cell size) ∙ omega (arith, h.counts) in
            record {
              counts = omega (arith, many);
              named = λ few. absurd (not-suc-le-zero {n = 0} (omega (arith, many)));
              sized = λ few. absurd (not-suc-le-zero {n = 0} (omega (arith, many)));
            };
        few = omega arith;
        room = refl;
        space = refl;
      }

  module _ (long : 16 ≡ length cell) (few : count < 8) (room : 128 ≡ length cells) (space : 8 ≡ length sizes) where
    head : List ℕ
    head = take (count * 16) cells

    head_long : length head ≡ count * 16
    unfolding head
    head_long = length-take-le (count * 16) cells (omega arith)

    abbrev put_cells : List ℕ
    put_cells = paste cells (count * 16) cell 16

    split : put_cells ≡ head ++ (take 16 cell ++ drop (count * 16 + 16) cells)
    unfolding head
    split = append_assoc (take (count * 16) cells) (take 16 cell) (drop (count * 16 + 16) cells)

    before_kept : names_from count put_cells ≡ names_from count cells
    unfolding head
    before_kept =
        sym (names_from_take count (count * 16) put_cells (omega arith))
        ∙ ap (names_from count) (ap (take (count * 16)) split ∙ take_at head (take 16 cell ++ drop (count * 16 + 16) cells) (count * 16) head_long)
        ∙ names_from_take count (count * 16) cells (omega arith)

    put_there : take 16 (drop (count * 16) put_cells) ≡ cell
    put_there =
        ap (take 16) (ap (drop (count * 16)) split ∙ drop_at head (take 16 cell ++ drop (count * 16 + 16) cells) (count * 16) head_long)
        ∙ take_at (take 16 cell) (drop (count * 16 + 16) cells) 16 (length-take-le 16 cell (omega arith))
        ∙ take_all 16 cell (omega arith)

    put_names : names_from (suc count) put_cells ≡ names_from count cells ++ (cell_name cell ∷ [])
    put_names = names_from_suc count put_cells ∙ ap₂ (λ (a : List (List ℕ)) (b : List ℕ). a ++ (cell_name b ∷ [])) before_kept put_there

    put_held : (fs : List Field) → Held fs count cells sizes → Held (fs ++ (field_in cell size ∷ [])) (count + 1) put_cells (set sizes count size)
    put_held fs h =
        record {
          counts = omega (arith, many);
          named = λ _.
              ap (λ (n : ℕ). names_from n put_cells) many
              ∙ put_names
              ∙ ap (λ (l : List (List ℕ)). l ++ (cell_name cell ∷ [])) (ap (λ (n : ℕ). names_from n cells) (sym old) ∙ h.named (omega (arith, old)))
              ∙ sym (map-append (λ (f : Field). f.name) fs (field_in cell size ∷ []));
          sized = λ _.
              ap (λ (n : ℕ). take n (set sizes count size)) many
              ∙ take-suc-set sizes count size (omega arith)
              ∙ ap (λ (l : List ℕ). l ++ (size ∷ [])) (ap (λ (n : ℕ). take n sizes) (sym old) ∙ h.sized (omega (arith, old)))
              ∙ sym (map-append (λ (f : Field). f.size) fs (field_in cell size ∷ []));
        }
      where
        old : length fs ≡ count
        old = held_few h (omega arith)

        many : length (fs ++ (field_in cell size ∷ [])) ≡ suc count
        many = length_snoc fs (field_in cell size) ∙ ap suc old

    -- the cell is written over the sixteen bytes there
    pub cell_written : (mid : List ℕ) → mid ≡ cell → put_mid (count * 16) (count * 16 + 16 - count * 16) cells mid ≡ paste cells (count * 16) cell 16
    cell_written mid e =
        let sixteen : count * 16 + 16 - count * 16 ≡ 16 = omega arith in
        ap₂
        (λ (ys rest : List ℕ). take (count * 16) cells ++ (ys ++ rest))
        (e ∙ sym (take_all 16 cell (omega arith)))
        (drop-drop (count * 16 + 16 - count * 16) (count * 16) cells ∙ ap (λ (k : ℕ). drop (count * 16 + k) cells) sixteen)
        ∙ sym (append_assoc (take (count * 16) cells) (take 16 cell) (drop (count * 16 + 16) cells))

    pub put_more : (cells' : List ℕ) → cells' ≡ paste cells (count * 16) cell 16 → FieldPut cell size count cells sizes (count + 1) cells' (set sizes count size)
    put_more cells' e =
        record {
          holds = λ fs h. subst (λ (l : List ℕ). Held (fs ++ (field_in cell size ∷ [])) (count + 1) l (set sizes count size)) (sym e) (put_held fs h);
          few = omega arith;
          room = ap length e ∙ length-paste cells (count * 16) cell 16 (omega arith) (omega arith);
          space = length-set sizes count size;
        }

-- ---- one field more, unless its name is there

module _ (fs : List Field) (f : Field) where
  pub field_there : is_named (map (λ (g : Field). g.name) fs) f.name ≡ true → with_field fs f ≡ fs
  unfolding with_field
  field_there e = rw e refl

  pub field_new : is_named (map (λ (g : Field). g.name) fs) f.name ≡ false → with_field fs f ≡ fs ++ (f ∷ [])
  unfolding with_field
  field_new e = rw e refl

  grows : length fs ≤ length (with_field fs f)
  unfolding with_field
  grows = go (is_named (map (λ (g : Field). g.name) fs) f.name)
    where
      go : (b : Bool) → length fs ≤ length (cond b fs (fs ++ (f ∷ [])))
      go true = omega arith
      go false = omega (arith, length_snoc fs f)

module _ (cell : List ℕ) (size count : ℕ) (cells sizes : List ℕ) where
  pub add_full : 8 < count → count ≤ 9 → FieldAdded cell size count cells sizes count cells sizes
  add_full over few =
      record {
        holds = λ fs h.
            let many = grows fs (field_in cell size) in
            record {
              counts = omega (arith, many, h.counts);
              named = λ short. absurd (not-suc-le-zero {n = 0} (omega (arith, many, h.counts)));
              sized = λ short. absurd (not-suc-le-zero {n = 0} (omega (arith, many, h.counts)));
            };
        few = few;
        room = refl;
        space = refl;
      }

  module _ (w : List ℕ) (is : w ≡ cell_name cell) (few : count ≤ 8) (room : 128 ≡ length cells) {r : Bool} (looked : r ≡ is_named (names_in (take (count * 16) cells)) w) where
    looked_up : (fs : List Field) → Held fs count cells sizes → is_named (map (λ (g : Field). g.name) fs) (cell_name cell) ≡ r
    looked_up fs h =
        let old = held_few h few in
        let same : names_in (take (count * 16) cells) ≡ map (λ (g : Field). g.name) fs
        = names_in_take count cells (omega arith) ∙ ap (λ (n : ℕ). names_from n cells) (sym old) ∙ h.named (omega (arith, old))
        in
        sym (looked ∙ ap₂ is_named same is)

    pub add_there : r ≡ true → FieldAdded cell size count cells sizes count cells sizes
    add_there e =
        record {
          holds = λ fs h. subst (λ (l : List Field). Held l count cells sizes) (sym (field_there fs (field_in cell size) (looked_up fs h ∙ e))) h;
          few = omega arith;
          room = refl;
          space = refl;
        }

    pub add_new : {n : ℕ} {cells' sizes' : List ℕ} → r ≡ false → FieldPut cell size count cells sizes n cells' sizes' → FieldAdded cell size count cells sizes n cells' sizes'
    add_new {n} {cells'} {sizes'} e p =
        record {
          holds = λ fs h. subst (λ (l : List Field). Held l n cells' sizes') (sym (field_new fs (field_in cell size) (looked_up fs h ∙ e))) (p.holds fs h);
          few = p.few;
          room = p.room;
          space = p.space;
        }

-- ---- the fields of a table

pub with_fields_snoc : (fs gs : List Field) (g : Field) → with_fields fs (gs ++ (g ∷ [])) ≡ with_field (with_fields fs gs) g
unfolding with_fields
with_fields_snoc fs [] g = refl
with_fields_snoc fs (h ∷ gs) g = with_fields_snoc (with_field fs h) gs g

pub length_fields_from : (ws : List (List ℕ)) (ss : List ℕ) → length ws ≡ length ss → length (fields_from ws ss) ≡ length ss
unfolding fields_from
length_fields_from [] [] e = refl
length_fields_from [] (s ∷ ss) e = e
length_fields_from (w ∷ ws) [] e = refl
length_fields_from (w ∷ ws) (s ∷ ss) e = ap suc (length_fields_from ws ss (omega arith))

pub fields_from_at : (ws : List (List ℕ)) (ss : List ℕ) (i : ℕ) (d : Field) → i < length ws → i < length ss → get_or (fields_from ws ss) i d ≡ record { name = get_or ws i []; size = get_or ss i 0 }
unfolding fields_from
fields_from_at [] ss i d h k = absurd (not-suc-le-zero h)
fields_from_at (w ∷ ws) [] i d h k = absurd (not-suc-le-zero k)
fields_from_at (w ∷ ws) (s ∷ ss) zero d h k = refl
fields_from_at (w ∷ ws) (s ∷ ss) (suc i) d h k = fields_from_at ws ss i d (le_of_suc-le-suc h) (le_of_suc-le-suc k)

module _ (cells sizes : List ℕ) (long : length cells ≡ length sizes * 16) where
  pub length_fields : length (fields_of (table cells sizes)) ≡ length sizes
  unfolding fields_of
  length_fields = length_fields_from (names_in cells) sizes (length_names cells ∙ omega arith)

  -- field i lies in cell i
  pub field_at : (i : ℕ) (d : Field) → i < length sizes → get_or (fields_of (table cells sizes)) i d ≡ field_in (take 16 (drop (i * 16) cells)) (get_or sizes i 0)
  unfolding fields_of
  field_at i d h =
      fields_from_at (names_in cells) sizes i d (omega (arith, length_names cells)) h
      ∙ ap (λ (w : List ℕ). record { name = w; size = get_or sizes i 0 }) (names_at cells i (omega arith))

-- the first i fields of a table added
pub record Adding (t : Table) (i before : ℕ) (cells sizes : List ℕ) (count : ℕ) (cells' sizes' : List ℕ) : Type 0 where
  pub holds : (fs : List Field) → Held fs before cells sizes → Held (with_fields fs (take i (fields_of t))) count cells' sizes'
  pub few : count ≤ 9
  pub room : length cells' ≡ length cells
  pub space : length sizes' ≡ length sizes

abbrev pub AddingTo : Table → ℕ → JointFields → JointFields → Type 0
AddingTo t i j j' = Adding t i j.count j.names j.sizes j'.count j'.names j'.sizes

pub adding_none : (t : Table) (before : ℕ) (cells sizes : List ℕ) → before ≤ 9 → Adding t 0 before cells sizes before cells sizes
unfolding with_fields
adding_none t before cells sizes few = record { holds = λ fs h. h; few = few; room = refl; space = refl }

module _ (theirs theirSizes : List ℕ) (long : length theirs ≡ length theirSizes * 16) (before : ℕ) (cells sizes : List ℕ) where
  pub adding_more : {i count n : ℕ} {cells' sizes' cells'' sizes'' : List ℕ} → i < length theirSizes
      → Adding (table theirs theirSizes) i before cells sizes count cells' sizes'
      → FieldAdded (take (i * 16 + 16 - i * 16) (drop (i * 16) theirs)) (get_or theirSizes i 0) count cells' sizes' n cells'' sizes''
      → Adding (table theirs theirSizes) (i + 1) before cells sizes n cells'' sizes''
  adding_more {i} {count} {n} {cells'} {sizes'} {cells''} {sizes''} h a f =
      record {
        holds = λ fs held.
            subst (λ (l : List Field). Held l n cells'' sizes'') (sym (one_more fs)) (f.holds (with_fields fs (take i T)) (a.holds fs held));
        few = f.few;
        room = f.room ∙ a.room;
        space = f.space ∙ a.space;
      }
    where
      T : List Field
      T = fields_of (table theirs theirSizes)

      g : Field
      g = field_in (take (i * 16 + 16 - i * 16) (drop (i * 16) theirs)) (get_or theirSizes i 0)

      sixteen : 16 ≡ i * 16 + 16 - i * 16
      sixteen = omega arith

      next : take (i + 1) T ≡ take i T ++ (g ∷ [])
      next =
          ap (λ (k : ℕ). take k T) (add-one i)
          ∙ take-suc T i g (subst (λ (k : ℕ). i < k) (sym (length_fields theirs theirSizes long)) h)
          ∙ ap (λ (x : Field). take i T ++ (x ∷ [])) (field_at theirs theirSizes long i g h ∙ ap (λ (k : ℕ). field_in (take k (drop (i * 16) theirs)) (get_or theirSizes i 0)) sixteen)

      one_more : (fs : List Field) → with_fields fs (take (i + 1) T) ≡ with_field (with_fields fs (take i T)) g
      one_more fs = ap (with_fields fs) next ∙ with_fields_snoc fs (take i T) g

  pub adding_all : {i count : ℕ} {cells' sizes' : List ℕ} → length theirSizes ≤ i → Adding (table theirs theirSizes) i before cells sizes count cells' sizes' → TableAdded (table theirs theirSizes) before cells sizes count cells' sizes'
  adding_all {i} {count} {cells'} {sizes'} h a =
      record {
        holds = λ fs held. subst (λ (l : List Field). Held (with_fields fs l) count cells' sizes') (take_all i (fields_of (table theirs theirSizes)) (subst (λ (k : ℕ). k ≤ i) (sym (length_fields theirs theirSizes long)) h)) (a.holds fs held);
        few = a.few;
        room = a.room;
        space = a.space;
      }

-- ---- the joint fields of two tables

held_none : (cells sizes : List ℕ) → Held [] 0 cells sizes
unfolding names_from
held_none cells sizes = record { counts = refl; named = λ _. refl; sized = λ _. refl }

pub joint_held : {left right : Table} {cells sizes cells' sizes' cells'' sizes'' : List ℕ} {n count : ℕ} → TableAdded left 0 cells sizes n cells' sizes'
    → TableAdded right n cells' sizes' count cells'' sizes'' → Held (joint (left ∷ right ∷ [])) count cells'' sizes''
unfolding joint with_tables
joint_held l r = r.holds _ (l.holds [] (held_none _ _))

module _ (ts : List Table) (count : ℕ) (cells sizes : List ℕ) (h : Held (joint ts) count cells sizes) (room : 128 ≡ length cells) (space : 8 ≡ length sizes) where
  length_joint : length (joint_sizes ts) ≡ length (joint ts)
  unfolding joint_sizes
  length_joint = length-map (joint ts) (λ (f : Field). f.size)

  pub joined_many : 8 < count → fields_stage (joint_sizes ts) ≡ Err (refusal 1 0 0)
  joined_many over =
      let many : length (joint_sizes ts) ≡ 0 → ⊥ = λ z. absurd (not-suc-le-zero {n = 0} (omega (arith, z, length_joint, h.counts))) in
      too_many (joint_sizes ts) many (omega (arith, length_joint, h.counts))

  pub joined_sizes : count ≤ 8 → take count sizes ≡ joint_sizes ts
  unfolding joint_sizes
  joined_sizes few = let many = held_few h few in ap (λ (n : ℕ). take n sizes) (sym many) ∙ h.sized (omega (arith, many))

  pub joined_held : count ≤ 8 → JointlyHeld ts (record { count = count; names = cells; sizes = sizes })
  unfolding joint_names
  joined_held few =
      let many = held_few h few in
      record {
        few = few;
        room = room;
        space = space;
        named = names_in_take count cells (omega arith) ∙ ap (λ (n : ℕ). names_from n cells) (sym many) ∙ h.named (omega (arith, many));
        sized = joined_sizes few;
      }
