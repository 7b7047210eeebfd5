-- What the inner functions on tables promise.
use Rattle.std.specs.Prelude.{ℕ, min, ◌*◌, ◌≤◌, cond, List, [], ◌∷◌, ◌++◌, map, ◌≡◌, Result, Ok, Err, length, set, take, drop}
use Rattle.packet.specs.Refusals.{Tested}
use Rattle.packet.specs.Refusals.{refused_at, at_zero, first_refused}
use Rattle.packet.specs.Sizes.{fields_stage}
use Rattle.packet.specs.declared.Refusal.{Refusal}
use Rattle.fields.specs.declared.JointFields.{JointFields}
use Rattle.fields.specs.Names.{is_named, cell_name, names_from, names_in}
use Rattle.fields.specs.Tables.{Table, Field, any_table, is_empty, names_stage, sizes_stage, with_field, with_fields, fields_of, joint_names, joint_sizes, tables_stage}

-- 16 bytes a name
abbrev pub Matched : Table → Type 0
Matched t = length t.cells ≡ length t.sizes * 16

-- causes 20 and 21, and 1 of the tables
unfoldable pub names_and_sizes : List Table → Tested
names_and_sizes ts = first_refused (names_stage 1 ts ∷ sizes_stage 1 ts ∷ refused_at 1 0 (at_zero (any_table is_empty ts)) ∷ [])

-- ---- the names that a text may use

-- the cell at a place, its name emptied if it is none of these
unfoldable pub kept_cell : List (List ℕ) → List ℕ → ℕ → List ℕ
kept_cell theirs cells at = cond (is_named theirs (cell_name (take 16 (drop at cells)))) cells (set cells at 0)

unfoldable pub kept_name : List (List ℕ) → List ℕ → List ℕ
kept_name theirs w = cond (is_named theirs w) w []

-- the names that the table has too; the empty word for the others
unfoldable pub kept_names : List (List ℕ) → List (List ℕ) → List (List ℕ)
kept_names theirs names = map (kept_name theirs) names

-- ---- joint fields in cells and sizes

-- So many fields lie in cells and sizes, which have room for eight; of nine or more no more is known than that.
pub record Held (fs : List Field) (count : ℕ) (cells sizes : List ℕ) : Type 0 where
  pub counts : count ≡ min (length fs) 9
  pub named : length fs ≤ 8 → names_from (length fs) cells ≡ map (λ (f : Field). f.name) fs
  pub sized : length fs ≤ 8 → take (length fs) sizes ≡ map (λ (f : Field). f.size) fs

abbrev pub field_in : List ℕ → ℕ → Field
field_in cell size = record { name = cell_name cell; size = size }

-- what is added is held, and the room remains
pub record FieldPut (cell : List ℕ) (size count : ℕ) (cells sizes : List ℕ) (r : ℕ) (cells' sizes' : List ℕ) : Type 0 where
  pub holds : (fs : List Field) → Held fs count cells sizes → Held (fs ++ (field_in cell size ∷ [])) r cells' sizes'
  pub few : r ≤ 9
  pub room : length cells' ≡ length cells
  pub space : length sizes' ≡ length sizes

pub record FieldAdded (cell : List ℕ) (size count : ℕ) (cells sizes : List ℕ) (r : ℕ) (cells' sizes' : List ℕ) : Type 0 where
  pub holds : (fs : List Field) → Held fs count cells sizes → Held (with_field fs (field_in cell size)) r cells' sizes'
  pub few : r ≤ 9
  pub room : length cells' ≡ length cells
  pub space : length sizes' ≡ length sizes

pub record TableAdded (t : Table) (count : ℕ) (cells sizes : List ℕ) (r : ℕ) (cells' sizes' : List ℕ) : Type 0 where
  pub holds : (fs : List Field) → Held fs count cells sizes → Held (with_fields fs (fields_of t)) r cells' sizes'
  pub few : r ≤ 9
  pub room : length cells' ≡ length cells
  pub space : length sizes' ≡ length sizes

-- the same of joint fields in the code
abbrev pub Put : List ℕ → ℕ → JointFields → JointFields → Type 0
Put cell size j j' = FieldPut cell size j.count j.names j.sizes j'.count j'.names j'.sizes

abbrev pub Added : List ℕ → ℕ → JointFields → JointFields → Type 0
Added cell size j j' = FieldAdded cell size j.count j.names j.sizes j'.count j'.names j'.sizes

abbrev pub AllAdded : Table → JointFields → JointFields → Type 0
AllAdded t j j' = TableAdded t j.count j.names j.sizes j'.count j'.names j'.sizes

-- ---- the answer

-- The joint fields of tables: their names in cells, and their sizes.
pub record JointlyHeld (ts : List Table) (j : JointFields) : Type 0 where
  pub few : j.count ≤ 8
  pub room : 128 ≡ length j.names
  pub space : 8 ≡ length j.sizes
  pub named : names_in (take (j.count * 16) j.names) ≡ joint_names ts
  pub sized : take j.count j.sizes ≡ joint_sizes ts

-- where the causes pass that this says
abbrev pub AnswerOf : List Table → Tested → Result JointFields Refusal → Type 0
AnswerOf ts says (Ok j) = (says ≡ Ok tt) × JointlyHeld ts j
AnswerOf ts says (Err r) = says ≡ Err r

-- causes 1 and 2 of the joint fields alone
abbrev pub Joined : List Table → Result JointFields Refusal → Type 0
Joined ts = AnswerOf ts (fields_stage (joint_sizes ts))

abbrev pub JointOf : List Table → Result JointFields Refusal → Type 0
JointOf ts = AnswerOf ts (tables_stage ts)
