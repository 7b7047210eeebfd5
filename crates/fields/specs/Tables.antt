-- Tables of field names with their sizes, and the joint fields of several tables (document 02, A.4). Any number of tables; a call on a left and a
-- right policy has two.
use Rattle.std.specs.Prelude.{ℕ, suc, ◌*◌, Bool, false, cond, not, ◌||◌, List, [], ◌∷◌, ◌++◌, map, eqb, length, get_or}
use Rattle.std.specs.Prelude.{Option, None, Some}
use Rattle.fields.specs.declared.FieldTable.{FieldTable}
use Rattle.fields.specs.declared.Tables.{Tables}
use Rattle.packet.specs.Refusals.{Tested}
use Rattle.std.specs.Prelude.{Ok}
use Rattle.packet.specs.Lowest.{lowest}
use Rattle.packet.specs.Refusals.{refused_at, at_zero, first_refused}
use Rattle.packet.specs.Sizes.{fields_stage}
use Rattle.fields.specs.Names.{field_named, is_named, names_in, bad_name}

-- a table as it is lent: the cells of its names, and a size for each
pub record Table : Type 0 where
  pub cells : List ℕ
  pub sizes : List ℕ

abbrev pub table : List ℕ → List ℕ → Table
table cells sizes = record { cells = cells; sizes = sizes }

-- the left and the right table of a call
abbrev pub tables : List ℕ → List ℕ → List ℕ → List ℕ → List Table
tables leftNames leftSizes rightNames rightSizes = table leftNames leftSizes ∷ table rightNames rightSizes ∷ []

-- those that are lent
abbrev pub lent_table : FieldTable → Table
lent_table t = table t.names.now t.sizes.now

abbrev pub lent_tables : Tables → List Table
lent_tables t = lent_table t.left ∷ lent_table t.right ∷ []

pub record Field : Type 0 where
  pub name : List ℕ
  pub size : ℕ

-- ---- the joint fields

unfoldable pub fields_from : List (List ℕ) → List ℕ → List Field
fields_from [] sizes = []
fields_from (w ∷ ws) [] = []
fields_from (w ∷ ws) (s ∷ ss) = record { name = w; size = s } ∷ fields_from ws ss

-- the fields of a table
unfoldable pub fields_of : Table → List Field
fields_of t = fields_from (names_in t.cells) t.sizes

-- a further field, unless one of its name is there
unfoldable pub with_field : List Field → Field → List Field
with_field fs f = cond (is_named (map (λ (g : Field). g.name) fs) f.name) fs (fs ++ (f ∷ []))

unfoldable pub with_fields : List Field → List Field → List Field
with_fields fs [] = fs
with_fields fs (g ∷ gs) = with_fields (with_field fs g) gs

unfoldable pub with_tables : List Field → List Table → List Field
with_tables fs [] = fs
with_tables fs (t ∷ ts) = with_tables (with_fields fs (fields_of t)) ts

-- "as in the left table, then names that only the right one has": table after table, each name where it comes first
unfoldable pub joint : List Table → List Field
joint ts = with_tables [] ts

unfoldable pub joint_names : List Table → List (List ℕ)
joint_names ts = map (λ (f : Field). f.name) (joint ts)

unfoldable pub joint_sizes : List Table → List ℕ
joint_sizes ts = map (λ (f : Field). f.size) (joint ts)

-- The names that a text over one table may use, each at its joint number; where the table lacks the name stands the empty word, which no text has.
unfoldable pub names_for : List Table → Table → List (List ℕ)
names_for ts t = map (λ (w : List ℕ). cond (is_named (names_in t.cells) w) w []) (joint_names ts)

-- the table of a text's side: 2 is right, any other number left
unfoldable pub table_on : ℕ → Table → Table → Table
table_on side left right = cond (eqb side 2) right left

-- ---- the causes

unfoldable pub any_table : (Table → Bool) → List Table → Bool
any_table test [] = false
any_table test (t ∷ ts) = test t || any_table test ts

-- cause 4, side 0: not 16 bytes a name
unfoldable pub mismatched : Table → Bool
mismatched t = not (eqb (length t.cells) (length t.sizes * 16))

-- cause 20: table by table, the first of them with this side
unfoldable pub names_stage : ℕ → List Table → Tested
names_stage side [] = Ok tt
names_stage side (t ∷ ts) = first_refused (refused_at 20 side (lowest (bad_name (names_in t.cells)) (length t.sizes)) ∷ names_stage (suc side) ts ∷ [])

-- another size than this one, if there is one
unfoldable pub another : ℕ → List ℕ → Option ℕ → Bool
another size sizes None = false
another size sizes (Some j) = not (eqb (get_or sizes j 0) size)

-- name i of the table has another size in the other one
unfoldable pub other_size : Table → ℕ → Table → Bool
other_size t i other = another (get_or t.sizes i 0) other.sizes (field_named (names_in other.cells) (get_or (names_in t.cells) i []))

-- cause 21: a name of a table has another size in a later one
unfoldable pub sizes_stage : ℕ → List Table → Tested
sizes_stage side [] = Ok tt
sizes_stage side (t ∷ ts) = first_refused (refused_at 21 side (lowest (λ i. any_table (other_size t i) ts) (length t.sizes)) ∷ sizes_stage (suc side) ts ∷ [])

-- cause 1: a table is empty
unfoldable pub is_empty : Table → Bool
is_empty t = eqb (length t.sizes) 0

-- stage "fields": 4 of side 0, 20, 21; 1 of a table; 1 and 2 of the joint fields
unfoldable pub tables_stage : List Table → Tested
tables_stage ts =
    first_refused
    (refused_at 4 0 (at_zero (any_table mismatched ts))
    ∷ names_stage 1 ts
    ∷ sizes_stage 1 ts
    ∷ refused_at 1 0 (at_zero (any_table is_empty ts))
    ∷ fields_stage (joint_sizes ts)
    ∷ [])
