-- What the inner steps of the checker ask and answer.
use Rattle.std.specs.Prelude.{ℕ, ◌<◌, ◌≤◌, List, [], ◌∷◌, ◌≡◌, length, get_or, replicate, take}
use Rattle.packet.specs.Sizes.{product, LegalSizes}
use Rattle.policy.specs.Legality.{Legal}
use Rattle.fields.specs.Tables.{Table}
use Rattle.policy.specs.NodeLists.{NodeLists, node_count, dups_below}
use Rattle.policy.specs.Order.{pair_core, pair_tests}
use Rattle.std.specs.Prelude.{Ok}
use Rattle.packet_set.specs.Bits.{mask_bits}
use Rattle.pair.specs.Sides.{policies}
use Rattle.pair.specs.Pair.{pair_system}
use Rattle.pair.specs.Rules.{RulesAnswer, accepted, rule_b, rule_c, rule_d, and_then, broken_at, breaks_b, check_row, check_rows}
use Rattle.pair.specs.Evidence.{table_of, evidence_answer}
use Rattle.packet.specs.Lowest.{lowest}
use Rattle.index.specs.Columns.{EvenColumns, Small}
use Rattle.index.specs.Index.{Indexed, Indexable}
use Rattle.std.specs.Prelude.{Option}
use Rattle.row_rules.specs.Presence.{strays, or_end}
use Rattle.compare.specs.Comparison.{BothLoaded, BothBlank}
use Rattle.evidence.specs.declared.Evidence.{Evidence}
use Rattle.evidence.specs.declared.Bounds.{Bounds}
use Rattle.evidence.specs.declared.RowAnswer.{RowAnswer}
use Rattle.evidence.specs.declared.RowAnswer.TheVariants.{Keeps, Outputs, Next}
use Rattle.evidence.specs.Calls.{as_evidence, CheckedRows}

-- what a row's answer says of row i
unfoldable pub row_told : ℕ → RowAnswer → RulesAnswer
row_told i Keeps = accepted
row_told i Outputs = rule_c i
row_told i (Next γ) = rule_d i γ

-- the list for the index is all 0, and long enough for the rows
pub record Vacant (packets lefts rights : List ℕ) (count : ℕ) (trees : List ℕ) : Type 0 where
  pub none : Indexed packets lefts rights count 0 trees
  pub all : Indexable packets count (length packets) trees

-- how many dups each policy has
abbrev pub dups_of : NodeLists → NodeLists → List ℕ
dups_of L R = dups_below L (node_count L) ∷ dups_below R (node_count R) ∷ []

-- the lowest row that breaks rule (a)
pub record StrayIs (L R : NodeLists) (packets lefts rights : List ℕ) (count : ℕ) (stray : Option ℕ) : Type 0 where
  pub first : stray ≡ lowest (strays packets lefts rights count (dups_of L R)) (length packets)

module _ (sizes : List ℕ) (L R : NodeLists) (packets lefts rights : List ℕ) where
  -- no cause before 10 holds, and N is `count`
  pub record Allowed (count : ℕ) : Type 0 where
    pub legal : LegalSizes sizes
    pub left_legal : Legal sizes L
    pub right_legal : Legal sizes R
    pub packet_count : count ≡ product sizes

  -- cause 10 doesn't hold either
  pub record LentTable (count : ℕ) (work : List ℕ) : Type 0 where
    pub allowed : Allowed count
    pub table : EvenColumns packets lefts rights
    pub numbered : length packets ≤ 65535
    pub long : 16384 ≤ length work

  -- rule (a) is kept, and the work list is all 0
  pub record Cleared (count : ℕ) (work : List ℕ) : Type 0 where
    pub lent : LentTable count work
    pub small : Small packets count
    pub zero : (i : ℕ) → i < 16384 → get_or work i 0 ≡ 0

  -- (b), then row by row
  pub record StartsChecked (work : List ℕ) (answer : Evidence) (work' : List ℕ) : Type 0 where
    pub answers : answer
        ≡ as_evidence
        (and_then (broken_at rule_b (lowest (breaks_b (pair_system sizes (policies L R)) (table_of sizes (policies L R) packets lefts rights)) (product sizes)))
        (check_rows (pair_system sizes (policies L R)) (table_of sizes (policies L R) packets lefts rights) (length packets)))
    pub kept : work' ≡ work

  -- all four rules
  pub record TableChecked (work : List ℕ) (answer : Evidence) (work' : List ℕ) : Type 0 where
    pub answers : answer ≡ as_evidence (evidence_answer sizes (policies L R) packets lefts rights)
    pub cleared : work' ≡ replicate (length work) 0

module _ (sizes : List ℕ) (nodes tests : List (List ℕ)) (packets lefts rights : List ℕ) where
  -- two policies are loaded, and the rows are indexed
  pub record TableReady (count : ℕ) (trees work : List ℕ) : Type 0 where
    pub lists : NodeLists
    pub others : NodeLists
    pub loaded : BothLoaded sizes lists others nodes tests
    pub cleared : Cleared sizes lists others packets lefts rights count work
    pub indexed : Indexed packets lefts rights count (length packets) trees

  -- (c), then (d), at row i, whatever policies are loaded; where the row keeps both, the next lists are empty
  pub record RowChecked (i : ℕ) (work : List ℕ) (answer : RowAnswer) (next' : List (List ℕ)) (work' : List ℕ) : Type 0 where
    pub told : (L R : NodeLists) → BothLoaded sizes L R nodes tests
        → row_told i answer ≡ check_row (pair_system sizes (policies L R)) (table_of sizes (policies L R) packets lefts rights) i
    pub blank : answer ≡ Keeps → BothBlank next'
    pub kept : work' ≡ work

  -- row by row
  pub record RowsChecked (work : List ℕ) (answer : Evidence) (work' : List ℕ) : Type 0 where
    pub answers : (L R : NodeLists) → BothLoaded sizes L R nodes tests
        → answer ≡ as_evidence (check_rows (pair_system sizes (policies L R)) (table_of sizes (policies L R) packets lefts rights) (length packets))
    pub kept : work' ≡ work

-- ---- records

module _ (ts : List Table) (L R : NodeLists) where
  -- the numbers that so many records are held against; where no cause refuses the policies, all of up to 65,535 records
  pub record BoundsOf (rows : ℕ) (r : Bounds) : Type 0 where
    pub few : r.rows ≤ 65535
    pub within : r.rows ≤ rows
    pub fit : (r.left_dups < mask_bits) × (r.right_dups < mask_bits)
    pub passed : pair_tests ts L R ≡ Ok tt → rows ≤ 65535
        → (r.rows ≡ rows) × (r.count ≡ product (pair_core ts L R)) × (r.left_dups ∷ r.right_dups ∷ [] ≡ dups_of L R)

  module _ (packets lefts rights : List ℕ) (rows : ℕ) where
    -- the first entries are the columns of so many records, of which `stray` is the first that breaks rule (a), or their number
    pub record ReadTable (stray : ℕ) : Type 0 where
      pub long : rows ≤ 65535 → (rows ≤ length packets) × (rows ≤ length lefts) × (rows ≤ length rights)
      pub first : pair_tests ts L R ≡ Ok tt → rows ≤ 65535
          → stray ≡ or_end rows (lowest (strays (take rows packets) (take rows lefts) (take rows rights) (product (pair_core ts L R)) (dups_of L R)) rows)

    -- the columns, whatever was read of them, are checked
    pub record ReadChecked (work : List ℕ) (answer : Evidence) (work' : List ℕ) : Type 0 where
      pub columns : (P Q S : List ℕ) → length P ≡ rows → length Q ≡ rows → length S ≡ rows → (pair_tests ts L R ≡ Ok tt → rows ≤ 65535 → (take rows packets ≡ P) × (take rows lefts ≡ Q) × (take rows rights ≡ S))
          → CheckedRows ts L R P Q S work answer work'
