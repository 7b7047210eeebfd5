-- The search's answer, and what the row lists hold (document 01, "States and rows").
use Rattle.std.specs.Prelude.{ℕ, pred, ◌<◌, cond, List, map, ◌↔◌, ltb, length, get_or}
use Rattle.packet.specs.Sizes.{product}
use Rattle.packet_set.specs.Bits.{bit}
use Rattle.system.specs.System.{Row}
use Rattle.system.specs.RowOrder.{Entry, entry_at, full as more_rows, equal as all_handled, different as telling_row, answer_with, held}
use Rattle.pair.specs.Sides.{Side, left, right, other, Pair, NumberedPolicy}
use Rattle.pair.specs.Pair.{SideTraces, output_at, pair_system}

-- Equal, with the row count; different, with the policy that has the trace, the entering packet and the trace;
-- refusal 11, with the rows lent and the depth of the row being handled; refusal 12, with the length needed.
pub data SearchAnswer : Type 0 where
  equal : ℕ → SearchAnswer
  different : Side → ℕ → List ℕ → SearchAnswer
  rows_full : ℕ → ℕ → SearchAnswer
  trace_short : ℕ → SearchAnswer

-- the four row lists
pub record Columns : Type 0 where
  pub packets : List ℕ
  pub lefts : List ℕ
  pub rights : List ℕ
  pub parents : List ℕ

-- the last packet of a trace
unfoldable pub last_of : List ℕ → ℕ
last_of t = get_or t (pred (length t)) 0

-- a different answer, where the trace list lent is long enough
unfoldable pub reported : ℕ → Side → ℕ → List ℕ → SearchAnswer
reported lent s α trace = cond (ltb lent (length trace)) (trace_short (length trace)) (different s α trace)

module _ (sizes : List ℕ) (ps : Pair NumberedPolicy) where
  -- the policy in whose output the telling packet is
  unfoldable pub side_of : Row (pair_system sizes ps) → ℕ → Side
  side_of r γ = cond (bit (output_at sizes ps left r.packet r.state) γ) left right

  -- the search's answer with so many rows and so long a trace lent
  unfoldable pub search_answer : ℕ → ℕ → SearchAnswer
  search_answer rows lent =
      elim (answer_with (pair_system sizes ps) rows) [
        | more_rows d ↦ rows_full rows d
        | all_handled count ↦ equal count
        | telling_row i α trace ↦ reported lent (side_of (entry_at (pair_system sizes ps) (held (pair_system sizes ps) rows) i).row (last_of trace)) α trace
      ]

  unfoldable pub columns_of : List (Entry (pair_system sizes ps)) → Columns
  columns_of es =
      record {
        packets = map (λ e. e.row.packet) es;
        lefts = map (λ e. e.row.state.left) es;
        rights = map (λ e. e.row.state.right) es;
        parents = map (λ e. e.parent) es;
      }

  -- what the row lists hold with so many rows lent
  unfoldable pub held_columns : ℕ → Columns
  held_columns rows = columns_of (held (pair_system sizes ps) rows)

  -- The trace tells the two policies apart from α: the side's policy has it, the other has not, and no shorter trace tells the two apart from any packet.
  pub record Distinguishes (s : Side) (α : ℕ) (trace : List ℕ) : Type 0 where
    pub enters : α < product sizes
    pub has : SideTraces sizes ps s α trace
    pub lacks : SideTraces sizes ps (other s) α trace → ⊥
    pub shortest : (β : ℕ) → β < product sizes → (t : List ℕ) → length t < length trace → SideTraces sizes ps left β t ↔ SideTraces sizes ps right β t
