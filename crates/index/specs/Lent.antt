-- The lent lists as the clauses name them: the columns that are read, and the row lists that are written.
use Rattle.std.specs.Prelude.{◌≡◌, List, ℕ, length}
use Rattle.index.specs.declared.Row.{Row}
use Rattle.index.specs.declared.Columns.{Columns}
use Rattle.index.specs.declared.RowLists.{RowLists}
use Rattle.index.specs.Columns.{row_at}
use Rattle.index.specs.Index.{Indexed}

-- the rows of the columns
abbrev pub rows_of : Columns → ℕ → Row
rows_of columns = row_at columns.packets.now columns.left.now columns.right.now

-- the first n rows of the columns are indexed
abbrev pub IndexedRows : Columns → ℕ → ℕ → List ℕ → Type 0
IndexedRows columns count n trees = Indexed columns.packets.now columns.left.now columns.right.now count n trees

-- the same lent lists, as long as before, whatever they contain now
pub record SameLists (x y : RowLists) : Type 0 where
  pub packets : y.packets.ghost_name ≡ x.packets.ghost_name
  pub left : y.left.ghost_name ≡ x.left.ghost_name
  pub right : y.right.ghost_name ≡ x.right.ghost_name
  pub parents : y.parents.ghost_name ≡ x.parents.ghost_name
  pub packets_len : length y.packets.now ≡ length x.packets.now
  pub left_len : length y.left.now ≡ length x.left.now
  pub right_len : length y.right.now ≡ length x.right.now
  pub parents_len : length y.parents.now ≡ length x.parents.now
