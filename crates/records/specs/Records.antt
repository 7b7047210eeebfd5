-- The columns of a list of row records, parents unread, and the first record that breaks rule (a).
use Rattle.std.specs.Prelude.{ℕ, zero, suc, List, [], ◌∷◌, get_or, set}
use Rattle.index.specs.Columns.{row_at}
use Rattle.row_rules.specs.Presence.{row_in_range, stray_after}
use Rattle.records.specs.declared.RowRecord.{RowRecord}

-- one number of each record
unfoldable pub column : (RowRecord → ℕ) → List RowRecord → List ℕ
column number [] = []
column number (r ∷ rs) = number r ∷ column number rs

abbrev pub packets_of : List RowRecord → List ℕ
packets_of = column (λ r. r.packet)

abbrev pub lefts_of : List RowRecord → List ℕ
lefts_of = column (λ r. r.left)

abbrev pub rights_of : List RowRecord → List ℕ
rights_of = column (λ r. r.right)

-- xs with the first k entries of cs in its first k places
unfoldable pub over : List ℕ → ℕ → List ℕ → List ℕ
over cs zero xs = xs
over cs (suc k) xs = set (over cs k xs) k (get_or cs k 0)

-- of the first k records the first that breaks rule (a), or `end`
unfoldable pub stray_in : ℕ → ℕ → List ℕ → List RowRecord → ℕ → ℕ
stray_in end count dups rows zero = end
stray_in end count dups rows (suc k) = stray_after end (stray_in end count dups rows k) k (row_in_range count dups (row_at (packets_of rows) (lefts_of rows) (rights_of rows) k))
