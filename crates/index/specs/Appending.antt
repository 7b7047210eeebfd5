-- A row is appended to the lent columns "unless both states are 0 or the row is listed already"; full when it must be appended and there is no room.
use Rattle.std.specs.Prelude.{◌≡◌, Bool, true, false, ◌&&◌, ◌||◌, not, List, ℕ, suc, Option, Some, None, ltb, length, get_or, set}
use Rattle.index.specs.declared.Row.{Row}
use Rattle.index.specs.declared.RowLists.{RowLists}
use Rattle.index.specs.Columns.{row_at, all_zero, listed_below}
use Rattle.index.specs.Index.{VacantAt, Indexed, trees_with}

-- the row must be appended to the first n
unfoldable pub is_new : (ℕ → Row) → ℕ → Row → Bool
is_new f n r = not (all_zero r.states || listed_below f n r)

-- where the row must be attached, if it must
pub record NewPlaced (f : ℕ → Row) (count n : ℕ) (trees : List ℕ) (r : Row) (answer : Option ℕ) : Type 0 where
  pub at : (slot : ℕ) → answer ≡ Some slot → (is_new f n r ≡ true) × VacantAt f count n trees r slot
  pub nowhere : answer ≡ None → is_new f n r ≡ false

-- The lent columns and the index.
pub record Lists : Type 0 where
  pub packets : List ℕ
  pub left : List ℕ
  pub right : List ℕ
  pub parents : List ℕ
  pub trees : List ℕ

abbrev pub lists : List ℕ → List ℕ → List ℕ → List ℕ → List ℕ → Lists
lists P L R Q trees = record { packets = P; left = L; right = R; parents = Q; trees = trees }

-- what the lent row lists and the index contain
abbrev pub lists_in : RowLists → List ℕ → Lists
lists_in rows trees = lists rows.packets.now rows.left.now rows.right.now rows.parents.now trees

-- the first n rows are indexed
abbrev pub IndexedIn : Lists → ℕ → ℕ → Type 0
IndexedIn x count n = Indexed x.packets x.left x.right count n x.trees

-- the answer: how many rows are listed now, or none where there is no room
unfoldable pub append_answer : Bool → Bool → ℕ → Option ℕ
append_answer true true n = Some (suc n)
append_answer true false n = None
append_answer false room n = Some n

-- how many rows are listed after the answer
unfoldable pub rows_after : Bool → ℕ → ℕ
rows_after true n = suc n
rows_after false n = n

-- a list's contents: the new when the row is appended
unfoldable pub new_if : Bool → List ℕ → List ℕ → List ℕ
new_if true new old = new
new_if false new old = old

-- the row must be appended, and there is room
unfoldable pub is_added : Lists → ℕ → Row → Bool
is_added x n r = is_new (row_at x.packets x.left x.right) n r && ltb n (length x.packets)

-- Row r with its parent, appended to the n rows of x, which become those of y.
pub record Appending (x y : Lists) (count n : ℕ) (r : Row) (parent : ℕ) (answer : Option ℕ) : Type 0 where
  pub answers : answer ≡ append_answer (is_new (row_at x.packets x.left x.right) n r) (ltb n (length x.packets)) n
  pub packets : y.packets ≡ new_if (is_added x n r) (set x.packets n r.packet) x.packets
  pub left : y.left ≡ new_if (is_added x n r) (set x.left n (get_or r.states 0 0)) x.left
  pub right : y.right ≡ new_if (is_added x n r) (set x.right n (get_or r.states 1 0)) x.right
  pub parents : y.parents ≡ new_if (is_added x n r) (set x.parents n parent) x.parents
  pub trees : y.trees ≡ new_if (is_added x n r) (trees_with (row_at x.packets x.left x.right) count r n x.trees) x.trees
  pub indexed : Indexed y.packets y.left y.right count (rows_after (is_added x n r) n) y.trees
