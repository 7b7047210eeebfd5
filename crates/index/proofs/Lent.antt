-- The lent row lists stay the same, call after call, and what is read of them as columns.
use mathlib.Core.Path.{◌≡◌, refl, ◌∙◌, ap}
use mathlib.Core.List.{List}
use Prim.Native.Nat.{ℕ}
use Rattle.index.specs.declared.Row.{Row}
use Rattle.index.specs.declared.Columns.{Columns}
use Rattle.index.specs.declared.RowLists.{RowLists}
use Rattle.index.specs.Columns.{row_at}
use Rattle.index.specs.Index.{Indexed}
use Rattle.index.specs.Lent.{rows_of, IndexedRows, SameLists}

pub same_none : {x : RowLists} → SameLists x x
same_none =
    record {
      packets = refl;
      left = refl;
      right = refl;
      parents = refl;
      packets_len = refl;
      left_len = refl;
      right_len = refl;
      parents_len = refl;
    }

pub same_then : {x y z : RowLists} → SameLists x y → SameLists y z → SameLists x z
same_then a b =
    record {
      packets = b.packets ∙ a.packets;
      left = b.left ∙ a.left;
      right = b.right ∙ a.right;
      parents = b.parents ∙ a.parents;
      packets_len = b.packets_len ∙ a.packets_len;
      left_len = b.left_len ∙ a.left_len;
      right_len = b.right_len ∙ a.right_len;
      parents_len = b.parents_len ∙ a.parents_len;
    }

-- the columns that the lists are read as
module _ (columns : Columns) {P L R : List ℕ} (packets : columns.packets.now ≡ P) (left : columns.left.now ≡ L) (right : columns.right.now ≡ R) where
  pub read_rows : rows_of columns ≡ row_at P L R
  read_rows = λ k. row_at (packets k) (left k) (right k)

  pub read_row : (i : ℕ) (r : Row) → r ≡ rows_of columns i → r ≡ row_at P L R i
  read_row i r is = is ∙ ap (λ f. f i) read_rows

  module _ {count n : ℕ} {trees : List ℕ} where
    pub read_indexed : IndexedRows columns count n trees → Indexed P L R count n trees
    read_indexed I = rw (← packets, ← left, ← right) I

    pub indexed_read : Indexed P L R count n trees → IndexedRows columns count n trees
    indexed_read I = rw (packets, left, right) I
