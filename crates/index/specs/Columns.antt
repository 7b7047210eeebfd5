-- Rows in three lent columns (document 01, "States and rows"), and "listed already" as a scan over them.
use Rattle.std.specs.Prelude.{◌≡◌, Bool, true, false, ◌&&◌, ◌||◌, List, [], ◌∷◌, ℕ, zero, suc, ◌<◌, eqb, length, get_or, replicate}
use Rattle.index.specs.declared.Row.{Row}

-- how many policies a row follows
abbrev pub policy_count : ℕ
policy_count = 2

-- of two lists, one for each policy: the left one's, the right one's
abbrev pub left_of : List (List ℕ) → List ℕ
left_of xs = get_or xs 0 []

abbrev pub right_of : List (List ℕ) → List ℕ
right_of xs = get_or xs 1 []

-- the columns are of one length
pub record EvenColumns (P L R : List ℕ) : Type 0 where
  pub left : length L ≡ length P
  pub right : length R ≡ length P

-- each packet of the column is below N
pub record Small (P : List ℕ) (count : ℕ) : Type 0 where
  pub small : (i : ℕ) → i < length P → get_or P i 0 < count

-- the row at a place of the columns
abbrev pub row_at : List ℕ → List ℕ → List ℕ → ℕ → Row
row_at P L R i = record { packet = get_or P i 0; states = get_or L i 0 ∷ get_or R i 0 ∷ [] }

-- the states of the first k policies are the same
unfoldable pub masks_agree : ℕ → List ℕ → List ℕ → Bool
masks_agree zero a b = true
masks_agree (suc k) a b = masks_agree k a b && eqb (get_or a k 0) (get_or b k 0)

-- the same packet and the same states
unfoldable pub rows_agree : Row → Row → Bool
rows_agree a b = eqb a.packet b.packet && masks_agree policy_count a.states b.states

-- all states are 0
unfoldable pub all_zero : List ℕ → Bool
all_zero a = masks_agree policy_count a (replicate policy_count 0)

-- the row is one of the first n: a scan
unfoldable pub listed_below : (ℕ → Row) → ℕ → Row → Bool
listed_below f zero r = false
listed_below f (suc n) r = listed_below f n r || rows_agree (f n) r
