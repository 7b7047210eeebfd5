-- The row order of document 01, "States and rows", over any deterministic system, and the search's answer as a function of the rows lent.
use Rattle.std.specs.Prelude.{Bool, true, false, ◌&&◌, ◌||◌, List, [], ◌∷◌, ◌++◌, ℕ, zero, suc, ◌<◌, eqb, ltb, length, get_or, take}
use Rattle.std.specs.Prelude.{Option, None, Some}
use Rattle.packet.specs.Lowest.{lowest}
use Rattle.system.specs.System.{System, Row, start_row, next_row, tells}

-- A listed row, and its parent's place in the list.
pub record Entry (S : System) : Type 0 where
  pub row : Row S
  pub parent : ℕ

-- The rows listed so far, and how many of them have been handled.
pub record Run (S : System) : Type 0 where
  pub rows : List (Entry S)
  pub handled : ℕ

-- What comes next in a run: nothing, all rows are handled; nothing, the row to handle tells, γ its lowest telling packet; or the row is handled.
pub data Turn : Type 0 where
  finished : Turn
  telling : ℕ → Turn
  handling : Turn

module _ (S : System) where
  -- a starting row is its own parent
  abbrev pub start_entry : ℕ → Entry S
  start_entry α = record { row = start_row S α; parent = α }

  -- the row at a place of the list
  abbrev pub entry_at : List (Entry S) → ℕ → Entry S
  entry_at es i = get_or es i (start_entry 0)

  -- the starting rows of the packets below n
  unfoldable pub starts : ℕ → List (Entry S)
  starts zero = []
  starts (suc n) = starts n ++ (start_entry n ∷ [])

  -- the same packet and the same state
  unfoldable pub same_row : Row S → Row S → Bool
  same_row a b = eqb a.packet b.packet && S.same a.state b.state

  -- the row is listed already
  unfoldable pub listed : List (Entry S) → Row S → Bool
  listed [] r = false
  listed (e ∷ es) r =
      let later = listed es r in
      same_row e.row r || later

  -- the row is appended unless its state is dead or it is listed already
  unfoldable pub append : ℕ → List (Entry S) → Row S → List (Entry S)
  append p es r = elim (S.dead r.state || listed es r) [ true ↦ es | false ↦ es ++ (record { row = r; parent = p } ∷ []) ]

  -- the rows next at γ = 0 to n − 1 are appended in turn; r is row p
  unfoldable pub append_next : ℕ → ℕ → Row S → List (Entry S) → List (Entry S)
  append_next zero p r es = es
  append_next (suc n) p r es = append p (append_next n p r es) (next_row S r n)

  -- the lowest packet that tells at the row
  unfoldable pub lowest_telling : Row S → Option ℕ
  lowest_telling r = lowest (tells S r) S.packets

  -- the row to handle
  abbrev pub current : Run S → Row S
  current x = (entry_at x.rows x.handled).row

  -- handling a row looks first whether it tells
  unfoldable pub turn : Run S → Turn
  turn x =
      elim (ltb x.handled (length x.rows)) [
        | true ↦ elim (lowest_telling (current x)) [ Some γ ↦ telling γ | None ↦ handling ]
        | false ↦ finished
      ]

  -- one row is handled
  unfoldable pub handle : Run S → Run S
  handle x = record { rows = append_next S.packets x.handled (current x) x.rows; handled = suc x.handled }

  -- at most k rows are handled; the run stays put once its row tells or all rows are handled
  unfoldable pub run_from : ℕ → Run S → Run S
  run_from zero x = x
  run_from (suc k) x = elim (turn x) [ finished ↦ x | telling γ ↦ x | handling ↦ run_from k (handle x) ]

  -- the starting rows, none of them handled
  abbrev pub begin : Run S
  begin = record { rows = starts S.packets; handled = 0 }

  -- the row order after k rows, or where it ends before
  unfoldable pub run : ℕ → Run S
  run k = run_from k begin

  -- the row order needs more than n rows
  pub record NeedsMore (n : ℕ) : Type 0 where
    pub after : ℕ
    pub more : n < length (run after).rows

  -- A value is read off a row's line of parents: `first` at the starting row, `below` at each row under it.
  -- A parent comes before its row, so that i parents lead from row i to a starting row.
  module _ {A : Type 0} (first : Entry S → A) (below : Entry S → A → A) where
    unfoldable pub climbing : ℕ → List (Entry S) → ℕ → A
    climbing zero es i = first (entry_at es i)
    climbing (suc n) es i =
        let e = entry_at es i in
        elim (eqb e.parent i) [ true ↦ first e | false ↦ below e (climbing n es e.parent) ]

    unfoldable pub climb : List (Entry S) → ℕ → A
    climb es i = climbing i es i

  -- how many rows lie above row i
  unfoldable pub depth : List (Entry S) → ℕ → ℕ
  depth = climb (λ e. 0) (λ e d. suc d)

  -- the packets of the rows from the start row's successor down to row i
  unfoldable pub path : List (Entry S) → ℕ → List ℕ
  path = climb (λ e. []) (λ e w. w ++ (e.row.packet ∷ []))

  -- the start row's packet
  unfoldable pub entering : List (Entry S) → ℕ → ℕ
  entering = climb (λ e. e.row.packet) (λ e α. α)

-- The search's answer: the rows lent are too few, with the depth of the row being handled; equal, with the row count; or different, with the telling
-- row's place, the entering packet and the trace.
pub data RunAnswer : Type 0 where
  full : ℕ → RunAnswer
  equal : ℕ → RunAnswer
  different : ℕ → ℕ → List ℕ → RunAnswer

module _ (S : System) where
  -- what a run that has stopped answers; one that goes on is not asked
  unfoldable pub run_answer : Run S → RunAnswer
  run_answer x =
      elim (turn S x) [
        | finished ↦ equal (length x.rows)
        | telling γ ↦ different x.handled (entering S x.rows x.handled) (path S x.rows x.handled ++ (γ ∷ []))
        | handling ↦ full 0
      ]

  -- Run k has more than n rows: the depth of the row being handled when a row had to be appended and n were listed; 0 if the starting rows, those of
  -- run 0, didn't fit.
  unfoldable pub depth_before : ℕ → ℕ → ℕ
  depth_before n zero = 0
  depth_before n (suc k) =
      let x = run S k in
      elim (ltb n (length x.rows)) [ true ↦ depth_before n k | false ↦ depth S x.rows x.handled ]

  -- d of document 02, A.3, where the row order needs more than n rows; the run after n + 1 rows has more then
  unfoldable pub depth_at_full : ℕ → ℕ
  depth_at_full n = depth_before n (suc n)

  -- the answer with n rows lent: full when the row order needs more
  unfoldable pub answer_with : ℕ → RunAnswer
  answer_with n =
      let x = run S (suc n) in
      elim (ltb n (length x.rows)) [ true ↦ full (depth_at_full n) | false ↦ run_answer x ]

  -- the rows that n lent rows hold in the end
  unfoldable pub held : ℕ → List (Entry S)
  held n = take n (run S (suc n)).rows
