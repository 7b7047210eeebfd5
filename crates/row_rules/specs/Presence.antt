-- The row rules as tests of the lent columns: what each loop of the checker looks for.
use Rattle.std.specs.Prelude.{ℕ, zero, suc, ◌<◌, Bool, true, false, cond, not, ◌&&◌, ◌||◌, List, [], ◌∷◌, ◌≡◌, eqb, ltb, length, get_or}
use Rattle.std.specs.Prelude.{Option, None, Some}
use Rattle.packet_set.specs.Bits.{mask_bits, only_bits}
use Rattle.index.specs.declared.Row.{Row}
use Rattle.index.specs.Columns.{policy_count, row_at, rows_agree, listed_below}

-- a packet, a left and a right state
abbrev pub mask_row : ℕ → ℕ → ℕ → Row
mask_row α l r = record { packet = α; states = l ∷ r ∷ [] }

-- the states of the first k policies have only bits 0 to the number of that policy's dups
unfoldable pub states_in_range : ℕ → List ℕ → List ℕ → Bool
states_in_range zero dups states = true
states_in_range (suc k) dups states = states_in_range k dups states && only_bits (get_or states k 0) (get_or dups k 0)

-- rule (a) at one row: a packet below N, and states in range
unfoldable pub row_in_range : ℕ → List ℕ → Row → Bool
row_in_range count dups r = ltb r.packet count && states_in_range policy_count dups r.states

-- there is a bit for each dup
abbrev pub DupsFit : List ℕ → Type 0
DupsFit dups = (k : ℕ) → k < policy_count → get_or dups k 0 < mask_bits

-- the first of `end` rows that breaks rule (a), or `end`: `found` before row i, and row i in range or not
unfoldable pub stray_after : ℕ → ℕ → ℕ → Bool → ℕ
stray_after end found i true = found
stray_after end found i false = cond (ltb found end) found i

-- a place, or the end where there is none
unfoldable pub or_end : ℕ → Option ℕ → ℕ
or_end end None = end
or_end end (Some i) = i

-- a place before the end, or none
unfoldable pub before : ℕ → ℕ → Option ℕ
before end i = cond (ltb i end) (Some i) None

-- both states are 0
unfoldable pub zero_states : ℕ → ℕ → Bool
zero_states l r = eqb l 0 && eqb r 0

module _ (packets lefts rights : List ℕ) where
  -- the row is one of the table's
  unfoldable pub in_columns : ℕ → ℕ → ℕ → Bool
  in_columns α l r = listed_below (row_at packets lefts rights) (length packets) (mask_row α l r)

  -- rule (a) is broken at row i
  unfoldable pub strays : ℕ → List ℕ → ℕ → Bool
  strays count dups i = not (row_in_range count dups (row_at packets lefts rights i))

  -- rule (b) is broken at packet α
  unfoldable pub start_missing : ℕ → Bool
  start_missing α = not (in_columns α 1 1)

  -- rule (d) is broken at a row whose next at γ are these states
  unfoldable pub next_missing : ℕ → ℕ → ℕ → Bool
  next_missing γ l r = not (zero_states l r || in_columns γ l r)

  -- row i is the same as a row before it
  pub record Repeated (i : ℕ) : Type 0 where
    pub first : ℕ
    pub before : first < i
    pub same : rows_agree (row_at packets lefts rights first) (row_at packets lefts rights i) ≡ true
