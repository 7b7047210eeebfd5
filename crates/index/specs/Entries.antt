-- The listed rows of a system that the columns stand for.
use Rattle.std.specs.Prelude.{◌≡◌, List, [], ◌∷◌, ◌++◌, ℕ, zero, suc, get_or}
use Rattle.system.specs.System.{System}
use Rattle.system.specs.System as system
use Rattle.system.specs.RowOrder.{Entry}
use Rattle.index.specs.declared.Row.{Row}
use Rattle.index.specs.Columns.{policy_count, row_at, masks_agree, all_zero}

-- The masks of a row stand for a state: two are the same, and one is dead, as the masks are.
pub record Masks (S : System) : Type 0 where
  pub state : List ℕ → S.State
  pub same_states_lem : (a b : List ℕ) → S.same (state a) (state b) ≡ masks_agree policy_count a b
  pub dead_states : (a : List ℕ) → S.dead (state a) ≡ all_zero a

module _ (S : System) (M : Masks S) where
  -- the system's row
  abbrev pub row_of : Row → system.Row S
  row_of r = record { packet = r.packet; state = M.state r.states }

  -- the first n rows of a row function, with their parents
  unfoldable pub entries_of : (ℕ → Row) → (ℕ → ℕ) → ℕ → List (Entry S)
  entries_of f parent zero = []
  entries_of f parent (suc n) = entries_of f parent n ++ (record { row = row_of (f n); parent = parent n } ∷ [])

  -- the first n rows of the columns
  abbrev pub entries : List ℕ → List ℕ → List ℕ → List ℕ → ℕ → List (Entry S)
  entries P L R Q n = entries_of (row_at P L R) (λ i. get_or Q i 0) n
