-- A row's line of parents, read off the lent columns: its depth, the packets on it and the packet at its start.
use Rattle.std.specs.Prelude.{true, false, List, [], ◌∷◌, ◌++◌, ℕ, zero, suc, ◌≤◌, ◌<◌, eqb, length, get_or}

-- `first` at the starting row, its own parent; `below` at each row under it
module _ {A : Type 0} (first : ℕ → A) (below : ℕ → A → A) (parents : List ℕ) where
  unfoldable pub rising : ℕ → ℕ → A
  rising zero i = first i
  rising (suc n) i =
      let p = get_or parents i 0 in
      elim (eqb p i) [ true ↦ first i | false ↦ below i (rising n p) ]

  -- no row comes before its parent, so that i steps are enough
  unfoldable pub rise : ℕ → A
  rise i = rising i i

-- how many rows lie above row i
unfoldable pub line_depth : List ℕ → ℕ → ℕ
line_depth parents = rise (λ j. 0) (λ j d. suc d) parents

-- the packets of the rows from the start row's successor down to row i
unfoldable pub line_path : List ℕ → List ℕ → ℕ → List ℕ
line_path packets parents = rise (λ j. []) (λ j w. w ++ (get_or packets j 0 ∷ [])) parents

-- the start row's packet
unfoldable pub line_start : List ℕ → List ℕ → ℕ → ℕ
line_start packets parents = rise (λ j. get_or packets j 0) (λ j α. α) parents

-- of the first n rows, none comes before its parent
pub record Rooted (parents : List ℕ) (n : ℕ) : Type 0 where
  pub within : n ≤ length parents
  pub earlier : (i : ℕ) → i < n → get_or parents i 0 ≤ i
