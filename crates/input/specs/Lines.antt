-- Lines of the program's input (document 01, "The program"): each ended by LF or CRLF, the last optionally; a line end with no byte after it
-- starts no further line. A CR that no LF follows belongs to its line.
use Rattle.std.specs.Prelude.{ℕ, Bool, true, false, ◌&&◌, List, [], ◌∷◌, eqb}

-- the bytes begin with LF
unfoldable pub begins_lf : List ℕ → Bool
begins_lf [] = false
begins_lf (b ∷ bs) = eqb b 10

-- a CR before an LF, which belongs to the line end
unfoldable pub is_cr : ℕ → List ℕ → Bool
is_cr b bs = eqb b 13 && begins_lf bs

-- a byte before the first part
unfoldable pub onto : ℕ → List (List ℕ) → List (List ℕ)
onto b [] = (b ∷ []) ∷ []
onto b (l ∷ ls) = (b ∷ l) ∷ ls

-- the lines, without their ends
unfoldable pub lines_of : List ℕ → List (List ℕ)
lines_of [] = []
lines_of (b ∷ bs) =
    elim (eqb b 10) [
      | true ↦ [] ∷ lines_of bs
      | false ↦ elim (is_cr b bs) [ true ↦ lines_of bs | false ↦ onto b (lines_of bs) ]
    ]
