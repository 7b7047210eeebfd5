-- What the program's input asks: left table, right table, left text, right text; or it is malformed, cause 18 (document 01, "The program";
-- document 02, A.4).
use Rattle.std.specs.Prelude.{ℕ, min, Bool, true, false, ◌&&◌, not, List, [], ◌∷◌, ◌++◌, map, ltb, eqb, length, get_or, take, replicate}
use Rattle.fields.specs.Tables.{Table, table}
use Rattle.grammar.specs.Tokens.{decimal, is_number}
use Rattle.input.specs.Lines.{onto, lines_of}

-- the parts between the separating bytes: one more than there are of these
unfoldable pub split_by : ℕ → List ℕ → List (List ℕ)
split_by by [] = [] ∷ []
split_by by (b ∷ bs) = elim (eqb b by) [ true ↦ [] ∷ split_by by bs | false ↦ onto b (split_by by bs) ]

-- a number word of Text; a word has at least one byte
unfoldable pub is_size : List ℕ → Bool
is_size w = not (eqb (length w) 0) && is_number w

-- ---- an entry: `name=size`

-- two parts, the second of them a size
unfoldable pub is_name_and_size : List (List ℕ) → Bool
is_name_and_size [] = false
is_name_and_size (a ∷ []) = false
is_name_and_size (a ∷ b ∷ []) = is_size b
is_name_and_size (a ∷ b ∷ c ∷ ps) = false

-- just one `=`, and a size after it
unfoldable pub is_entry : List ℕ → Bool
is_entry e = is_name_and_size (split_by 61 e)

-- what stands before the `=`, whatever its bytes
unfoldable pub entry_name : List ℕ → List ℕ
entry_name e = get_or (split_by 61 e) 0 []

unfoldable pub entry_size : List ℕ → ℕ
entry_size e = decimal 0 (get_or (split_by 61 e) 1 [])

-- ---- a table: entries split by commas

-- an empty line has no entries
unfoldable pub entries_of : List ℕ → List (List ℕ)
entries_of [] = []
entries_of (b ∷ bs) = split_by 44 (b ∷ bs)

unfoldable pub all_entries : List (List ℕ) → Bool
all_entries [] = true
all_entries (e ∷ es) = is_entry e && all_entries es

unfoldable pub is_table : List ℕ → Bool
is_table line = all_entries (entries_of line)

-- the 16 bytes that hold a name: one of more than 15 bytes has the length 16, which is no name's, and never one that wrapped round
unfoldable pub cell_of : List ℕ → List ℕ
cell_of w = min (length w) 16 ∷ take 15 (w ++ replicate 15 0)

unfoldable pub cells_of : List (List ℕ) → List ℕ
cells_of [] = []
cells_of (e ∷ es) = cell_of (entry_name e) ++ cells_of es

unfoldable pub sizes_of : List (List ℕ) → List ℕ
sizes_of es = map entry_size es

unfoldable pub table_of : List ℕ → Table
table_of line = table (cells_of (entries_of line)) (sizes_of (entries_of line))

-- ---- the four lines

-- two texts over the fields of a left and a right table; or malformed input
pub data Asked : Type 0 where
  malformed : Asked
  compare : Table → Table → List ℕ → List ℕ → Asked

-- the two table lines and the two texts
unfoldable pub asked_of : List ℕ → List ℕ → List ℕ → List ℕ → Asked
asked_of a b left right = elim (is_table a && is_table b) [ true ↦ compare (table_of a) (table_of b) left right | false ↦ malformed ]

-- another count of lines than four is malformed
unfoldable pub asked_by_lines : List (List ℕ) → Asked
asked_by_lines [] = malformed
asked_by_lines (a ∷ []) = malformed
asked_by_lines (a ∷ b ∷ []) = malformed
asked_by_lines (a ∷ b ∷ c ∷ []) = malformed
asked_by_lines (a ∷ b ∷ c ∷ d ∷ []) = asked_of a b c d
asked_by_lines (a ∷ b ∷ c ∷ d ∷ e ∷ ls) = malformed

-- over 32,768 bytes are tested first
unfoldable pub asked : List ℕ → Asked
asked input = elim (ltb 32768 (length input)) [ true ↦ malformed | false ↦ asked_by_lines (lines_of input) ]
