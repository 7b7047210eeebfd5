-- Names of fields, and the cells that hold them (document 02, A.4). A name lies in a cell of 16 bytes: its length, then its bytes; those past
-- the length are not read.
use Rattle.std.specs.Prelude.{ℕ, zero, suc, ◌/◌, Bool, true, false, cond, not, ◌&&◌, ◌||◌, List, [], ◌∷◌, leb, length, get_or, take, drop, Option, is_some, bytes_eq}
use Rattle.packet.specs.Lowest.{lowest}
use Rattle.fields.specs.Bytes.{is_small, is_digit}

-- two words are the same, byte for byte
abbrev pub same_word : List ℕ → List ℕ → Bool
same_word = bytes_eq

-- the first of the names that is the word
unfoldable pub field_named : List (List ℕ) → List ℕ → Option ℕ
field_named names w = lowest (λ f. same_word w (get_or names f [])) (length names)

-- the word is one of the names
unfoldable pub is_named : List (List ℕ) → List ℕ → Bool
is_named names w = is_some (field_named names w)

-- the name in a cell; a length over 15 is no name's, and the cell then holds the empty word
unfoldable pub cell_name : List ℕ → List ℕ
cell_name [] = []
cell_name (n ∷ bs) = cond (leb n 15) (take n bs) []

unfoldable pub names_from : ℕ → List ℕ → List (List ℕ)
names_from zero cells = []
names_from (suc n) cells = cell_name (take 16 cells) ∷ names_from n (drop 16 cells)

-- the names in the cells
unfoldable pub names_in : List ℕ → List (List ℕ)
names_in cells = names_from (length cells / 16) cells

-- drop, id and dup
abbrev pub word_drop : List ℕ
word_drop = 100 ∷ 114 ∷ 111 ∷ 112 ∷ []

abbrev pub word_id : List ℕ
word_id = 105 ∷ 100 ∷ []

abbrev pub word_dup : List ℕ
word_dup = 100 ∷ 117 ∷ 112 ∷ []

unfoldable pub is_constant : List ℕ → Bool
is_constant w = same_word w word_drop || same_word w word_id || same_word w word_dup

unfoldable pub all_small_or_digit : List ℕ → Bool
all_small_or_digit [] = true
all_small_or_digit (b ∷ bs) = (is_small b || is_digit b) && all_small_or_digit bs

-- small letters and digits, a letter first; a cell has room for 15
unfoldable pub well_formed : List ℕ → Bool
well_formed [] = false
well_formed (b ∷ bs) = is_small b && all_small_or_digit bs

-- cause 20: name i is malformed, repeats an earlier one, or is drop, id or dup
unfoldable pub bad_name : List (List ℕ) → ℕ → Bool
bad_name names i = not (well_formed (get_or names i [])) || is_constant (get_or names i []) || is_named (take i names) (get_or names i [])
