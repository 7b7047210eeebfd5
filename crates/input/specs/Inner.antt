-- What the functions that read a table line promise.
use Rattle.std.specs.Prelude.{ℕ, suc, ◌-◌, ◌*◌, ◌≤◌, ◌<◌, Bool, true, false, cond, Option, Some, None, List, [], ◌∷◌, ◌≡◌, length, take, drop, set}
use Rattle.std.proofs.Math.Seq.{paste}
use Rattle.grammar.specs.Tokens.{decimal}
use Rattle.input.specs.Input.{split_by, is_size, is_entry, entry_name, entry_size, entries_of, is_table, cell_of, table_of}
use Rattle.input.specs.declared.tables.Entry.{Entry}

-- the bytes from a place up to another
abbrev pub part : List ℕ → ℕ → ℕ → List ℕ
part xs from end = take (end - from) (drop from xs)

-- the part that starts at a byte, up to the next separating byte or the end
pub record PartFrom (by : ℕ) (w : List ℕ) (from end : ℕ) : Type 0 where
  pub low : from ≤ end
  pub within : end ≤ length w
  pub more : end < length w → split_by by (drop from w) ≡ part w from end ∷ split_by by (drop (suc end) w)
  pub last : length w ≤ end → split_by by (drop from w) ≡ part w from end ∷ []

-- the value of a size, if the word is one
unfoldable pub size_of : List ℕ → Option ℕ
size_of w = cond (is_size w) (Some (decimal 0 w)) None

-- the name and the size of an entry, if the word is one
abbrev pub EntryOf : List ℕ → Option Entry → Type 0
EntryOf w None = is_entry w ≡ false
EntryOf w (Some e) = (is_entry w ≡ true) × (e.name.now ≡ entry_name w) × (e.size ≡ entry_size w)

-- entry n has been stored, if the word is an entry
pub record EntryStored (w : List ℕ) (n : ℕ) (ok : Bool) (cells sizes cells' sizes' : List ℕ) : Type 0 where
  pub answer : ok ≡ is_entry w
  pub cell : ok ≡ true → cells' ≡ paste cells (n * 16) (cell_of (entry_name w)) 16
  pub size : ok ≡ true → sizes' ≡ set sizes n (entry_size w)

-- how many entries a line has, if it is a table
unfoldable pub read_as : List ℕ → Option ℕ
read_as line = cond (is_table line) (Some (length (entries_of line))) None

-- the table of a line lies at the front of two lists
pub record TableRead (line : List ℕ) (r : Option ℕ) (cells sizes : List ℕ) : Type 0 where
  pub answer : r ≡ read_as line
  pub few : is_table line ≡ true → length (entries_of line) ≤ 10923
  pub names : is_table line ≡ true → take (length (entries_of line) * 16) cells ≡ (table_of line).cells
  pub values : is_table line ≡ true → take (length (entries_of line)) sizes ≡ (table_of line).sizes
