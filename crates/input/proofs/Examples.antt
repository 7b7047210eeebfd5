-- What lines of tables are, by computation (document 02, A.4).
use Prim.Native.Nat.{ℕ}
use Prim.Native.Char.{code}
use Prim.Native.String.{String, [] as no_text, ◌∷◌ as ◌thenText◌}
use mathlib.Core.Bool.{true, false}
use mathlib.Core.List.{List, [], ◌∷◌, ◌++◌, map}
use mathlib.Core.Path.{◌≡◌, refl}
use lib.ListN.{replicate}
use Rattle.fields.specs.Tables.{table}
use Rattle.fields.specs.Bytes.{is_digit}
use Rattle.grammar.specs.Tokens.{all_digits, decimal, leading_zero, is_number}
use Rattle.input.specs.Lines.{onto}
use Rattle.input.specs.Input.{split_by, is_size, is_name_and_size, is_entry, entry_name, entry_size, entries_of, all_entries, is_table, cell_of, cells_of, sizes_of, table_of}

-- the bytes of an ASCII text
unfoldable pub bytes : String → List ℕ
bytes no_text = []
bytes (◌thenText◌ c s) = code c ∷ bytes s

-- malformed: not just one `=`, or no number word after it
no_tables : map (λ (s : String). is_table (bytes s)) ("a==1" ∷ "a=1," ∷ "a" ∷ "a=" ∷ "a=01" ∷ "a=1 " ∷ "a=65536" ∷ "1" ∷ "," ∷ []) ≡ replicate 9 false
unfolding bytes is_table entries_of all_entries is_entry is_name_and_size split_by onto is_size is_number all_digits is_digit leading_zero decimal
no_tables = refl

-- a name may have any bytes, and an empty line is a table
are_tables : map (λ (s : String). is_table (bytes s)) ("=1" ∷ "A=1" ∷ "a =1" ∷ "a=1,a=0" ∷ "" ∷ []) ≡ replicate 5 true
unfolding bytes is_table entries_of all_entries is_entry is_name_and_size split_by onto is_size is_number all_digits is_digit leading_zero decimal
are_tables = refl

-- no entry, one with no name, two
tables : map (λ (s : String). table_of (bytes s)) ("" ∷ "=1" ∷ "sw=2,vlan=4096" ∷ [])
    ≡ table [] []
    ∷ table (replicate 16 0) (1 ∷ [])
    ∷ table (2 ∷ bytes "sw" ++ replicate 13 0 ++ 4 ∷ bytes "vlan" ++ replicate 11 0) (2 ∷ 4096 ∷ [])
    ∷ []
unfolding bytes table_of entries_of cells_of cell_of sizes_of entry_name entry_size split_by onto decimal
tables = refl

-- 15 bytes have room; of 16 and of 257 the length is 16
long_names : map cell_of (replicate 15 97 ∷ replicate 16 97 ∷ replicate 257 97 ∷ []) ≡ (15 ∷ replicate 15 97) ∷ (16 ∷ replicate 15 97) ∷ (16 ∷ replicate 15 97) ∷ []
unfolding cell_of
long_names = refl
