-- The columns of a list of records, the lists that they are written over, and the first record that breaks rule (a).
-- Assumes nothing.
use Prim.Native.Nat.{ℕ, zero, suc, ◌<◌, ◌≤◌}
use native.Mathlib.Nat.{not-suc-le-zero, le_of_suc-le-suc}
use native.Mathlib.Omega.{arith}
use mathlib.Core.Bool.{Bool, true, false, cond, not}
use mathlib.Core.List.{List, [], ◌∷◌, ◌++◌}
use Rattle.std.specs.Prelude.{Option, None, Some}
use mathlib.Core.Path.{◌≡◌, refl, ◌∙◌, ap}
use lib.ListN.{length, get_or, set, take, drop, length-set}
use borrow.Author.Tests.{lt-ltb, le-ltb}
use Rattle.packet.specs.Lowest.{lowest, or_at}
use Rattle.packet.proofs.Lowest.{Found, lowest_is}
use Rattle.index.specs.Columns.{row_at}
use Rattle.row_rules.specs.Presence.{mask_row, row_in_range, stray_after, or_end, strays}
use Rattle.records.specs.declared.RowRecord.{RowRecord}
use Rattle.records.specs.Records.{column, packets_of, lefts_of, rights_of, over, stray_in}

-- ---- the columns

-- what stands past the end of a list of records
abbrev pub no_record : RowRecord
no_record = record { packet = 0; left = 0; right = 0; parent = 0 }

column_at : (number : RowRecord → ℕ) → number no_record ≡ 0 → (rows : List RowRecord) (i : ℕ) → number (get_or rows i no_record) ≡ get_or (column number rows) i 0
unfolding column
column_at number e [] zero = e
column_at number e [] (suc i) = e
column_at number e (r ∷ rs) zero = refl
column_at number e (r ∷ rs) (suc i) = column_at number e rs i

pub packet_at : (rows : List RowRecord) (i : ℕ) → (get_or rows i no_record).packet ≡ get_or (packets_of rows) i 0
packet_at = column_at (λ r. r.packet) refl

pub left_at : (rows : List RowRecord) (i : ℕ) → (get_or rows i no_record).left ≡ get_or (lefts_of rows) i 0
left_at = column_at (λ r. r.left) refl

pub right_at : (rows : List RowRecord) (i : ℕ) → (get_or rows i no_record).right ≡ get_or (rights_of rows) i 0
right_at = column_at (λ r. r.right) refl

pub column_length : (number : RowRecord → ℕ) (rows : List RowRecord) → length (column number rows) ≡ length rows
unfolding column
column_length number [] = refl
column_length number (r ∷ rs) = ap suc (column_length number rs)

-- ---- a list written over

pub over_next : (cs xs : List ℕ) (i v : ℕ) → v ≡ get_or cs i 0 → set (over cs i xs) i v ≡ over cs (suc i) xs
unfolding over
over_next cs xs i v e = ap (set (over cs i xs) i) e

pub over_length : (cs : List ℕ) (k : ℕ) (xs : List ℕ) → length (over cs k xs) ≡ length xs
unfolding over
over_length cs zero xs = refl
over_length cs (suc k) xs = length-set (over cs k xs) k (get_or cs k 0) ∙ over_length cs k xs

-- the entry after the first k is written
next_set : (cs xs : List ℕ) (k : ℕ) → k < length cs → k < length xs → set (take k cs ++ drop k xs) k (get_or cs k 0) ≡ take (suc k) cs ++ drop (suc k) xs
next_set [] xs k l m = absurd (not-suc-le-zero l)
next_set (c ∷ cs) [] k l m = absurd (not-suc-le-zero m)
next_set (c ∷ cs) (x ∷ xs) zero l m = refl
next_set (c ∷ cs) (x ∷ xs) (suc k) l m = ap (λ (r : List ℕ). c ∷ r) (next_set cs xs k (le_of_suc-le-suc l) (le_of_suc-le-suc m))

over_is : (cs xs : List ℕ) (k : ℕ) → k ≤ length cs → k ≤ length xs → over cs k xs ≡ take k cs ++ drop k xs
unfolding over
over_is cs xs zero l m = refl
over_is cs xs (suc k) l m = ap (λ (r : List ℕ). set r k (get_or cs k 0)) (over_is cs xs k (omega arith) (omega arith)) ∙ next_set cs xs k l m

take_whole : (cs ys : List ℕ) → take (length cs) (take (length cs) cs ++ ys) ≡ cs
take_whole [] ys = refl
take_whole (c ∷ cs) ys = ap (λ (r : List ℕ). c ∷ r) (take_whole cs ys)

pub over_takes : (cs xs : List ℕ) → length cs ≤ length xs → take (length cs) (over cs (length cs) xs) ≡ cs
over_takes cs xs l = ap (take (length cs)) (over_is cs xs (length cs) (omega arith) l) ∙ take_whole cs (drop (length cs) xs)

-- ---- the first record that breaks rule (a)

pub stray_next : (end count : ℕ) (dups : List ℕ) (rows : List RowRecord) (i : ℕ)
    → stray_after end (stray_in end count dups rows i) i (row_in_range count dups (mask_row (get_or rows i no_record).packet (get_or rows i no_record).left (get_or rows i no_record).right)) ≡ stray_in end count dups rows (suc i)
unfolding stray_in
stray_next end count dups rows i j = stray_after end (stray_in end count dups rows i) i (row_in_range count dups (mask_row (packet_at rows i j) (left_at rows i j) (right_at rows i j)))

-- one more row, in range or not
stray_more : (end k : ℕ) (test : ℕ → Bool) (o : Option ℕ) (fits : Bool) → Found test k o → suc k ≤ end → stray_after end (or_end end o) k fits ≡ or_end end (or_at o (not fits) k)
unfolding stray_after or_end or_at
stray_more end k test None true found l = refl
stray_more end k test None false found l = ap (λ (c : Bool). cond c end k) (le-ltb end end (omega arith))
stray_more end k test (Some i) true found l = refl
stray_more end k test (Some i) false found l = ap (λ (c : Bool). cond c i k) (lt-ltb i end (omega (arith, found.below)))

pub stray_lowest : (end count : ℕ) (dups : List ℕ) (rows : List RowRecord) (k : ℕ) → k ≤ end
    → stray_in end count dups rows k ≡ or_end end (lowest (strays (packets_of rows) (lefts_of rows) (rights_of rows) count dups) k)
unfolding stray_in lowest or_end strays
stray_lowest end count dups rows zero l = refl
stray_lowest end count dups rows (suc k) l =
    let fits : Bool = row_in_range count dups (row_at (packets_of rows) (lefts_of rows) (rights_of rows) k) in
    let test : ℕ → Bool = strays (packets_of rows) (lefts_of rows) (rights_of rows) count dups in
    ap (λ (found : ℕ). stray_after end found k fits) (stray_lowest end count dups rows k (omega arith)) ∙ stray_more end k test (lowest test k) fits (lowest_is test k) l
