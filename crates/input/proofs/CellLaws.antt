-- Cells that hold names: what lies in them, and that a table has the names of its entries.
use Prim.Native.Nat.{ℕ, zero, suc, min, ◌*◌, ◌/◌, ◌≤◌, ◌<◌}
use native.Mathlib.Omega.{arith}
use mathlib.Core.Bool.{Bool, true, false, cond}
use mathlib.Core.List.{List, [], ◌∷◌, ◌++◌, append-nil, map}
use mathlib.Core.Path.{◌≡◌, refl, sym, ◌∙◌, ap, ap₂}
use lib.Dec.{leb}
use lib.ListN.{length, take, drop, drop_of_length-le, replicate, length-append, length-replicate}
use lib.Seq.{length-take-le, take-take, take-append_seam, take_at, drop_at, take_all, paste}
use Rattle.std.proofs.lemmas.List.{take-append-le}
use borrow.Author.Tests.{leb-true, leb-false}
use borrow.Rule.Slice.PartMut.{put_mid}
use Rattle.std.proofs.lemmas.Slice.{put_mid-paste}
use Rattle.fields.specs.Names.{cell_name, names_from, names_in}
use Rattle.input.specs.Input.{entry_name, entries_of, cell_of, cells_of, table_of}

-- ---- the bytes of a cell

long_enough : (w : List ℕ) → 15 ≤ length (w ++ replicate 15 0)
long_enough w = omega (arith, length-append w (replicate 15 0), length-replicate {A = ℕ} 15 0)

pub cell_length : (w : List ℕ) → length (cell_of w) ≡ 16
unfolding cell_of
cell_length w = ap suc (length-take-le 15 (w ++ replicate 15 0) (long_enough w))

-- a word, and zeros behind it
zeros : (k n : ℕ) → k ≤ n → replicate {A = ℕ} k 0 ≡ take k (replicate n 0)
zeros zero n h = refl
zeros (suc k) zero h = absurd (omega arith)
zeros (suc k) (suc n) h = ap (λ (l : List ℕ). 0 ∷ l) (zeros k n (omega arith))

padded : (w : List ℕ) (k n : ℕ) → length w ≤ k → k ≤ n → w ++ drop (length w) (replicate k 0) ≡ take k (w ++ replicate n 0)
padded [] k n h l = zeros k n l
padded (b ∷ w) zero n h l = absurd (omega arith)
padded (b ∷ w) (suc k) n h l = ap (λ (x : List ℕ). b ∷ x) (padded w k n (omega arith) (omega arith))

-- the bytes behind the length
filled : (w : List ℕ) (n : ℕ) → n ≡ min (length w) 15 → take n w ++ drop n (replicate 15 0) ≡ take 15 (w ++ replicate 15 0)
filled w n e = go (leb (length w) 15) refl
  where
    go : (b : Bool) → leb (length w) 15 ≡ b → take n w ++ drop n (replicate 15 0) ≡ take 15 (w ++ replicate 15 0)
    go true q =
        let h : length w ≤ 15 = leb-true (length w) 15 q in
        let m : n ≡ length w = omega arith in
        rw (m, take_all (length w) w (omega arith)) (padded w 15 15 h (omega arith))
    go false q =
        let h : 15 < length w = leb-false (length w) 15 q in
        let m : n ≡ 15 = omega arith in
        rw (m, drop_of_length-le (replicate {A = ℕ} 15 0) {i = 15} (omega (arith, length-replicate {A = ℕ} 15 0))) (append-nil (take 15 w) ∙ sym (take-append-le 15 w (replicate 15 0) (omega arith)))

-- the cell as it is built: its length in an array of zeros, then the name's bytes over the front of the others
pub cell_built : (w : List ℕ) {m n k : ℕ} {ys : List ℕ} → m ≡ min (length w) 16 → n ≡ min (length w) 15 → k ≡ n → ys ≡ take n w → put_mid 1 k (m ∷ replicate 15 0) ys ≡ cell_of w
unfolding cell_of
cell_built w {m} {n} e f g h = ap₂ (λ (k : ℕ) (ys : List ℕ). put_mid 1 k (m ∷ replicate 15 0) ys) g h ∙ ap₂ (λ (x : ℕ) (l : List ℕ). x ∷ l) e (filled w n f)

-- and as it is written
pub cell_written : (w cells : List ℕ) (at k : ℕ) {c : List ℕ} → k ≡ 16 → c ≡ cell_of w → put_mid at k cells c ≡ paste cells at (cell_of w) 16
cell_written w cells at k {c} e f = put_mid-paste at k cells c (cell_of w) 16 f (sym e) (sym (cell_length w))

-- ---- the name in a cell

-- a cell has room for 15 bytes; a longer name is held as none
unfoldable pub held_name : List ℕ → List ℕ
held_name w = cond (leb (length w) 15) w []

pub cell_holds : (w : List ℕ) → cell_name (cell_of w) ≡ held_name w
unfolding cell_name cell_of held_name
cell_holds w = go (leb (length w) 15) refl
  where
    go : (b : Bool) → leb (length w) 15 ≡ b → cond (leb (min (length w) 16) 15) (take (min (length w) 16) (take 15 (w ++ replicate 15 0))) [] ≡ cond b w []
    go true e =
        let h : length w ≤ 15 = leb-true (length w) 15 e in
        let m : min (length w) 16 ≡ length w = omega arith in
        rw (m, e) (take-take (length w) 15 (w ++ replicate 15 0) h ∙ take-append_seam w (replicate 15 0))
    go false e =
        let h : 15 < length w = leb-false (length w) 15 e in
        let m : min (length w) 16 ≡ 16 = omega arith in
        rw m

-- ---- the names in a table

pub cells_length : (es : List (List ℕ)) → length (cells_of es) ≡ length es * 16
unfolding cells_of
cells_length [] = refl
cells_length (e ∷ es) = omega (arith, length-append (cell_of (entry_name e)) (cells_of es), cell_length (entry_name e), cells_length es)

names_from_lem : (es : List (List ℕ)) → names_from (length es) (cells_of es) ≡ map (λ (e : List ℕ). held_name (entry_name e)) es
unfolding cells_of names_from
names_from_lem [] = refl
names_from_lem (e ∷ es) =
    ap₂ (λ (w : List ℕ) (ws : List (List ℕ)). w ∷ ws)
    (ap cell_name (take_at (cell_of (entry_name e)) (cells_of es) 16 (cell_length (entry_name e))) ∙ cell_holds (entry_name e))
    (ap (names_from (length es)) (drop_at (cell_of (entry_name e)) (cells_of es) 16 (cell_length (entry_name e))) ∙ names_from_lem es)

-- a table has the names of its entries
pub table_names : (line : List ℕ) → names_in (table_of line).cells ≡ map (λ (e : List ℕ). held_name (entry_name e)) (entries_of line)
unfolding names_in table_of
table_names line =
    let es = entries_of line in
    let n : length (cells_of es) / 16 ≡ length es = omega (arith, cells_length es) in
    ap (λ (k : ℕ). names_from k (cells_of es)) n ∙ names_from_lem es
