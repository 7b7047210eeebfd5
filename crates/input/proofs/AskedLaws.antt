-- What the input asks, from what its lines and its tables are read as. Assumes nothing.
use Prim.Native.Nat.{ℕ, ◌*◌, ◌≤◌, ◌<◌}
use native.Mathlib.Omega.{arith}
use mathlib.Core.Bool.{Bool, true, false, cond}
use mathlib.Core.List.{List, [], ◌∷◌}
use mathlib.Core.Path.{◌≡◌, refl, sym, ◌∙◌, ap, ap₂}
use lib.ListN.{length, take}
use borrow.Author.Tests.{lt-ltb, le-ltb}
use Rattle.fields.specs.Tables.{Table, table}
use Rattle.std.specs.Prelude.{Option, Some, None}
use Rattle.input.specs.Lines.{lines_of}
use Rattle.input.specs.Input.{entries_of, is_table, table_of, malformed, compare, asked_of, asked_by_lines, asked}
use Rattle.input.specs.Inner.{read_as, TableRead}
use Rattle.input.proofs.LineLaws.{and_false, bytes_in, lines_short}

pub asks_too_long : (input : List ℕ) → 32768 < length input → asked input ≡ malformed
unfolding asked
asks_too_long input h = rw (lt-ltb 32768 (length input) h, asked)

asks_lines : (input : List ℕ) → length input ≤ 32768 → asked input ≡ asked_by_lines (lines_of input)
unfolding asked
asks_lines input h = rw (le-ltb 32768 (length input) h, asked)

pub asks_not_four : (input : List ℕ) → asked_by_lines (lines_of input) ≡ malformed → length input ≤ 32768 → asked input ≡ malformed
asks_not_four input e h = asks_lines input h ∙ e

-- ---- one table

module _ {line : List ℕ} {r : Option ℕ} {cells sizes : List ℕ} (S : TableRead line r cells sizes) where
  bad : (b : Bool) → r ≡ cond b (Some (length (entries_of line))) None → r ≡ None → b ≡ false
  bad true e f = let z : ◌≡◌ {A = ℕ} 0 1 = cc in absurd (omega (arith, z))
  bad false e f = refl

  good : (b : Bool) (n : ℕ) → r ≡ cond b (Some (length (entries_of line))) None → r ≡ Some n → (b ≡ true) × (n ≡ length (entries_of line))
  good true n e f = let z : n ≡ length (entries_of line) = cc in (refl, z)
  good false n e f = let z : ◌≡◌ {A = ℕ} 0 1 = cc in absurd (omega (arith, z))

  not_table : r ≡ None → is_table line ≡ false
  unfolding read_as
  not_table f = bad (is_table line) S.answer f

  module _ (n : ℕ) (f : r ≡ Some n) where
    is_table_lem : (is_table line ≡ true) × (n ≡ length (entries_of line))
    unfolding read_as
    is_table_lem = good (is_table line) n S.answer f

    -- so many entries have been read at most
    pub table_few : n ≤ 10923
    table_few = omega (arith, S.few is_table_lem.0, is_table_lem.1)

    table_is : table_of line ≡ table (take (n * 16) cells) (take n sizes)
    table_is =
        ap₂ table
        (sym (S.names is_table_lem.0) ∙ ap (λ (k : ℕ). take (k * 16) cells) (sym is_table_lem.1))
        (sym (S.values is_table_lem.0) ∙ ap (λ (k : ℕ). take k sizes) (sym is_table_lem.1))

-- ---- both tables and the texts

module _ (input : List ℕ) {line next left right : List ℕ} (four : lines_of input ≡ line ∷ next ∷ left ∷ right ∷ []) (short : length input ≤ 32768) where
  asks_four : asked input ≡ asked_of line next left right
  unfolding asked_by_lines
  asks_four = asks_lines input short ∙ ap asked_by_lines four

  -- the table lines are no longer than the input
  pub left_short : length line ≤ 32768
  left_short = omega (arith, lines_short input, ap bytes_in four)

  pub right_short : length next ≤ 32768
  right_short = omega (arith, lines_short input, ap bytes_in four)

  module _ {r : Option ℕ} {cells sizes : List ℕ} where
    -- the left table line is malformed
    pub asks_no_left : TableRead line r cells sizes → r ≡ None → asked input ≡ malformed
    unfolding asked_of
    asks_no_left S f = asks_four ∙ rw (not_table S f, asked_of)

    -- the right one is
    pub asks_no_right : TableRead next r cells sizes → r ≡ None → asked input ≡ malformed
    unfolding asked_of
    asks_no_right S f = asks_four ∙ rw (not_table S f, and_false (is_table line), asked_of)

  -- both are read
  pub asks_search : {a b : Option ℕ} {leftCells leftSizes rightCells rightSizes : List ℕ}
      → TableRead line a leftCells leftSizes → (m : ℕ) → a ≡ Some m
      → TableRead next b rightCells rightSizes → (n : ℕ) → b ≡ Some n
      → asked input ≡ compare (table (take (m * 16) leftCells) (take m leftSizes)) (table (take (n * 16) rightCells) (take n rightSizes)) left right
  unfolding asked_of
  asks_search A m e B n f =
      asks_four
      ∙ rw ((is_table_lem A m e).0, (is_table_lem B n f).0, asked_of)
      (ap₂ (λ (s t : Table). compare s t left right) (table_is A m e) (table_is B n f))
