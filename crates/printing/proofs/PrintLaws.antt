-- Bytes written one after the other, and numbers in decimal.
use Prim.Native.Nat.{ℕ, zero, suc, ◌+◌, ◌-◌, ◌*◌, ◌/◌, ◌%◌, ◌^◌, ◌≤◌, ◌<◌}
use native.Mathlib.Nat.{one-le-pow, pow-zero, pow-suc}
use native.Mathlib.Numerals.{add-one}
use native.Mathlib.Omega.{arith}
use mir.Val.{bool_byte}
use mathlib.Core.Bool.{Bool, true, false}
use mathlib.Core.List.{List, [], ◌∷◌, ◌++◌, append_assoc, append-nil}
use mathlib.Core.Path.{◌≡◌, refl, sym, ◌∙◌, ap, ap₂, subst}
use lib.Dec.{eqb, ltb}
use lib.ListN.{length, get_or, take, drop, length-append, take-append-drop, drop_of_length-le}
use lib.Seq.{drop-cons, drop-drop, drop_at, take_at, length-take-le}
use borrow.Author.Tests.{lt-ltb, le-ltb, eqb-true, eqb-false}
use Rattle.io.specs.Digits.{last_digits, hex_digit_ascii, IsDigitCount}
use Rattle.printing.specs.ThreeFields.{digits_up_to, numeral, line_rest, number_line, row_lines, last_flag, trace_lines}
use Rattle.printing.specs.InnerWrote.{Wrote}

-- ---- places

pub wrote_none : (old : List ℕ) (at : ℕ) → Wrote old old at at []
wrote_none old at = record { ends = omega arith; holds = sym (ap (λ (l : List ℕ). l ++ drop at old) (append-nil (take at old)) ∙ take-append-drop at old) }

module _ {old new : List ℕ} {at end : ℕ} {xs : List ℕ} (w : Wrote old new at end xs) (h : end ≤ length old) where
  head : length (take at old ++ xs) ≡ end
  head =
      let e : end ≡ at + length xs = w.ends in
      length-append (take at old) xs ∙ ap (λ (n : ℕ). n + length xs) (length-take-le at old (omega arith)) ∙ sym e

  before : take end new ≡ take at old ++ xs
  before = ap (take end) w.holds ∙ take_at (take at old ++ xs) (drop end old) end head

  after : (n : ℕ) → drop (end + n) new ≡ drop (end + n) old
  after n =
      sym (drop-drop n end new)
      ∙ ap (drop n) (ap (drop end) w.holds ∙ drop_at (take at old ++ xs) (drop end old) end head)
      ∙ drop-drop n end old

  -- what is written next stands behind it
  pub wrote_then : {next : List ℕ} {last : ℕ} {ys : List ℕ} → Wrote new next end last ys → Wrote old next at last (xs ++ ys)
  wrote_then {next} {last} {ys} v =
      record {
        ends = v.ends ∙ ap (λ (n : ℕ). n + length ys) w.ends ∙ omega (arith, length-append xs ys);
        holds =
            v.holds
            ∙ ap₂ (λ (a b : List ℕ). a ++ ys ++ b) before (ap (λ (n : ℕ). drop n new) v.ends ∙ after (length ys) ∙ ap (λ (n : ℕ). drop n old) (sym v.ends))
            ∙ ap (λ (l : List ℕ). l ++ drop last old) (append_assoc (take at old) xs ys);
      }

-- ---- numbers

digit_glyph : (d : ℕ) → d < 10 → hex_digit_ascii d ≡ 48 + d
digit_glyph d h = rw (lt-ltb d 10 h)

-- k + 1 digits, none of them a leading zero, are the number's digits
digits_are : (k fuel n : ℕ) → n < fuel → n < 10 ^ suc k → (0 < k → 10 ^ k ≤ n) → last_digits 10 (suc k) n ≡ digits_up_to fuel n
unfolding digits_up_to
digits_are k zero n f h l = absurd (omega arith)
digits_are zero (suc fuel) n f h l =
    let s : n < 10 = omega (arith, pow-suc 10 0, pow-zero 10) in
    let m : n % 10 ≡ n = omega arith in
    rw (lt-ltb n 10 s, digits_up_to) (ap (λ (d : ℕ). d ∷ []) (ap hex_digit_ascii m ∙ digit_glyph n s))
digits_are (suc k) (suc fuel) n f h l =
    let low : 10 ^ suc k ≤ n = l (omega arith) in
    let pow : 10 ^ suc k ≡ 10 ^ k * 10 = pow-suc 10 k in
    let pow' : 10 ^ suc (suc k) ≡ 10 ^ suc k * 10 = pow-suc 10 (suc k) in
    let one : 0 < 10 ^ k = one-le-pow k 10 (omega arith) in
    let big : 10 ≤ n = omega arith in
    rw (le-ltb n 10 big, digits_up_to)
    (ap₂ (λ (a : List ℕ) (d : ℕ). a ++ (d ∷ [])) (digits_are k fuel (n / 10) (omega arith) (omega arith) (λ _. omega arith)) (digit_glyph (n % 10) (omega arith)))

pub numeral_is : (k n : ℕ) → IsDigitCount 10 1 n k → last_digits 10 k n ≡ numeral n
unfolding numeral
numeral_is zero n f = absurd (omega (arith, f.0))
numeral_is (suc k) n f = digits_are k (suc n) n (omega arith) f.1 (λ h. subst (λ (j : ℕ). 10 ^ j ≤ n) (let e : suc k - 1 ≡ k = omega arith in e) (f.2 (omega arith)))

-- a number below a power of ten has no more digits than the power
digits_few : (k fuel n : ℕ) → n < 10 ^ suc k → length (digits_up_to fuel n) ≤ suc k
unfolding digits_up_to
digits_few k zero n h = omega arith
digits_few zero (suc fuel) n h = rw (lt-ltb n 10 (omega (arith, pow-suc 10 0, pow-zero 10)), digits_up_to) (omega arith)
digits_few (suc k) (suc fuel) n h = go (ltb n 10) refl (digits_few k fuel (n / 10) (omega (arith, pow-suc 10 (suc k))))
  where
    go : (b : Bool) → ltb n 10 ≡ b → length (digits_up_to fuel (n / 10)) ≤ suc k → length (digits_up_to (suc fuel) n) ≤ suc (suc k)
    go true e l = rw (e, digits_up_to) (omega arith)
    go false e l = rw (e, digits_up_to) (omega (arith, length-append (digits_up_to fuel (n / 10)) ((48 + n % 10) ∷ [])))

pub numeral_few : (k n : ℕ) → n < 10 ^ suc k → length (numeral n) ≤ suc k
unfolding numeral
numeral_few k n h = digits_few k (suc n) n h

-- the digits that stand in text are the numeral
module _ (text : List ℕ) {k n : ℕ} (f : IsDigitCount 10 1 n k) (e : take k text ≡ last_digits 10 k n) where
  pub wrote_numeral : {old new : List ℕ} {at end : ℕ} → Wrote old new at end (take k text) → Wrote old new at end (numeral n)
  wrote_numeral {old} {new} {at} {end} w = subst (λ (l : List ℕ). Wrote old new at end l) (e ∙ numeral_is k n f) w

  -- a number of 64 bits has at most 20 digits
  pub numeral_short : n < 2 ^ 64 → length (take k text) ≤ 20
  numeral_short h = subst (λ (l : List ℕ). length l ≤ 20) (sym (e ∙ numeral_is k n f)) (numeral_few 19 n (omega arith))

-- ---- a line

-- the pieces of a line's rest, one after the other
pub rest_wrote : {o₀ o₁ o₂ o₃ o₄ o₅ o₆ : List ℕ} {at e₁ e₂ e₃ e₄ e₅ e₆ : ℕ} (b c : ℕ) → at + 44 ≤ length o₀ → Wrote o₀ o₁ at e₁ (44 ∷ []) → Wrote o₁ o₂ e₁ e₂ (numeral b) → e₂ ≤ e₁ + 20 → Wrote o₂ o₃ e₂ e₃ (44 ∷ [])
    → Wrote o₃ o₄ e₃ e₄ (numeral c) → e₄ ≤ e₃ + 20 → Wrote o₄ o₅ e₄ e₅ (13 ∷ []) → Wrote o₅ o₆ e₅ e₆ (10 ∷ []) → Wrote o₀ o₆ at e₆ (line_rest b c)
unfolding line_rest
rest_wrote {o₀ = o₀} {o₆ = o₆} {at} {e₁} {e₂} {e₃} {e₄} {e₅} {e₆} b c room w₁ w₂ s₂ w₃ w₄ s₄ w₅ w₆ =
    let q₁ : e₁ ≡ at + 1 = w₁.ends in
    let q₃ : e₃ ≡ e₂ + 1 = w₃.ends in
    let q₅ : e₅ ≡ e₄ + 1 = w₅.ends in
    subst (λ (l : List ℕ). Wrote o₀ o₆ at e₆ l)
    (append_assoc ((44 ∷ numeral b) ++ (44 ∷ []) ++ numeral c) (13 ∷ []) (10 ∷ [])
    ∙ ap (λ (l : List ℕ). l ++ (13 ∷ 10 ∷ [])) (append_assoc (44 ∷ numeral b) (44 ∷ []) (numeral c)))
    (wrote_then (wrote_then (wrote_then (wrote_then (wrote_then w₁ (omega arith) w₂) (omega arith) w₃) (omega arith) w₄) (omega arith) w₅) (omega arith) w₆)

-- ---- lines of the rows

-- the lines of the first i rows have been written
pub record RowsSoFar (packets lefts rights old new : List ℕ) (from at i : ℕ) : Type 0 where
  pub within : i ≤ length packets
  pub long : length new ≡ length old
  pub low : at ≤ from + 64 * i
  pub done : List ℕ
  pub wrote : Wrote old new from at done
  pub all : done ++ row_lines (drop i packets) (drop i lefts) (drop i rights) ≡ row_lines packets lefts rights

pub rows_none : (packets lefts rights old : List ℕ) (from : ℕ) → RowsSoFar packets lefts rights old old from from 0
rows_none packets lefts rights old from =
    record { within = omega arith; long = refl; low = omega arith; done = []; wrote = wrote_none old from; all = refl }

module _ {packets lefts rights old new : List ℕ} {from at i : ℕ} (s : RowsSoFar packets lefts rights old new from at i) (h : i < length packets) (l : length lefts ≡ length packets) (r : length rights ≡ length packets) where
  pub rows_more : {next : List ℕ} {end a b c : ℕ} → a ≡ get_or packets i 0 → b ≡ get_or lefts i 0 → c ≡ get_or rights i 0 → end ≤ at + 64
      → from + 64 * length packets ≤ length old → Wrote new next at end (number_line a b c) → length next ≡ length new → RowsSoFar packets lefts rights old next from end (i + 1)
  unfolding row_lines
  rows_more {next} {end} {a} {b} {c} ea eb ec short room w q =
      let f : at ≤ from + 64 * i = s.low in
      let g : end ≡ at + length (number_line a b c) = w.ends in
      let i' : i + 1 ≡ suc i = add-one i in
      record {
        within = omega arith;
        long = q ∙ s.long;
        low = omega arith;
        done = s.done ++ number_line a b c;
        wrote = wrote_then s.wrote (omega arith) w;
        all =
            append_assoc s.done (number_line a b c) _
            ∙ ap (λ (k : ℕ). s.done ++ (number_line a b c ++ row_lines (drop k packets) (drop k lefts) (drop k rights))) i'
            ∙ ap (λ (xs : List ℕ). s.done ++ xs) (sym front)
            ∙ s.all;
      }
    where
      front : row_lines (drop i packets) (drop i lefts) (drop i rights) ≡ number_line a b c ++ row_lines (drop (suc i) packets) (drop (suc i) lefts) (drop (suc i) rights)
      front =
          ap (λ (x : List ℕ). row_lines x (drop i lefts) (drop i rights)) (drop-cons packets i 0 h)
          ∙ ap₂ (λ (y z : List ℕ). row_lines (get_or packets i 0 ∷ drop (suc i) packets) y z) (drop-cons lefts i 0 (omega arith)) (drop-cons rights i 0 (omega arith))
          ∙ ap (λ (n : ℕ). number_line n (get_or lefts i 0) (get_or rights i 0) ++ row_lines (drop (suc i) packets) (drop (suc i) lefts) (drop (suc i) rights)) (sym ea)
          ∙ ap₂ (λ (m n : ℕ). number_line a m n ++ row_lines (drop (suc i) packets) (drop (suc i) lefts) (drop (suc i) rights)) (sym eb) (sym ec)

pub rows_all : {packets lefts rights old new : List ℕ} {from at i : ℕ} → RowsSoFar packets lefts rights old new from at i → length packets ≤ i → Wrote old new from at (row_lines packets lefts rights)
unfolding row_lines
rows_all {packets} {lefts} {rights} {old} {new} {from} {at} {i} s h =
    subst (λ (l : List ℕ). Wrote old new from at l)
    (sym (append-nil s.done) ∙ sym (ap (λ (x : List ℕ). s.done ++ row_lines x (drop i lefts) (drop i rights)) (drop_of_length-le packets h)) ∙ s.all)
    s.wrote

-- ---- lines of a trace

pub record TraceSoFar (packets old new : List ℕ) (from at i : ℕ) : Type 0 where
  pub within : i ≤ length packets
  pub long : length new ≡ length old
  pub low : at ≤ from + 64 * i
  pub done : List ℕ
  pub wrote : Wrote old new from at done
  pub all : done ++ trace_lines i (drop i packets) ≡ trace_lines 0 packets

pub trace_none : (packets old : List ℕ) (from : ℕ) → TraceSoFar packets old old from from 0
trace_none packets old from = record { within = omega arith; long = refl; low = omega arith; done = []; wrote = wrote_none old from; all = refl }

flag_is : (packets : List ℕ) (i : ℕ) → i < length packets → last_flag (drop (suc i) packets) ≡ bool_byte (eqb (i + 1) (length packets))
unfolding last_flag
flag_is packets i h = go (eqb (i + 1) (length packets)) refl
  where
    go : (b : Bool) → eqb (i + 1) (length packets) ≡ b → last_flag (drop (suc i) packets) ≡ bool_byte b
    go true e = let q : i + 1 ≡ length packets = eqb-true _ _ e in ap last_flag (drop_of_length-le packets {i = suc i} (omega arith))
    go false e = let q : i + 1 ≡ length packets → ⊥ = eqb-false _ _ e in ap last_flag (drop-cons packets (suc i) 0 (omega (arith, q)))

module _ {packets old new : List ℕ} {from at i : ℕ} (s : TraceSoFar packets old new from at i) (h : i < length packets) where
  pub trace_more : {next : List ℕ} {end p flag : ℕ} → p ≡ get_or packets i 0 → end ≤ at + 64 → flag ≡ bool_byte (eqb (i + 1) (length packets))
      → from + 64 * length packets ≤ length old → Wrote new next at end (number_line (i + 1) p flag) → length next ≡ length new → TraceSoFar packets old next from end (i + 1)
  unfolding trace_lines
  trace_more {next} {end} {p} {flag} e short ef room w q =
      let f : at ≤ from + 64 * i = s.low in
      let g : end ≡ at + length (number_line (i + 1) p flag) = w.ends in
      record {
        within = omega arith;
        long = q ∙ s.long;
        low = omega arith;
        done = s.done ++ number_line (i + 1) p flag;
        wrote = wrote_then s.wrote (omega arith) w;
        all =
            append_assoc s.done (number_line (i + 1) p flag) _
            ∙ ap (λ (xs : List ℕ). s.done ++ xs) (sym front)
            ∙ s.all;
      }
    where
      front : trace_lines i (drop i packets) ≡ number_line (i + 1) p flag ++ trace_lines (i + 1) (drop (i + 1) packets)
      front =
          ap (trace_lines i) (drop-cons packets i 0 h)
          ∙ ap₂ (λ (m n : ℕ). number_line (suc i) m n ++ trace_lines (suc i) (drop (suc i) packets)) (sym e) (flag_is packets i h ∙ sym ef)
          ∙ ap (λ (k : ℕ). number_line k p flag ++ trace_lines k (drop k packets)) (sym (add-one i))

pub trace_all : {packets old new : List ℕ} {from at i : ℕ} → TraceSoFar packets old new from at i → length packets ≤ i → Wrote old new from at (trace_lines 0 packets)
unfolding trace_lines
trace_all {packets} {old} {new} {from} {at} {i} s h =
    subst (λ (l : List ℕ). Wrote old new from at l)
    (sym (append-nil s.done) ∙ sym (ap (λ (x : List ℕ). s.done ++ trace_lines i x) (drop_of_length-le packets h)) ∙ s.all)
    s.wrote

-- ---- the front of a list

pub front_length : (xs : List ℕ) (n : ℕ) → n ≤ length xs → n ≡ length (take n xs)
front_length xs n h = sym (length-take-le n xs h)
