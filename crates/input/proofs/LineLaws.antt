-- Lines as the program finds them.
use Prim.Native.Nat.{ℕ, suc, ◌+◌, ◌-◌, ◌≤◌, ◌<◌}
use native.Mathlib.Omega.{arith}
use mathlib.Core.Bool.{Bool, true, false, true≢false, ◌&&◌}
use mathlib.Core.List.{List, [], ◌∷◌}
use mathlib.Core.Path.{◌≡◌, refl, sym, ◌∙◌, ap, ap₂, subst}
use lib.Dec.{eqb, ltb}
use lib.ListN.{length, get_or, take, drop, length-drop, drop_of_length-le}
use lib.Seq.{drop-cons, take_all}
use borrow.Author.Tests.{eq-eqb, ne_eqb, ltb-true, ltb-false}
use Rattle.packet.proofs.Tests.{and_true}
use Rattle.input.specs.Lines.{begins_lf, is_cr, onto, lines_of}
use Rattle.input.specs.Input.{malformed, asked_by_lines}
use Rattle.input.specs.Inner.{part}

pub and_false : (a : Bool) → a && false ≡ false
and_false true = refl
and_false false = refl

pub not_cr : (b : ℕ) (bs : List ℕ) → (b ≡ 13 → ⊥) → false ≡ is_cr b bs
unfolding is_cr
not_cr b bs h = rw (ne_eqb b 13 h)

pub cr_next : (xs : List ℕ) (at b : ℕ) → b ≡ 13 → at + 1 < length xs → eqb (get_or xs (at + 1) 0) 10 ≡ is_cr b (drop (suc at) xs)
unfolding is_cr begins_lf
cr_next xs at b e h =
    let same : at + 1 ≡ suc at = omega arith in
    rw (eq-eqb b 13 e, same, drop-cons xs (suc at) 0 (omega arith))

pub cr_end : (xs : List ℕ) (at b : ℕ) → length xs ≤ at + 1 → false ≡ is_cr b (drop (suc at) xs)
unfolding is_cr begins_lf
cr_end xs at b h = rw (drop_of_length-le xs {i = suc at} (omega arith)) (sym (and_false (eqb b 13)))

-- ---- a line

-- the first line of the bytes, without its end
unfoldable pub first_line : List ℕ → List ℕ
first_line [] = []
first_line (b ∷ bs) =
    elim (eqb b 10) [
      | true ↦ []
      | false ↦ elim (is_cr b bs) [ true ↦ [] | false ↦ b ∷ first_line bs ]
    ]

-- the bytes after the first line and its end
unfoldable pub after_line : List ℕ → List ℕ
after_line [] = []
after_line (b ∷ bs) = elim (eqb b 10) [ true ↦ bs | false ↦ after_line bs ]

-- the line that starts at a byte, and where the next one starts
pub record LineFrom (input : List ℕ) (from end next : ℕ) : Type 0 where
  pub low : from ≤ end
  pub within : end ≤ length input
  pub bounded : next ≤ length input
  pub line : first_line (drop from input) ≡ part input from end
  pub rest : after_line (drop from input) ≡ drop next input

pub part_none : (xs : List ℕ) (at : ℕ) → part xs at at ≡ []
part_none xs at = let e : at - at ≡ 0 = omega arith in rw e

pub part_more : (xs : List ℕ) (at end : ℕ) → at < end → at < length xs → part xs at end ≡ get_or xs at 0 ∷ part xs (suc at) end
part_more xs at end h k =
    let e : end - at ≡ suc (end - suc at) = omega arith in
    ap₂ take e (drop-cons xs at 0 k)

module _ (input : List ℕ) (at : ℕ) (h : at < length input) where
  front : drop at input ≡ get_or input at 0 ∷ drop (suc at) input
  front = drop-cons input at 0 h

  -- LF ends the line
  pub line_lf : get_or input at 0 ≡ 10 → LineFrom input at at (at + 1)
  unfolding first_line after_line
  line_lf e =
      let s : at + 1 ≡ suc at = omega arith in
      record {
        low = omega arith;
        within = omega arith;
        bounded = omega arith;
        line = ap first_line front ∙ rw (eq-eqb _ 10 e, first_line) (sym (part_none input at));
        rest = ap after_line front ∙ rw (eq-eqb _ 10 e, after_line) (ap (λ (k : ℕ). drop k input) (sym s));
      }

  -- so does a CR before an LF
  pub line_crlf : (get_or input at 0 ≡ 10 → ⊥) → is_cr (get_or input at 0) (drop (suc at) input) ≡ true → LineFrom input at at (at + 2)
  unfolding first_line after_line begins_lf is_cr
  line_crlf n e = go (ltb (suc at) (length input)) refl
    where
      lf : begins_lf (drop (suc at) input) ≡ true
      lf = (and_true (eqb (get_or input at 0) 13) (begins_lf (drop (suc at) input)) e).1

      go : (b : Bool) → ltb (suc at) (length input) ≡ b → LineFrom input at at (at + 2)
      go true q =
          let long : suc at < length input = ltb-true (suc at) (length input) q in
          let s : at + 2 ≡ suc (suc at) = omega arith in
          let second : drop (suc at) input ≡ get_or input (suc at) 0 ∷ drop (suc (suc at)) input = drop-cons input (suc at) 0 long in
          let ten : eqb (get_or input (suc at) 0) 10 ≡ true = sym (ap begins_lf second) ∙ lf in
          record {
            low = omega arith;
            within = omega arith;
            bounded = omega arith;
            line = ap first_line front ∙ rw (ne_eqb _ 10 n, first_line) (rw (e, first_line) (sym (part_none input at)));
            rest = ap after_line front ∙ rw (ne_eqb _ 10 n, after_line) (ap after_line second ∙ rw (ten, after_line) (ap (λ (k : ℕ). drop k input) (sym s)));
          }
      go false q = absurd (true≢false (sym lf ∙ ap begins_lf (drop_of_length-le input {i = suc at} (ltb-false (suc at) (length input) q))))

  -- any other byte belongs to the line
  pub line_more : (end next : ℕ) → (get_or input at 0 ≡ 10 → ⊥) → is_cr (get_or input at 0) (drop (suc at) input) ≡ false → LineFrom input (at + 1) end next → LineFrom input at end next
  unfolding first_line after_line
  line_more end next n e l =
      let s : at + 1 ≡ suc at = omega arith in
      record {
        low = let k : at + 1 ≤ end = l.low in omega arith;
        within = l.within;
        bounded = l.bounded;
        line =
            ap first_line front
            ∙ rw (ne_eqb _ 10 n, first_line) (rw (e, first_line) (ap (λ (w : List ℕ). get_or input at 0 ∷ w) (subst (λ (k : ℕ). first_line (drop k input) ≡ part input k end) s l.line)))
            ∙ sym (part_more input at end (let k : at + 1 ≤ end = l.low in omega arith) h);
        rest = ap after_line front ∙ rw (ne_eqb _ 10 n, after_line) (subst (λ (k : ℕ). after_line (drop k input) ≡ drop next input) s l.rest);
      }

pub line_end : (input : List ℕ) (at : ℕ) → at ≤ length input → length input ≤ at → LineFrom input at at at
unfolding first_line after_line
line_end input at h e =
    let none : drop at input ≡ [] = drop_of_length-le input {i = at} e in
    record {
      low = omega arith;
      within = omega arith;
      bounded = omega arith;
      line = ap first_line none ∙ sym (part_none input at);
      rest = ap after_line none ∙ sym none;
    }

-- whatever the line is that starts at a byte further on, it is the rest of this one
pub record Passed (input : List ℕ) (from at : ℕ) : Type 0 where
  pub low : from ≤ at
  pub within : at ≤ length input
  pub line : (end next : ℕ) → LineFrom input at end next → LineFrom input from end next

pub passed_none : (input : List ℕ) (from : ℕ) → from ≤ length input → Passed input from from
passed_none input from h = record { low = omega arith; within = h; line = λ end next l. l }

pub passed_more : (input : List ℕ) (from at : ℕ) → Passed input from at → (h : at < length input) → (get_or input at 0 ≡ 10 → ⊥) → is_cr (get_or input at 0) (drop (suc at) input) ≡ false → Passed input from (at + 1)
passed_more input from at p h n e =
    let l : from ≤ at = p.low in
    record { low = omega arith; within = omega arith; line = λ end next q. p.line end next (line_more input at h end next n e q) }

-- ---- the lines

-- the byte after a CR that belongs to a line end is LF
cr_then : (b c : ℕ) (cs : List ℕ) → is_cr b (c ∷ cs) ≡ true → eqb c 10 ≡ true
unfolding is_cr begins_lf
cr_then b c cs e = (and_true (eqb b 13) (eqb c 10) e).1

cr_last : (b : ℕ) → is_cr b [] ≡ false
unfolding is_cr begins_lf
cr_last b = and_false (eqb b 13)

-- the first line and the lines after it
lines_first : (b : ℕ) (bs : List ℕ) → lines_of (b ∷ bs) ≡ first_line (b ∷ bs) ∷ lines_of (after_line (b ∷ bs))
unfolding lines_of first_line after_line onto
lines_first b [] = go (eqb b 10) refl
  where
    go : (x : Bool) → eqb b 10 ≡ x → lines_of (b ∷ []) ≡ first_line (b ∷ []) ∷ lines_of (after_line (b ∷ []))
    go true p = rw (p, lines_of, first_line, after_line)
    go false p = rw (p, cr_last b, lines_of, first_line, after_line)
lines_first b (c ∷ cs) = go (eqb b 10) refl (is_cr b (c ∷ cs)) refl (lines_first c cs)
  where
    go : (x : Bool) → eqb b 10 ≡ x → (y : Bool) → is_cr b (c ∷ cs) ≡ y → lines_of (c ∷ cs) ≡ first_line (c ∷ cs) ∷ lines_of (after_line (c ∷ cs)) → lines_of (b ∷ c ∷ cs) ≡ first_line (b ∷ c ∷ cs) ∷ lines_of (after_line (b ∷ c ∷ cs))
    go true p y q e = rw (p, lines_of, first_line, after_line)
    go false p true q e = rw (p, q, cr_then b c cs q, lines_of, first_line, after_line)
    go false p false q e = rw (p, q, lines_of, first_line, after_line) (ap (onto b) e)

-- the first line of some bytes, and the lines behind its end
pub lines_at : (input : List ℕ) {end next : ℕ} → 0 < length input → LineFrom input 0 end next → lines_of input ≡ take end input ∷ lines_of (take (length input - next) (drop next input))
lines_at [] h l = absurd (omega arith)
lines_at (b ∷ bs) {end} {next} h l =
    let front : end - 0 ≡ end = omega arith in
    lines_first b bs
    ∙ ap₂ (λ (x y : List ℕ). x ∷ lines_of y) l.line (l.rest ∙ sym (take_all (length (b ∷ bs) - next) (drop next (b ∷ bs)) (omega (arith, length-drop next (b ∷ bs)))))
    ∙ ap (λ (n : ℕ). take n (b ∷ bs) ∷ lines_of (take (length (b ∷ bs) - next) (drop next (b ∷ bs)))) front

-- a last line that nothing ends
pub lines_end : (input : List ℕ) {end : ℕ} → 0 < length input → length input ≤ end → LineFrom input 0 end end → lines_of input ≡ input ∷ lines_of []
lines_end input {end} h e l =
    let none : length input - end ≡ 0 = omega arith in
    lines_at input h l
    ∙ ap₂ (λ (x : List ℕ) (n : ℕ). x ∷ lines_of (take n (drop end input))) (take_all end input e) none

pub lines_none : (input : List ℕ) → length input ≡ 0 → lines_of input ≡ []
unfolding lines_of
lines_none [] h = refl
lines_none (b ∷ bs) h = absurd (omega arith)

-- four lines and further bytes are not four
pub five_lines : (a b c d rest : List ℕ) → 0 < length rest → asked_by_lines (a ∷ b ∷ c ∷ d ∷ lines_of rest) ≡ malformed
unfolding asked_by_lines
five_lines a b c d [] h = absurd (omega arith)
five_lines a b c d (x ∷ xs) h = rw (lines_first x xs, asked_by_lines)

-- how many bytes the lines have
abbrev pub bytes_in : List (List ℕ) → ℕ
bytes_in [] = 0
bytes_in (l ∷ ls) = length l + bytes_in ls

onto_more : (b : ℕ) (ls : List (List ℕ)) → bytes_in (onto b ls) ≡ suc (bytes_in ls)
unfolding onto
onto_more b [] = refl
onto_more b (l ∷ ls) = omega arith

-- no more than the input has
pub lines_short : (input : List ℕ) → bytes_in (lines_of input) ≤ length input
unfolding lines_of
lines_short [] = omega arith
lines_short (b ∷ bs) = go (eqb b 10) refl (is_cr b bs) refl (lines_short bs)
  where
    go : (x : Bool) → eqb b 10 ≡ x → (y : Bool) → is_cr b bs ≡ y → bytes_in (lines_of bs) ≤ length bs → bytes_in (lines_of (b ∷ bs)) ≤ suc (length bs)
    go true p y q h = rw (p, lines_of) (omega arith)
    go false p true q h = rw (p, q, lines_of) (omega arith)
    go false p false q h = rw (p, q, lines_of) (omega (arith, onto_more b (lines_of bs)))
