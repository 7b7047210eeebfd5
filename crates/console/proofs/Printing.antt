-- What a search on two texts leaves is what the program prints. Assumes nothing.
use Prim.Native.Nat.{ℕ, ◌≤◌}
use mathlib.Core.List.{List, ◌++◌}
use mathlib.Core.Path.{◌≡◌, refl, sym, ap, ap₂, ◌∙◌, subst}
use native.Mathlib.Omega.{arith}
use lib.ListN.{length, get_or, take, drop, length-append, length-drop, length-map, length-take, length-replicate}
use Rattle.packet.specs.declared.Refusal.{Refusal}
use Rattle.packet.specs.Refusals.{Tested}
use Rattle.std.specs.Prelude.{Ok, Err}
use Rattle.packet.specs.Refusals.{refusal}
use Rattle.fields.specs.Tables.{Table}
use Rattle.policy.specs.InnerEach.{Each}
use Rattle.policy.specs.Legality.{Legal}
use Rattle.policy.specs.NodeLists.{NodeLists}
use Rattle.policy.proofs.OrderLaws.{passing, policies_legal}
use Rattle.system.specs.RowOrder.{held}
use Rattle.pair.specs.Sides.{Side, left, right, Pair, NumberedPolicy, policies}
use Rattle.pair.specs.Pair.{pair_system}
use Rattle.pair.specs.Search.{SearchAnswer, Columns, equal, different, rows_full, trace_short, columns_of, held_columns}
use Rattle.pair.proofs.Lawful.{legal_pair}
use Rattle.pair.proofs.Verdicts as verdicts
use Rattle.pair.proofs.Verdicts.{equal_same, searched, is_telling}
use Rattle.packet.specs.Written.{written}
use Rattle.packet.proofs.Written.{length_written, take_written}
use Rattle.verdict.specs.declared.Verdict.{Verdict}
use Rattle.verdict.specs.declared.Verdict.TheVariants.{Equal}
use Rattle.verdict.specs.Verdicts.{telling_verdict, verdict_of, trace_after}
use Rattle.index.specs.declared.RowLists.{RowLists}
use Rattle.search.specs.Call.{SearchLists, lent, lent_in, filled, verdict_after, lent_after, answer_here, rows_here}
use Rattle.grammar.specs.Answer.{text_names}
use Rattle.search_texts.specs.Call.{texts_core, TextsTell, text_nodes, texts_tests, texts_answer, texts_rows, texts_verdict, texts_leaves, TextsSearched}
use Rattle.printing.specs.ThreeFields.{verdict_line, row_lines, trace_lines}
use Rattle.printing.specs.InnerWrote.{Wrote}
use Rattle.input.specs.Input.{malformed, compare, asked}
use Rattle.printed_verdict.specs.Inner.{verdict_lines, Fits}
use Rattle.console.specs.Answer.{program_lent, output_of, program_output, TellingPrinted, Printed, Answered}
use Rattle.printed_verdict.specs.Output.{word_equal, word_left, word_right, word_refused, refusal_line, telling_lines, word_of_side, answer_lines, output_after}

take_few : {A : Type 0} (n : ℕ) (l : List A) → length (take n l) ≤ n
take_few n l = omega (arith, length-take n l)

module _ (core : List ℕ) (L R : NodeLists) (x : SearchLists) where
  -- an equal answer counts the rows held
  rows_held : Legal core L × Legal core R → (n : ℕ) → answer_here core L R x ≡ equal n
      → length (held (pair_system core (policies L R)) (length x.packets)) ≡ n
  rows_held l n a =
      (equal_same core (policies L R) (legal_pair core L R l.0 l.1) (length x.packets) (length x.trace) n a).0

  -- a telling trace fits the list lent
  trace_fits : (s : Side) (α : ℕ) (t : List ℕ) → answer_here core L R x ≡ different s α t → length t ≤ length x.trace
  trace_fits s α t a = go (subst (verdicts.Searched core ps (length x.packets) (length x.trace)) a (searched core ps (length x.packets) (length x.trace)))
    where
      ps : Pair NumberedPolicy
      ps = policies L R

      go : verdicts.Searched core ps (length x.packets) (length x.trace) (different s α t) → length t ≤ length x.trace
      go (is_telling i b h q) = h

  module _ (legal : Legal core L × Legal core R) where
    -- what is printed of the lists that the search leaves is what the answer says
    lines_passed : (a : SearchAnswer) → answer_here core L R x ≡ a
        → verdict_lines (verdict_of a) (filled (rows_here core L R x) a x).packets (filled (rows_here core L R x) a x).lefts (filled (rows_here core L R x) a x).rights (filled (rows_here core L R x) a x).trace
        ≡ answer_lines (rows_here core L R x) a
    unfolding verdict_lines verdict_of filled answer_lines trace_after telling_lines word_of_side held_columns columns_of
    lines_passed (equal n) e =
        let rows = rows_here core L R x in
        let many = rows_held legal n e in
        let es = held (pair_system core (policies L R)) (length x.packets) in
        let packets : take n (written rows.packets x.packets) ≡ rows.packets = ap (λ k. take k (written rows.packets x.packets)) (sym (length-map es (λ e. e.row.packet) ∙ many)) ∙ take_written rows.packets x.packets in
        let lefts : take n (written rows.lefts x.lefts) ≡ rows.lefts = ap (λ k. take k (written rows.lefts x.lefts)) (sym (length-map es (λ e. e.row.state.left) ∙ many)) ∙ take_written rows.lefts x.lefts in
        let rights : take n (written rows.rights x.rights) ≡ rows.rights = ap (λ k. take k (written rows.rights x.rights)) (sym (length-map es (λ e. e.row.state.right) ∙ many)) ∙ take_written rows.rights x.rights in
        ap (λ ls. verdict_line word_equal n 0 ++ ls)
        (ap (λ ps. row_lines ps (take n (written rows.lefts x.lefts)) (take n (written rows.rights x.rights))) packets ∙ ap₂ (row_lines rows.packets) lefts rights)
    lines_passed (different left α t) e = ap (λ w. verdict_line (word_of_side left) (length t) α ++ trace_lines 0 w) (take_written t x.trace)
    lines_passed (different right α t) e = ap (λ w. verdict_line (word_of_side right) (length t) α ++ trace_lines 0 w) (take_written t x.trace)
    lines_passed (rows_full n d) e = refl
    lines_passed (trace_short n) e = refl

    module _ (rows-lent : length x.packets ≡ 4096) (lefts-lent : length x.lefts ≡ 4096) (rights-lent : length x.rights ≡ 4096) (trace-lent : length x.trace ≡ 4096) where
      fits_passed : (a : SearchAnswer) → answer_here core L R x ≡ a
          → Fits (verdict_of a) (filled (rows_here core L R x) a x).packets (filled (rows_here core L R x) a x).lefts (filled (rows_here core L R x) a x).rights (filled (rows_here core L R x) a x).trace
      unfolding Fits verdict_of filled trace_after held_columns columns_of held
      fits_passed (equal n) e =
          let rows = rows_here core L R x in
          let many = rows_held legal n e in
          let es = held (pair_system core (policies L R)) (length x.packets) in
          let few : length es ≤ 4096 = subst (λ k. length es ≤ k) rows-lent (take_few (length x.packets) _) in
          let p = length-map es (λ e. e.row.packet) in
          let l = length-map es (λ e. e.row.state.left) in
          let r = length-map es (λ e. e.row.state.right) in (
            omega (arith, many, few),
            omega (arith, many, few, length_written rows.packets x.packets (omega (arith, p, few, rows-lent)), rows-lent),
            omega (arith, many, few, length_written rows.lefts x.lefts (omega (arith, l, few, lefts-lent)), lefts-lent),
            omega (arith, many, few, length_written rows.rights x.rights (omega (arith, r, few, rights-lent)), rights-lent),
          )
      fits_passed (different left α t) e = let h = trace_fits left α t e in (omega (arith, h, trace-lent), omega (arith, h, length_written t x.trace h))
      fits_passed (different right α t) e = let h = trace_fits right α t e in (omega (arith, h, trace-lent), omega (arith, h, length_written t x.trace h))
      fits_passed (rows_full n d) e = tt
      fits_passed (trace_short n) e = tt

module _ (left_table right_table : Table) (left-text right-text : List ℕ) (x : SearchLists) where
  abbrev L : NodeLists
  L = text_nodes (text_names left_table right_table 1) left-text

  abbrev R : NodeLists
  R = text_nodes (text_names left_table right_table 2) right-text

  abbrev core : List ℕ
  core = texts_core left_table right_table left-text right-text

  legal : texts_tests left_table right_table left-text right-text x ≡ Ok tt → Legal core L × Legal core R
  unfolding texts_tests Each
  legal e = let g = policies_legal _ _ _ _ _ (passing _ _ _ _ _ e) in (g.0, g.1.0)

  module _ {v : Verdict} {y : SearchLists} (D : TextsSearched left_table right_table left-text right-text x v y) where
    -- the lines printed of what the search leaves are the program's output
    pub lines_are : verdict_lines v y.packets y.lefts y.rights y.trace ≡ output_after (texts_tests left_table right_table left-text right-text x) (texts_rows left_table right_table left-text right-text x) (texts_answer left_table right_table left-text right-text x)
    unfolding texts_verdict texts_leaves verdict_after lent_after output_after verdict_lines
    lines_are = go (texts_tests left_table right_table left-text right-text x) refl
      where
        rows : Columns
        rows = texts_rows left_table right_table left-text right-text x

        a : SearchAnswer
        a = texts_answer left_table right_table left-text right-text x

        shown : Verdict → SearchLists → List ℕ
        shown w z = verdict_lines w z.packets z.lefts z.rights z.trace

        go : (t : Tested) → texts_tests left_table right_table left-text right-text x ≡ t → shown v y ≡ output_after t rows a
        go (Ok tt) e =
            ap₂ shown (D.answers ∙ ap (λ (t : Tested). verdict_after t a) e) (D.leaves ∙ ap (λ (t : Tested). lent_after t rows a x) e) ∙ lines_passed core L R x (legal e) a refl
        go (Err r) e = ap₂ shown (D.answers ∙ ap (λ (t : Tested). verdict_after t a) e) (D.leaves ∙ ap (λ (t : Tested). lent_after t rows a x) e)

    pub lines_fit : length x.packets ≡ 4096 → length x.lefts ≡ 4096 → length x.rights ≡ 4096 → length x.trace ≡ 4096 → Fits v y.packets y.lefts y.rights y.trace
    unfolding texts_verdict texts_leaves verdict_after lent_after Fits
    lines_fit p l r t = go (texts_tests left_table right_table left-text right-text x) refl
      where
        rows : Columns
        rows = texts_rows left_table right_table left-text right-text x

        a : SearchAnswer
        a = texts_answer left_table right_table left-text right-text x

        FitsIn : Verdict → SearchLists → Type 0
        FitsIn w z = Fits w z.packets z.lefts z.rights z.trace

        moved : {w : Verdict} {z : SearchLists} → v ≡ w → y ≡ z → FitsIn w z → FitsIn v y
        moved {w} {z} e f h = subst (λ u. FitsIn u y) (sym e) (subst (FitsIn w) (sym f) h)

        go : (u : Tested) → texts_tests left_table right_table left-text right-text x ≡ u → FitsIn v y
        go (Ok _) e = moved (D.answers ∙ ap (λ (u : Tested). verdict_after u a) e) (D.leaves ∙ ap (λ (u : Tested). lent_after u rows a x) e) (fits_passed core L R x (legal e) p l r t a refl)
        go (Err q) e = moved (D.answers ∙ ap (λ (u : Tested). verdict_after u a) e) (D.leaves ∙ ap (λ (u : Tested). lent_after u rows a x) e) tt

-- ---- what the first word says

-- a byte list does not start with another word
other_word : (xs ys : List ℕ) (i : ℕ) → (get_or xs i 0 ≡ get_or ys i 0 → ⊥) → xs ≡ ys → ⊥
other_word xs ys i differ e = differ (ap (λ (l : List ℕ). get_or l i 0) e)

refusal_not_equal : (r : Refusal) → take (length word_equal) (refusal_line r) ≡ word_equal → ⊥
unfolding refusal_line verdict_line word_refused word_equal
refusal_not_equal r = other_word _ _ 0 (λ e. omega (arith, e))

refusal_not_side : (s : Side) (r : Refusal) → take (length (word_of_side s)) (refusal_line r) ≡ word_of_side s → ⊥
unfolding refusal_line verdict_line word_refused word_of_side word_left word_right
refusal_not_side left r = other_word _ _ 0 (λ e. omega (arith, e))
refusal_not_side right r = other_word _ _ 1 (λ e. omega (arith, e))

starts_equal : (t : Tested) (rows : Columns) (a : SearchAnswer) → take (length word_equal) (output_after t rows a) ≡ word_equal → (n : ℕ) × (verdict_after t a ≡ Equal n)
unfolding output_after answer_lines verdict_after verdict_of telling_lines verdict_line word_of_side word_left word_right word_equal
starts_equal (Ok _) rows (equal n) e = (n, refl)
starts_equal (Ok _) rows (different left α w) e = absurd (other_word _ _ 0 (λ q. omega (arith, q)) e)
starts_equal (Ok _) rows (different right α w) e = absurd (other_word _ _ 0 (λ q. omega (arith, q)) e)
starts_equal (Ok _) rows (rows_full n d) e = absurd (refusal_not_equal _ e)
starts_equal (Ok _) rows (trace_short n) e = absurd (refusal_not_equal _ e)
starts_equal (Err r) rows a e = absurd (refusal_not_equal r e)

-- the trace of an output that starts with a side's word
record Tells (t : Tested) (a : SearchAnswer) (s : Side) : Type 0 where
  entering : ℕ
  trace : List ℕ
  passed : t ≡ Ok tt
  answer : a ≡ different s entering trace

starts_side : (s : Side) (t : Tested) (rows : Columns) (a : SearchAnswer) → take (length (word_of_side s)) (output_after t rows a) ≡ word_of_side s → Tells t a s
unfolding output_after answer_lines telling_lines verdict_line word_of_side word_left word_right word_equal
starts_side left (Ok _) rows (equal n) e = absurd (other_word _ _ 0 (λ q. omega (arith, q)) e)
starts_side right (Ok _) rows (equal n) e = absurd (other_word _ _ 0 (λ q. omega (arith, q)) e)
starts_side left (Ok _) rows (different left α w) e = record { entering = α; trace = w; passed = refl; answer = refl }
starts_side right (Ok _) rows (different right α w) e = record { entering = α; trace = w; passed = refl; answer = refl }
starts_side left (Ok _) rows (different right α w) e = absurd (other_word _ _ 0 (λ q. omega (arith, q)) e)
starts_side right (Ok _) rows (different left α w) e = absurd (other_word _ _ 0 (λ q. omega (arith, q)) e)
starts_side s (Ok _) rows (rows_full n d) e = absurd (refusal_not_side s _ e)
starts_side s (Ok _) rows (trace_short n) e = absurd (refusal_not_side s _ e)
starts_side s (Err r) rows a e = absurd (refusal_not_side s r e)

-- ---- the search on two texts, printed

program_lengths : (length program_lent.packets ≡ 4096) × (length program_lent.lefts ≡ 4096) × (length program_lent.rights ≡ 4096) × (length program_lent.trace ≡ 4096)
unfolding program_lent
program_lengths = (length-replicate {A = ℕ} 4096 0, length-replicate {A = ℕ} 4096 0, length-replicate {A = ℕ} 4096 0, length-replicate {A = ℕ} 4096 0)

-- what a search leaves, of lists that hold what the row lists do
pub texts_in : {left_table right_table : Table} {left-text right-text : List ℕ} {x : SearchLists} {v : Verdict} (rows : RowLists) {trace work P Q R : List ℕ} → TextsSearched left_table right_table left-text right-text x v (lent_in rows trace work)
    → P ≡ rows.packets.now → Q ≡ rows.left.now → R ≡ rows.right.now → TextsSearched left_table right_table left-text right-text x v (lent P Q R rows.parents.now trace work)
texts_in {left_table} {right_table} {left-text} {right-text} {x} {v} rows {trace} {work} D p q r =
    subst (TextsSearched left_table right_table left-text right-text x v) (λ i. lent (sym p i) (sym q i) (sym r i) rows.parents.now trace work) D

module _ {left_table right_table : Table} {left-text right-text : List ℕ} {v : Verdict} {y : SearchLists} (D : TextsSearched left_table right_table left-text right-text program_lent v y) where
  pub shows : Fits v y.packets y.lefts y.rights y.trace
  shows = let l = program_lengths in lines_fit left_table right_table left-text right-text program_lent D l.0 l.1 l.2 l.3

  -- the trace list's first packets are the trace
  trace_left : (s : Side) (h : Tells (texts_tests left_table right_table left-text right-text program_lent) (texts_answer left_table right_table left-text right-text program_lent) s) → take (length h.trace) y.trace ≡ h.trace
  unfolding texts_leaves lent_after filled trace_after
  trace_left s h =
      ap (λ (z : SearchLists). take (length h.trace) z.trace) (D.leaves ∙ ap (λ (t : Tested). lent_after t (texts_rows left_table right_table left-text right-text program_lent) (texts_answer left_table right_table left-text right-text program_lent) program_lent) h.passed)
      ∙ ap (λ a. take (length h.trace) (trace_after a program_lent.trace)) h.answer
      ∙ take_written h.trace program_lent.trace

  telling_is : (s : Side) (h : Tells (texts_tests left_table right_table left-text right-text program_lent) (texts_answer left_table right_table left-text right-text program_lent) s) → v ≡ telling_verdict s (length h.trace) h.entering
  unfolding texts_verdict verdict_after verdict_of
  telling_is s h = D.answers ∙ ap₂ verdict_after h.passed h.answer

  pub printed : {old new : List ℕ} {e : ℕ} → Wrote old new 0 e (verdict_lines v y.packets y.lefts y.rights y.trace) → Printed left_table right_table left-text right-text old e new
  unfolding output_of output_after answer_lines texts_verdict
  printed {old} {new} {e} W =
      record {
        wrote = subst (Wrote old new 0 e) (lines_are left_table right_table left-text right-text program_lent D) W;
        equal_same = λ q. let h = starts_equal _ _ _ q in D.equal_same h.0 (D.answers ∙ h.1);
        different_tells = λ s q. tells s (starts_side s _ _ _ q);
      }
    where
      tells : (s : Side) → Tells (texts_tests left_table right_table left-text right-text program_lent) (texts_answer left_table right_table left-text right-text program_lent) s → TellingPrinted left_table right_table left-text right-text s
      tells s h =
          record {
            entering = h.entering;
            trace = h.trace;
            printed = ap₂ (λ t a. output_after t (texts_rows left_table right_table left-text right-text program_lent) a) h.passed h.answer;
            tells = subst (TextsTell left_table right_table left-text right-text s h.entering) (trace_left s h) (D.different_tells s (length h.trace) h.entering (telling_is s h)).tells;
          }

-- ---- the whole program

wrote_front : {old new xs : List ℕ} {e : ℕ} → Wrote old new 0 e xs → (e ≡ length xs) × (new ≡ written xs old)
unfolding written
wrote_front {old} {new} {xs} {e} W =
    let n : e ≡ length xs = W.ends ∙ omega arith in
    (n, W.holds ∙ ap (λ k. xs ++ drop k old) n)

module _ {input : List ℕ} where
  pub answers_malformed : asked input ≡ malformed → {old new : List ℕ} {e : ℕ} → Wrote old new 0 e (refusal_line (refusal 18 0 0)) → Answered input old e new
  unfolding program_output output_of
  answers_malformed a {old} {new} {e} W =
      let is : program_output input ≡ refusal_line (refusal 18 0 0) = ap output_of a in
      let w = wrote_front W in
      record {
        count = w.0 ∙ ap length (sym is);
        output = w.1 ∙ ap (λ xs. written xs old) (sym is);
        equal_same = λ q. absurd (refusal_not_equal _ (ap (take (length word_equal)) (sym is) ∙ q));
        different_tells = λ s q. absurd (refusal_not_side s _ (ap (take (length (word_of_side s))) (sym is) ∙ q));
      }

  pub answers_searched : {left_table right_table : Table} {left-text right-text : List ℕ} → asked input ≡ compare left_table right_table left-text right-text → {old new : List ℕ} {e : ℕ} → Printed left_table right_table left-text right-text old e new → Answered input old e new
  unfolding program_output
  answers_searched {left_table} {right_table} {left-text} {right-text} a {old} {new} {e} P =
      let is : program_output input ≡ output_of (compare left_table right_table left-text right-text) = ap output_of a in
      let w = wrote_front P.wrote in
      record {
        count = w.0 ∙ ap length (sym is);
        output = w.1 ∙ ap (λ xs. written xs old) (sym is);
        equal_same = λ q. record { left_table = left_table; right_table = right_table; left = left-text; right = right-text; asks = a; same = P.equal_same (ap (take (length word_equal)) (sym is) ∙ q) };
        different_tells = λ s q.
            let t = P.different_tells s (ap (take (length (word_of_side s))) (sym is) ∙ q) in
            record { left_table = left_table; right_table = right_table; left = left-text; right = right-text; asks = a; entering = t.entering; trace = t.trace; printed = is ∙ t.printed; tells = t.tells };
      }

-- an answer fits where it was written
pub answer_fits : {input old new : List ℕ} {n : ℕ} → Answered input old n new → length new ≡ length old → n ≤ length old
unfolding written
answer_fits {input} {old} {new} {n} A kept =
    let xs = program_output input in
    omega (arith, A.count, kept, ap length A.output, length-append xs (drop (length xs) old), length-drop (length xs) old)
