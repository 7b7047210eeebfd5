-- What a search leaves is what the checkers take: the rows of an equal verdict are accepted, the trace of a telling one is that side's alone, and
-- after 11 none that is short enough is one side's alone.
-- Assumes nothing.
use Prim.Native.Nat.{ℕ, ◌≤◌}
use mathlib.Core.List.{List, ◌++◌, map}
use mathlib.Core.Logic.{◌↔◌}
use mathlib.Core.Path.{◌≡◌, refl, sym, ap, ap₂, ◌∙◌, subst}
use native.Mathlib.Omega.{arith}
use lib.Dec.{T}
use lib.ListN.{length, take, drop, length-map}
use lib.Seq.{take-append_seam}
use Rattle.packet.specs.declared.Refusal.{Refusal}
use Rattle.packet.specs.Refusals.{Tested}
use Rattle.std.specs.Prelude.{Ok, Err}
use Rattle.packet.specs.Sizes.{product}
use Rattle.policy.specs.Order.{pair_core, pair_tests}
use Rattle.policy.specs.Meaning.{declared, Traces, SameShortTraces}
use Rattle.classes.specs.Classing.{shown_packet}
use Rattle.classes.specs.Mentioned.{pair_classes}
use Rattle.fields.specs.Tables.{Table}
use Rattle.policy.specs.NodeLists.{NodeLists, policy_of}
use Rattle.system.specs.RowOrder.{held}
use Rattle.pair.specs.Sides.{Side, left, right, at, policies}
use Rattle.pair.specs.Pair.{pair_system}
use Rattle.pair.specs.Search.{SearchAnswer, columns_of, held_columns}
use Rattle.pair.specs.TraceCheck.{only, has}
use Rattle.pair.proofs.Lawful.{legal_pair}
use Rattle.pair.proofs.Verdicts.{equal_same}
use Rattle.lent_lists.proofs.Testing.{lent_pair}
use Rattle.packet.specs.Written.{written}
use Rattle.verdict.specs.declared.Verdict.{Verdict}
use Rattle.verdict.specs.declared.Verdict.TheVariants.{Equal, Full}
use Rattle.verdict.specs.Verdicts.{telling_verdict, verdict_of, trace_after}
use Rattle.search.specs.Call.{SearchLists, filled, verdict_after, lent_after, search_tests, answer_here, rows_here, search_verdict, search_leaves, Searched}
use Rattle.search.proofs.Answering.{equal_of, telling_of, accepts}
use Rattle.evidence.specs.declared.Evidence.TheVariants.{Accepted}
use Rattle.evidence.specs.Calls.{evidence_call}
use Rattle.evidence.proofs.Answering.{equal_accepted}
use Rattle.traces.specs.Checking.{checked_as, trace_call}
use Rattle.traces.proofs.Calling.{answer_shown, answer_declared, search_checked}

zero≢one : ◌≡◌ {A = ℕ} 0 1 → ⊥
zero≢one z = omega arith

-- the first entries written
take_written : (xs old : List ℕ) (n : ℕ) → length xs ≡ n → take n (written xs old) ≡ xs
unfolding written
take_written xs old n e = ap (λ k. take k (xs ++ drop (length xs) old)) (sym e) ∙ take-append_seam xs (drop (length xs) old)

-- a verdict that is not a refusal: the tests passed
passed_equal : (t : Tested) (a : SearchAnswer) (n : ℕ) → Equal n ≡ verdict_after t a → (t ≡ Ok tt) × (verdict_of a ≡ Equal n)
unfolding verdict_after
passed_equal (Ok _) a n e = (refl, sym e)
passed_equal (Err r) a n e = let z : ◌≡◌ {A = ℕ} 0 1 = cc in absurd (zero≢one z)

passed_telling : (t : Tested) (a : SearchAnswer) (s : Side) (n α : ℕ) → telling_verdict s n α ≡ verdict_after t a → (t ≡ Ok tt) × (verdict_of a ≡ telling_verdict s n α)
unfolding verdict_after
passed_telling (Ok _) a s n α e = (refl, sym e)
passed_telling (Err r) a left n α e = let z : ◌≡◌ {A = ℕ} 0 1 = cc in absurd (zero≢one z)
passed_telling (Err r) a right n α e = let z : ◌≡◌ {A = ℕ} 0 1 = cc in absurd (zero≢one z)

module _ (ts : List Table) (L R : NodeLists) (x y : SearchLists) where
  pair_passed : search_tests ts L R x ≡ Ok tt → pair_tests ts L R ≡ Ok tt
  unfolding search_tests
  pair_passed e = lent_pair ts L R _ e

  left_as : search_tests ts L R x ≡ Ok tt → {verdict : Verdict} → Searched ts L R x verdict y → y ≡ filled (rows_here (pair_core ts L R) L R x) (answer_here (pair_core ts L R) L R x) x
  unfolding search_leaves lent_after
  left_as p D = D.leaves ∙ ap (λ (t : Tested). lent_after t (rows_here (pair_core ts L R) L R x) (answer_here (pair_core ts L R) L R x) x) p

  -- the rows of a search that answered equal are accepted, with any work list that refusal 10 lets pass
  pub equal_rows_accepted : (n words : ℕ) → Searched ts L R x (Equal n) y → 16384 ≤ words
      → evidence_call ts L R (take n y.packets) (take n y.lefts) (take n y.rights) words ≡ Accepted
  unfolding search_verdict filled held_columns columns_of
  equal_rows_accepted n words D long =
      let h = passed_equal (search_tests ts L R x) (answer_here (pair_core ts L R) L R x) n D.answers in
      let a = equal_of (answer_here (pair_core ts L R) L R x) n h.1 in
      let A = accepts ts h.0 (product (pair_core ts L R)) refl refl in
      let many : length (held (pair_system (pair_core ts L R) (policies L R)) (length x.packets)) ≡ n = (equal_same (pair_core ts L R) (policies L R) (legal_pair (pair_core ts L R) L R A.left_legal A.right_legal) (length x.packets) (length x.trace) n a).0 in
      let is = left_as h.0 D in
      let packets : take n y.packets ≡ (rows_here (pair_core ts L R) L R x).packets = ap (λ (z : SearchLists). take n z.packets) is ∙ take_written (rows_here (pair_core ts L R) L R x).packets x.packets n (length-map (held (pair_system (pair_core ts L R) (policies L R)) (length x.packets)) (λ e. e.row.packet) ∙ many) in
      let lefts : take n y.lefts ≡ (rows_here (pair_core ts L R) L R x).lefts = ap (λ (z : SearchLists). take n z.lefts) is ∙ take_written (rows_here (pair_core ts L R) L R x).lefts x.lefts n (length-map (held (pair_system (pair_core ts L R) (policies L R)) (length x.packets)) (λ e. e.row.state.left) ∙ many) in
      let rights : take n y.rights ≡ (rows_here (pair_core ts L R) L R x).rights = ap (λ (z : SearchLists). take n z.rights) is ∙ take_written (rows_here (pair_core ts L R) L R x).rights x.rights n (length-map (held (pair_system (pair_core ts L R) (policies L R)) (length x.packets)) (λ e. e.row.state.right) ∙ many) in
      ap (λ (P : List ℕ). evidence_call ts L R P (take n y.lefts) (take n y.rights) words) packets
      ∙ ap₂ (λ (P Q : List ℕ). evidence_call ts L R (rows_here (pair_core ts L R) L R x).packets P Q words) lefts rights
      ∙ equal_accepted ts L R (length x.packets) words A.few (pair_passed h.0) long (length x.trace) n a

  -- the trace of a search that answered left is answered left by the trace checker, and right, right
  pub telling_trace_checked : (s : Side) (n α words : ℕ) → Searched ts L R x (telling_verdict s n α) y → 16384 ≤ words
      → trace_call ts L R α (take n y.trace) words ≡ checked_as (only s)
  unfolding search_verdict filled trace_after
  telling_trace_checked s n α words D long =
      let h = passed_telling (search_tests ts L R x) (answer_here (pair_core ts L R) L R x) s n α D.answers in
      let t = telling_of (answer_here (pair_core ts L R) L R x) s n α h.1 in
      let trace : take n y.trace ≡ t.trace =
      ap (λ (z : SearchLists). take n z.trace) (left_as h.0 D) ∙ ap (λ a. take n (trace_after a x.trace)) t.answer ∙ take_written t.trace x.trace n t.long in
      ap (λ (w : List ℕ). trace_call ts L R α w words) trace
      ∙ search_checked ts L R words (pair_passed h.0) long (length x.packets) (length x.trace) s α t.trace t.answer

  -- after 11 with d, the trace checker calls no trace of d packets or fewer one policy's alone
  pub full_trace_shared : (r : Refusal) (d α words : ℕ) (trace : List ℕ) (s : Side) → Searched ts L R x (Full r d) y → length trace ≤ d
      → trace_call ts L R α trace words ≡ checked_as (only s) → ⊥
  unfolding SameShortTraces at has
  full_trace_shared r d α words trace s D few e =
      go s (D.full_same r d refl (shown_packet (pair_classes ts L R) α) (answer_declared ts L R α trace words (only s) e) (map (shown_packet (pair_classes ts L R)) trace) (subst (λ n. n ≤ d) (sym (length-map trace (shown_packet (pair_classes ts L R)))) few)) (answer_shown ts L R α trace words (only s) e)
    where
      go : (s : Side) → Traces declared (policy_of L) (shown_packet (pair_classes ts L R) α) (map (shown_packet (pair_classes ts L R)) trace) ↔ Traces declared (policy_of R) (shown_packet (pair_classes ts L R) α) (map (shown_packet (pair_classes ts L R)) trace)
          → ((z : Side) → T (has z (only s)) ↔ Traces declared (at z (policies L R)).tree (shown_packet (pair_classes ts L R) α) (map (shown_packet (pair_classes ts L R)) trace)) → ⊥
      go left same says = (says right).1 (same.0 ((says left).0 tt))
      go right same says = (says left).1 (same.1 ((says right).0 tt))
