-- The order of the tests, and what holds where they pass. Assumes nothing.
use Prim.Native.Nat.{ℕ, zero, suc, ◌<◌, ◌≤◌}
use mathlib.Core.Bool.{false}
use mathlib.Core.List.{List, [], ◌∷◌}
use Rattle.std.specs.Prelude.{Option, None, Some, Ok, Err}
use mathlib.Core.Path.{◌≡◌, refl, sym, ap, ◌∙◌}
use native.Mathlib.Omega.{arith}
use borrow.Author.Tests.{le-leb, lt-leb, leb-false}
use lib.ListN.{length, get_or}
use Rattle.packet.specs.declared.Refusal.{Refusal}
use Rattle.packet.specs.Refusals.{Tested, refused_at, first_refused}
use Rattle.packet.specs.Lowest.{lowest}
use Rattle.packet.specs.Sizes.{product, LegalSizes}
use Rattle.packet.proofs.Lowest.{lowest_none, none_lowest, lowest_more, lowest_found}
use Rattle.packet.proofs.Stages.{first_refused_last, first_refused_refused, first_refused_next, first_refused_passed, refused_at_passed}
use Rattle.policy.specs.Order.{pair_of, pair_core, pair_tests}
use Rattle.classes.proofs.Pairs.{LegalPair}
use Rattle.policy.proofs.OrderLaws.{packets_last}
use Rattle.legality.specs.Answers.{front_tests}
use Rattle.policy.specs.Legality.{Legal}
use Rattle.fields.specs.Tables.{Table}
use Rattle.policy.specs.NodeLists.{NodeLists}
use Rattle.lent_lists.specs.LentLists as rows
use Rattle.lent_lists.specs.LentLists.{lists_stage}
use Rattle.lent_lists.proofs.Testing as rows-laws
use Rattle.lent_lists.proofs.Testing.{front_as, tests_passed, lists_passed, work_passes}
use Rattle.traces.specs.Checking.{bad_packet, packets_stage, lists_tests, trace_tests}

-- ---- cause 13, as a loop over the trace finds it

module _ (N α : ℕ) (trace : List ℕ) where
  pub entering_bad : N ≤ α → lowest (bad_packet N α trace) (suc (length trace)) ≡ Some 0
  unfolding bad_packet lowest
  entering_bad h = lowest_found (bad_packet N α trace) 0 (suc (length trace)) refl (le-leb N α h) (omega arith)

  pub entering_good : α < N → lowest (bad_packet N α trace) 1 ≡ None
  unfolding bad_packet lowest
  entering_good h = lowest_more (bad_packet N α trace) 0 refl (lt-leb N α h)

  module _ {i : ℕ} (e : lowest (bad_packet N α trace) (suc i) ≡ None) (l : i < length trace) where
    pub packet_bad : N ≤ get_or trace i 0 → lowest (bad_packet N α trace) (suc (length trace)) ≡ Some (suc i)
    unfolding bad_packet
    packet_bad h = lowest_found (bad_packet N α trace) (suc i) (suc (length trace)) e (le-leb N (get_or trace i 0) h) (omega arith)

    pub packet_good : get_or trace i 0 < N → lowest (bad_packet N α trace) (suc (suc i)) ≡ None
    unfolding bad_packet
    packet_good h = lowest_more (bad_packet N α trace) (suc i) e (lt-leb N (get_or trace i 0) h)

  -- the stage from the place found; n is the packet count
  pub packets_tested : {n : ℕ} {t : Tested} {o : Option ℕ} → n ≡ N → t ≡ refused_at 13 0 o → o ≡ lowest (bad_packet n α trace) (suc (length trace)) → packets_stage N α trace ≡ t
  unfolding packets_stage
  packets_tested c e l = sym (e ∙ ap (refused_at 13 0) (l ∙ ap (λ (m : ℕ). lowest (bad_packet m α trace) (suc (length trace))) c))

  -- what holds where it passes
  pub packets_inside : packets_stage N α trace ≡ Ok tt → (α < N) × ((i : ℕ) → i < length trace → get_or trace i 0 < N)
  unfolding packets_stage bad_packet
  packets_inside e =
      let f = lowest_none (bad_packet N α trace) (suc (length trace)) (refused_at_passed 13 0 _ e) in
      (leb-false N α (f 0 (omega arith)), λ i h. leb-false N (get_or trace i 0) (f (suc i) (omega arith)))

  pub inside_packets : α < N → ((i : ℕ) → i < length trace → get_or trace i 0 < N) → packets_stage N α trace ≡ Ok tt
  unfolding packets_stage bad_packet refused_at
  inside_packets h k = ap (refused_at 13 0) (none_lowest (bad_packet N α trace) (suc (length trace)) go)
    where
      go : (i : ℕ) → i < suc (length trace) → bad_packet N α trace i ≡ false
      go zero l = lt-leb N α h
      go (suc i) l = lt-leb N (get_or trace i 0) (k i (omega arith))

-- ---- the causes up to 10

module _ (ts : List Table) (L R : NodeLists) (words : ℕ) where
  -- the tests as they were made
  pub tests_made : {said t : Tested} → said ≡ lists_stage [] words → front_tests ts 1 L R said ≡ t → lists_tests ts L R words ≡ t
  unfolding lists_tests
  tests_made e f = ap (rows.lent_tests ts L R) (sym e) ∙ sym (front_as ts L R _) ∙ f

  -- what holds where they pass
  pub record Passing : Type 0 where
    pub legal_sizes : LegalSizes (pair_core ts L R)
    pub left_legal : Legal (pair_core ts L R) L
    pub right_legal : Legal (pair_core ts L R) R
    pub pair : LegalPair ts L R
    pub long : 16384 ≤ words

  pub lent_passed : lists_tests ts L R words ≡ Ok tt → Passing
  unfolding lists_tests
  lent_passed e =
      let h = tests_passed ts L R _ e in
      record { legal_sizes = h.legal_sizes; left_legal = h.left_legal; right_legal = h.right_legal; pair = h.pair; long = (lists_passed [] words h.passed).1 }

  -- two policies that the causes before 10 let pass, and a work list that is long enough
  pub pair_lent : pair_tests ts L R ≡ Ok tt → 16384 ≤ words → lists_tests ts L R words ≡ Ok tt
  unfolding lists_tests
  pair_lent e h = rows-laws.pair_lent ts L R (lists_stage [] words) e (work_passes words h)

  -- ---- then 13

  module _ (α : ℕ) (trace : List ℕ) where
    then_packets : trace_tests ts L R α trace words ≡ first_refused (lists_tests ts L R words ∷ packets_stage (product (pair_core ts L R)) α trace ∷ [])
    unfolding trace_tests lists_tests rows.lent_tests
    then_packets = packets_last ts (Ok tt) (pair_of L R) _ _

    pub trace_refused : (r : Refusal) → lists_tests ts L R words ≡ Err r → trace_tests ts L R α trace words ≡ Err r
    trace_refused r e = then_packets ∙ first_refused_refused _ _ r e

    pub trace_tested : lists_tests ts L R words ≡ Ok tt → trace_tests ts L R α trace words ≡ packets_stage (product (pair_core ts L R)) α trace
    trace_tested e = then_packets ∙ first_refused_next _ _ e ∙ first_refused_last _

    pub trace_passed : trace_tests ts L R α trace words ≡ Ok tt → (lists_tests ts L R words ≡ Ok tt) × (packets_stage (product (pair_core ts L R)) α trace ≡ Ok tt)
    trace_passed e = let f = first_refused_passed _ _ (sym then_packets ∙ e) in (f.0, (first_refused_passed _ _ f.1).0)
