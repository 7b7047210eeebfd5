-- The order of the tests, and what the numbers keep when all pass.
-- Assumes nothing.
use Prim.Native.Nat.{ℕ, suc, ◌<◌, ◌≤◌, suc-le-suc}
use native.Mathlib.Omega.{arith}
use mathlib.Core.Bool.{Bool}
use mathlib.Core.List.{List, [], ◌∷◌}
use Rattle.std.specs.Prelude.{Option, None}
use mathlib.Core.Path.{◌≡◌, refl, sym, ap, ap₂, ◌∙◌, subst}
use borrow.Author.Tests.{eq-eqb, ne_eqb, eqb-true, le-leb, lt-leb, leb-false, not-false}
use lib.ListN.{length, get_or, take}
use lib.Seq.{length-take-le}
use Rattle.packet.specs.declared.Refusal.{Refusal}
use Rattle.packet.specs.Refusals.{Tested}
use Rattle.std.specs.Prelude.{Ok, Err}
use Rattle.packet.specs.Lowest.{lowest}
use Rattle.packet.specs.Refusals.{refusal, refused_at, at_place}
use Rattle.packet.specs.Sizes.{product, counted, LegalSizes}
use Rattle.packet.specs.Packets.{Declared, values_of, number_of}
use Rattle.packet.proofs.Lowest.{lowest_none}
use Rattle.packet.proofs.Stages.{first_refused_last, first_refused_refused, first_refused_next, first_refused_passed, refused_at_passed, at_place_none}
use Rattle.fields.specs.Tables.{Table, joint_sizes}
use Rattle.policy.specs.NodeLists.{NodeLists}
use Rattle.policy.specs.Order.{pair_of}
use Rattle.policy.proofs.OrderLaws.{passing, sizes_legal, packets_after, packets_decide}
use Rattle.legality.specs.declared.LegalCall.{LegalCall}
use Rattle.legality.specs.Answers.{front_tests, FrontOf}
use Rattle.policy.proofs.MentionLaws.{core_length}
use Rattle.packet.proofs.Packets.{declared_length}
use Rattle.classes.specs.Classing.{class_number, shown_packet}
use Rattle.classes.specs.Mentioned.{pair_classes}
use Rattle.classes.proofs.MentionNumbers.{mention_shown}
use Rattle.turning.proofs.Classes.{classes_declared, classes_number}
use Rattle.turning.specs.Turning.{length_test, number_stage, values_tests, kept_unless, values_left, bad_value, values_stage, number_tests, number_call, classes_in}

-- ---- cause 13

module _ (k len : ℕ) where
  pub length_refused : (len ≡ k → ⊥) → Err (refusal 13 0 k) ≡ length_test k len
  unfolding length_test refused_at at_place
  length_refused d = rw (ne_eqb len k d) refl

  pub length_passed : len ≡ k → Ok tt ≡ length_test k len
  unfolding length_test refused_at at_place
  length_passed e = rw (eq-eqb len k e) refl

  pub length_known : length_test k len ≡ Ok tt → len ≡ k
  unfolding length_test
  length_known e = eqb-true len k (not-false _ (at_place_none k _ (refused_at_passed 13 0 _ e)))

  module _ (count number : ℕ) where
    pub number_length : {r : Refusal} → length_test k len ≡ Err r → number_stage k count number len ≡ Err r
    unfolding number_stage
    number_length e = first_refused_refused _ _ _ e

    pub number_refused : length_test k len ≡ Ok tt → count ≤ number → number_stage k count number len ≡ Err (refusal 13 0 0)
    unfolding number_stage refused_at at_place
    number_refused e h = first_refused_next _ _ e ∙ first_refused_last _ ∙ ap (λ (b : Bool). refused_at 13 0 (at_place 0 b)) (le-leb count number h)

    pub number_passed : length_test k len ≡ Ok tt → number < count → number_stage k count number len ≡ Ok tt
    unfolding number_stage refused_at at_place
    number_passed e h = first_refused_next _ _ e ∙ first_refused_last _ ∙ ap (λ (b : Bool). refused_at 13 0 (at_place 0 b)) (lt-leb count number h)

module _ (sizes values : List ℕ) where
  pub values_length : {r : Refusal} → length_test (length sizes) (length values) ≡ Err r → values_stage sizes values ≡ Err r
  unfolding values_stage
  values_length e = first_refused_refused _ _ _ e

  pub values_tested : {t : Tested} {o : Option ℕ} → length_test (length sizes) (length values) ≡ Ok tt → t ≡ refused_at 13 0 o → o ≡ lowest (bad_value sizes values) (length sizes)
      → t ≡ values_stage sizes values
  unfolding values_stage
  values_tested e f g = f ∙ ap (refused_at 13 0) g ∙ sym (first_refused_next _ _ e ∙ first_refused_last _)

-- ---- the tests as they were made

module _ (ts : List Table) (L R : NodeLists) where
  -- the front refuses
  pub values_front : {r : Refusal} (number len : ℕ) → front_tests ts 1 L R (Ok tt) ≡ Err r → values_tests ts L R number len ≡ Err r
  unfolding values_tests
  values_front number len e = packets_after ts (Ok tt) (pair_of L R) (Ok tt) _ e

  pub number_front : {r : Refusal} (values : List ℕ) → front_tests ts 1 L R (Ok tt) ≡ Err r → number_tests ts L R values ≡ Err r
  unfolding number_tests
  number_front values e = packets_after ts (Ok tt) (pair_of L R) (Ok tt) _ e

  -- the front passes: F is what it tells
  module _ {F : LegalCall} (front : FrontOf ts 1 L R (Ok tt) (Ok F)) where
    length_joint : F.count ≡ length (joint_sizes ts)
    length_joint = sym (length-take-le F.count F.sizes front.1.few.0) ∙ ap length front.1.joint

    pub values_made : (number len : ℕ) {t : Tested} → t ≡ number_stage F.count F.packets number len → values_tests ts L R number len ≡ t
    unfolding values_tests
    values_made number len e = packets_decide ts (Ok tt) (pair_of L R) (Ok tt) _ front.0 ∙ sym (e ∙ ap₂ (λ (c n : ℕ). number_stage c n number len) length_joint front.1.packets)

    pub number_made : (values : List ℕ) {t : Tested} → t ≡ values_stage (take F.count F.sizes) values → number_tests ts L R values ≡ t
    unfolding number_tests
    number_made values e = packets_decide ts (Ok tt) (pair_of L R) (Ok tt) _ front.0 ∙ sym (e ∙ ap (λ (s : List ℕ). values_stage s values) front.1.joint)

-- ---- what holds where they pass

declared_by_values : (sizes values : List ℕ) → length values ≡ length sizes
    → ((i : ℕ) → i < length sizes → get_or values i 0 < get_or sizes i 0) → Declared sizes values
unfolding Declared
declared_by_values [] [] e h = tt
declared_by_values [] (v ∷ vs) e h = omega arith
declared_by_values (s ∷ ss) [] e h = omega arith
declared_by_values (s ∷ ss) (v ∷ vs) e h =
    (h 0 (omega arith), declared_by_values ss vs (omega arith) (λ i k. h (suc i) (suc-le-suc k)))

-- no value is out of range: a declared packet
none_bad : (sizes values : List ℕ) → length values ≡ length sizes → lowest (bad_value sizes values) (length sizes) ≡ None → Declared sizes values
unfolding bad_value
none_bad sizes values e n = declared_by_values sizes values e (λ i h. leb-false (get_or sizes i 0) (get_or values i 0) (lowest_none (bad_value sizes values) (length sizes) n i h))

module _ (ts : List Table) (L R : NodeLists) {F : LegalCall} (front : FrontOf ts 1 L R (Ok tt) (Ok F)) where
  -- the core sizes are legal, the list has a value for each field, and the number is below N
  pub values_passed : (number len : ℕ) → values_tests ts L R number len ≡ Ok tt
      → LegalSizes (take F.count F.core) × (F.packets ≡ product (take F.count F.core)) × (number < F.packets) × (len ≡ length (take F.count F.core))
  unfolding values_tests number_stage
  values_passed number len e =
      let h = passing _ _ _ _ _ e in
      let q = first_refused_passed _ _ h.packets_pass in
      let same = sym front.1.core in (
        subst LegalSizes same (sizes_legal _ _ _ _ _ h),
        front.1.packets ∙ ap product same,
        subst (λ (n : ℕ). number < n) (sym (front.1.packets)) (leb-false _ _ (at_place_none 0 _ (refused_at_passed 13 0 _ (first_refused_passed _ _ q.1).0))),
        length_known _ _ q.0 ∙ sym (core_length (L ∷ R ∷ []) (joint_sizes ts)) ∙ ap length same,
      )

  -- what is written are the values shown for the packet
  pub values_are : (number len : ℕ) → values_tests ts L R number len ≡ Ok tt → values_of (take F.count F.core) number ≡ shown_packet (pair_classes ts L R) number
  unfolding values_tests
  values_are number len e =
      let below = subst (λ n. number < n) (front.1.packets) (values_passed number len e).2 in
      ap (λ (s : List ℕ). values_of s number) front.1.core ∙ sym (mention_shown (L ∷ R ∷ []) (joint_sizes ts) number below)

  module _ (values : List ℕ) (e : number_tests ts L R values ≡ Ok tt) where
    -- the values are those of a declared packet
    values_declared : Declared (joint_sizes ts) values
    unfolding number_tests values_stage
    values_declared =
        let q = first_refused_passed _ _ (passing _ _ _ _ _ e).packets_pass in
        none_bad (joint_sizes ts) values (length_known _ _ q.0) (refused_at_passed 13 0 _ (first_refused_passed _ _ q.1).0)

    pub number_asks : LegalSizes (take F.count F.core) × (length values ≡ length (take F.count F.core)) × Declared (take F.count F.core) (classes_in (take F.count F.core) values)
    unfolding number_tests
    number_asks =
        subst (λ (s : List ℕ). LegalSizes s × (length values ≡ length s) × Declared s (classes_in s values)) (sym front.1.core) (
          sizes_legal _ _ _ _ _ (passing _ _ _ _ _ e),
          declared_length (joint_sizes ts) values values_declared ∙ sym (core_length (L ∷ R ∷ []) (joint_sizes ts)),
          classes_declared (L ∷ R ∷ []) (joint_sizes ts) values values_declared,
        )

    pub number_is : number_of (take F.count F.core) (classes_in (take F.count F.core) values) ≡ class_number (pair_classes ts L R) values
    unfolding number_tests
    number_is =
        ap (λ (s : List ℕ). number_of s (classes_in s values)) front.1.core
        ∙ sym (classes_number (L ∷ R ∷ []) (joint_sizes ts) values values_declared)

-- ---- the answers

module _ (ts : List Table) (L R : NodeLists) (number : ℕ) (old : List ℕ) where
  pub values_refused : {r : Refusal} → values_tests ts L R number (length old) ≡ Err r → old ≡ values_left ts L R number old
  unfolding values_left kept_unless
  values_refused e = sym (ap (λ (t : Tested). kept_unless t (shown_packet (pair_classes ts L R) number) old) e)

  pub values_written : values_tests ts L R number (length old) ≡ Ok tt → {new : List ℕ} → new ≡ shown_packet (pair_classes ts L R) number → new ≡ values_left ts L R number old
  unfolding values_left kept_unless
  values_written e same = same ∙ sym (ap (λ (t : Tested). kept_unless t (shown_packet (pair_classes ts L R) number) old) e)

module _ (ts : List Table) (L R : NodeLists) (values : List ℕ) where
  pub call_refused : {r : Refusal} → number_tests ts L R values ≡ Err r → Err r ≡ number_call ts L R values
  unfolding number_call counted
  call_refused e = sym (ap (λ (t : Tested). counted t (class_number (pair_classes ts L R) values)) e)

  pub call_answered : number_tests ts L R values ≡ Ok tt → {number : ℕ} → number ≡ class_number (pair_classes ts L R) values → Ok number ≡ number_call ts L R values
  unfolding number_call counted
  call_answered e same = ap Ok same ∙ sym (ap (λ (t : Tested). counted t (class_number (pair_classes ts L R) values)) e)
