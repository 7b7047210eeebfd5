-- The trace checker's answer from its parts, in terms of Figure 1, and on the search's trace. Assumes nothing.
use Prim.Native.Nat.{ℕ, suc, ◌<◌, ◌≤◌, suc-le-suc}
use mathlib.Core.Bool.{Bool, true, false, true≢false}
use mathlib.Core.List.{List, [], ◌∷◌, map}
use mathlib.Core.Logic.{◌↔◌}
use mathlib.Core.Path.{◌≡◌, refl, sym, ap, ap₂, ◌∙◌, subst}
use native.Mathlib.Omega.{arith}
use lib.Dec.{T}
use lib.ListN.{length, get_or, replicate, get_or-replicate, length-replicate}
use Rattle.packet.specs.declared.Refusal.{Refusal}
use Rattle.packet.specs.Refusals.{Tested}
use Rattle.std.specs.Prelude.{Ok, Err}
use Rattle.packet.specs.Sizes.{product}
use Rattle.packet.specs.Packets.{Declared}
use Rattle.policy.specs.InnerEach.{Each}
use Rattle.policy.specs.Meaning.{declared, numbered, Traces}
use Rattle.policy.specs.Order.{pair_core, pair_tests}
use Rattle.classes.specs.Classing.{class_number, shown_packet, lifted}
use Rattle.classes.specs.Mentioned.{pair_classes}
use Rattle.classes.proofs.Pairs.{LegalPair, packet_declared, shown_traced, lifted_traced}
use Rattle.lent_lists.proofs.Testing.{side_named}
use Rattle.policy.specs.Legality.{Legal}
use Rattle.fields.specs.Tables.{Table, joint_sizes}
use Rattle.policy.specs.NodeLists.{NodeLists}
use Rattle.policy.proofs.EachLaws.{each_at}
use Rattle.policy.proofs.Numbered.{traces_below}
use Rattle.pair.specs.Sides.{Side, left, right, at, policies}
use Rattle.pair.specs.Pair.{SideTraces}
use Rattle.pair.specs.Search.{search_answer, different}
use Rattle.pair.specs.TraceCheck.{TraceAnswer, only, both, neither, has, answer_of, side_has, trace_answer}
use Rattle.pair.proofs.Lawful.{EvaluablePair, legal_pair}
use Rattle.pair.proofs.TraceCheck.{trace_iff, different_only, trace_empty}
use Rattle.pair.proofs.Verdicts.{different_tells}
use Rattle.lent_lists.specs.LentLists.{work_after}
use Rattle.traces.specs.declared.TraceChecked.{TraceChecked}
use Rattle.traces.specs.declared.TraceChecked.TheVariants.{Left, Right, Both, Neither, Refused as CheckRefused}
use Rattle.traces.specs.Checking.{packets_stage, checked_as, checked_unless, lists_tests, trace_tests, trace_call, CheckedTrace, FollowReady, Followed}
use Rattle.traces.proofs.Testing.{packets_inside, inside_packets, lent_passed, pair_lent, trace_refused, trace_tested, trace_passed}

-- ---- the cases of the call

answer_in : TraceChecked → TraceAnswer
answer_in Left = only left
answer_in Right = only right
answer_in Both = both
answer_in Neither = neither
answer_in (CheckRefused r) = neither

answer_in_lem : (a : TraceAnswer) → answer_in (checked_as a) ≡ a
unfolding checked_as answer_in
answer_in_lem (only left) = refl
answer_in_lem (only right) = refl
answer_in_lem both = refl
answer_in_lem neither = refl

is_refused : TraceChecked → Bool
is_refused Left = false
is_refused Right = false
is_refused Both = false
is_refused Neither = false
is_refused (CheckRefused r) = true

not_refused : (a : TraceAnswer) → is_refused (checked_as a) ≡ false
unfolding checked_as is_refused
not_refused (only left) = refl
not_refused (only right) = refl
not_refused both = refl
not_refused neither = refl

-- an answer is given where the tests pass
unless_answer : (t : Tested) (a b : TraceAnswer) → checked_unless t a ≡ checked_as b → (t ≡ Ok tt) × (a ≡ b)
unfolding checked_unless is_refused
unless_answer (Ok _) a b e = (refl, sym (answer_in_lem a) ∙ ap answer_in e ∙ answer_in_lem b)
unless_answer (Err r) a b e = absurd (true≢false (ap is_refused e ∙ not_refused b))

-- ---- of each

iff_sym : {A B : Type 0} → A ↔ B → B ↔ A
iff_sym h = (h.1, h.0)

iff_trans : {A B C : Type 0} → A ↔ B → B ↔ C → A ↔ C
iff_trans h k = (λ a. k.0 (h.0 a), λ c. h.1 (k.1 c))

all_each : (P : ℕ → Type 0) (xs : List ℕ) → ((i : ℕ) → i < length xs → P (get_or xs i 0)) → Each P xs
unfolding Each
all_each P [] h = tt
all_each P (x ∷ xs) h = (h 0 (omega arith), all_each P xs (λ i l. h (suc i) (suc-le-suc l)))

module _ (ts : List Table) (L R : NodeLists) where
  evaluable : (words : ℕ) → lists_tests ts L R words ≡ Ok tt → EvaluablePair (pair_core ts L R) (policies L R)
  evaluable words e = let h = lent_passed ts L R words e in legal_pair (pair_core ts L R) L R h.left_legal h.right_legal

  -- an answer says of each side whether Figure 1 gives it the trace
  answer_iff : (α : ℕ) (trace : List ℕ) (words : ℕ) (a : TraceAnswer) → trace_call ts L R α trace words ≡ checked_as a
      → (s : Side) → T (has s a) ↔ SideTraces (pair_core ts L R) (policies L R) s α trace
  unfolding trace_call
  answer_iff α trace words a e s =
      let g = unless_answer _ _ a e in
      let t = trace_passed ts L R words α trace g.0 in
      subst (λ (b : TraceAnswer). T (has s b) ↔ SideTraces (pair_core ts L R) (policies L R) s α trace) g.1
      (trace_iff (pair_core ts L R) (policies L R) (evaluable words t.0) s α (packets_inside _ _ _ t.1).0 trace)

  -- and the entering packet and the trace's are below N
  answer_inside : (α : ℕ) (trace : List ℕ) (words : ℕ) (a : TraceAnswer) → trace_call ts L R α trace words ≡ checked_as a
      → (α < product (pair_core ts L R)) × Each (λ β. β < product (pair_core ts L R)) trace
  unfolding trace_call
  answer_inside α trace words a e =
      let h = packets_inside _ _ _ (trace_passed ts L R words α trace (unless_answer _ _ a e).0).1 in
      (h.0, all_each (λ β. β < product (pair_core ts L R)) trace h.1)

  answer_pair : (α : ℕ) (trace : List ℕ) (words : ℕ) (a : TraceAnswer) → trace_call ts L R α trace words ≡ checked_as a → LegalPair ts L R
  unfolding trace_call
  answer_pair α trace words a e = (lent_passed ts L R words (trace_passed ts L R words α trace (unless_answer _ _ a e).0).0).pair

  -- the packet shown is a declared one
  pub answer_declared : (α : ℕ) (trace : List ℕ) (words : ℕ) (a : TraceAnswer) → trace_call ts L R α trace words ≡ checked_as a → Declared (joint_sizes ts) (shown_packet (pair_classes ts L R) α)
  answer_declared α trace words a e = packet_declared ts L R (answer_pair α trace words a e) α (answer_inside α trace words a e).0

  module _ (α : ℕ) (trace : List ℕ) (words : ℕ) (a : TraceAnswer) (e : trace_call ts L R α trace words ≡ checked_as a) (s : Side) where
    -- the same of declared packets
    pub answer_shown : T (has s a) ↔ Traces declared (at s (policies L R)).tree (shown_packet (pair_classes ts L R) α) (map (shown_packet (pair_classes ts L R)) trace)
    unfolding SideTraces
    answer_shown =
        let inside = answer_inside α trace words a e in
        let g = answer_pair α trace words a e in
        iff_trans (answer_iff α trace words a e s) (iff_sym (shown_traced ts L R g _ (side_named ts L R g s) trace inside.1 α inside.0))

    answer_lifted : (β : List ℕ) → Declared (joint_sizes ts) β → class_number (pair_classes ts L R) β ≡ α
        → T (has s a) ↔ Traces declared (at s (policies L R)).tree β (map (lifted (pair_classes ts L R) β) trace)
    unfolding SideTraces
    answer_lifted β d same =
        let inside = answer_inside α trace words a e in
        let g = answer_pair α trace words a e in
        iff_trans (answer_iff α trace words a e s)
        (iff_sym (subst (λ γ. Traces declared (at s (policies L R)).tree β (map (lifted (pair_classes ts L R) β) trace) ↔ Traces (numbered (pair_core ts L R)) (at s (policies L R)).tree γ trace) same (lifted_traced ts L R g _ (side_named ts L R g s) trace inside.1 β d)))

  -- a trace of length 0 is neither
  pub empty_neither : (α words : ℕ) → trace_tests ts L R α [] words ≡ Ok tt → trace_call ts L R α [] words ≡ Neither
  unfolding trace_call checked_unless checked_as
  empty_neither α words e = ap₂ checked_unless e (trace_empty (pair_core ts L R) (policies L R) α)

  -- ---- what following the trace asks, with a work list of so many words that is all 0

  module _ (α : ℕ) (trace : List ℕ) (words : ℕ) (e : lists_tests ts L R words ≡ Ok tt) {work : List ℕ} (w : work ≡ replicate words 0) (q : packets_stage (product (pair_core ts L R)) α trace ≡ Ok tt) {count : ℕ} (c : count ≡ product (pair_core ts L R))
      {sizes : List ℕ} (same : sizes ≡ pair_core ts L R) where
    ready : (M : NodeLists) → Legal (pair_core ts L R) M → FollowReady (pair_core ts L R) M count α trace work
    ready M legal =
        let lent = lent_passed ts L R words e in
        let inside = packets_inside _ _ _ q in
        record {
          legal_sizes = lent.legal_sizes;
          legal = legal;
          packets = c;
          entering = inside.0;
          inside = inside.1;
          long = subst (λ (n : ℕ). 16384 ≤ n) (sym (length-replicate words 0) ∙ ap length (sym w)) lent.long;
          zero = λ i h. ap (λ (v : List ℕ). get_or v i 0) w ∙ get_or-replicate words i 0 0 (enough i h lent.long);
        }
      where
        enough : (i : ℕ) → i < 16384 → 16384 ≤ words → i < words
        enough i h k = omega arith

    pub left_ready : FollowReady sizes L count α trace work
    left_ready = subst (λ (s : List ℕ). FollowReady s L count α trace work) (sym same) (ready L (lent_passed ts L R words e).left_legal)

    pub right_ready : FollowReady sizes R count α trace work
    right_ready = subst (λ (s : List ℕ). FollowReady s R count α trace work) (sym same) (ready R (lent_passed ts L R words e).right_legal)

  -- ---- the promise

  module _ (α : ℕ) (trace work : List ℕ) where
    checked : {answer : TraceChecked} {work' : List ℕ} → answer ≡ trace_call ts L R α trace (length work) → work' ≡ work_after (lists_tests ts L R (length work)) work
        → CheckedTrace ts L R α trace work answer work'
    checked e w =
        record {
          answers = e;
          work_list = w;
          shown_trace = λ a q s. answer_shown α trace (length work) a (sym e ∙ q) s;
          lifted_trace = λ a q s. answer_lifted α trace (length work) a (sym e ∙ q) s;
        }

    pub lent_refused : (r : Refusal) → lists_tests ts L R (length work) ≡ Err r → CheckedTrace ts L R α trace work (CheckRefused r) work
    unfolding trace_call checked_unless work_after
    lent_refused r e =
        checked
        (sym (ap (λ (t : Tested). checked_unless t (trace_answer (pair_core ts L R) (policies L R) α trace)) (trace_refused ts L R (length work) α trace r e)))
        (sym (ap (λ (t : Tested). work_after t work) e))

    module _ (e : lists_tests ts L R (length work) ≡ Ok tt) {work' : List ℕ} (w : work' ≡ replicate (length work) 0) where
      cleared : work' ≡ work_after (lists_tests ts L R (length work)) work
      unfolding work_after
      cleared = w ∙ sym (ap (λ (t : Tested). work_after t work) e)

      called : (t : Tested) → packets_stage (product (pair_core ts L R)) α trace ≡ t
          → checked_unless t (trace_answer (pair_core ts L R) (policies L R) α trace) ≡ trace_call ts L R α trace (length work)
      unfolding trace_call
      called t q = sym (ap (λ (u : Tested). checked_unless u (trace_answer (pair_core ts L R) (policies L R) α trace)) (trace_tested ts L R (length work) α trace e ∙ q))

      pub packet_refused : (r : Refusal) → packets_stage (product (pair_core ts L R)) α trace ≡ Err r → CheckedTrace ts L R α trace work (CheckRefused r) work'
      unfolding checked_unless
      packet_refused r q = checked (called (Err r) q) cleared

      pub answered : packets_stage (product (pair_core ts L R)) α trace ≡ Ok tt → {sizes : List ℕ} → sizes ≡ pair_core ts L R → {l r : Bool} {work₁ work₂ : List ℕ} → Followed sizes L α trace work' l work₁ → Followed sizes R α trace work₁ r work₂
          → (answer : TraceChecked) → answer ≡ checked_as (answer_of l r) → CheckedTrace ts L R α trace work answer work₂
      unfolding checked_unless trace_answer side_has at
      answered q same {l} {r} {work₁} {work₂} f' g' answer a =
          let f = subst (λ (s : List ℕ). Followed s L α trace work' l work₁) same f' in
          let g = subst (λ (s : List ℕ). Followed s R α trace work₁ r work₂) same g' in
          checked (a ∙ ap checked_as (ap₂ answer_of f.answers g.answers) ∙ called (Ok tt) q) (g.kept ∙ f.kept ∙ cleared)

  -- ---- the search's trace

  -- where the causes up to 10 let the call pass, a trace with which the search answers left is answered left, and right, right
  pub search_checked : (words : ℕ) → pair_tests ts L R ≡ Ok tt → 16384 ≤ words → (rows lent : ℕ) (s : Side) (α : ℕ) (trace : List ℕ)
      → search_answer (pair_core ts L R) (policies L R) rows lent ≡ different s α trace → trace_call ts L R α trace words ≡ checked_as (only s)
  unfolding trace_call checked_unless SideTraces
  search_checked words e h rows lent s α trace d =
      let passed = pair_lent ts L R words e h in
      let ok = evaluable words passed in
      let tells = different_tells (pair_core ts L R) (policies L R) ok rows lent s α trace d in
      ap₂ checked_unless
      (trace_tested ts L R words α trace passed
      ∙ inside_packets _ _ _ tells.enters (λ i l. each_at (λ γ. γ < product (pair_core ts L R)) trace 0 (omega (arith, tells.enters)) (traces_below (pair_core ts L R) (at s (policies L R)).tree (ok s).in_fields α tells.enters trace tells.has) i))
      (different_only (pair_core ts L R) (policies L R) ok rows lent s α trace d)
