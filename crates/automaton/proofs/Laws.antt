-- Output and next say exactly what document 01 says of them, and the traces of a state follow from them.
use Prim.Native.Nat.{ℕ, zero, suc, ◌^◌, ◌<◌, suc-le-suc}
use mathlib.Core.Bool.{true, cond}
use mathlib.Core.List.{List, [], ◌∷◌, ◌++◌}
use mathlib.Core.Logic.{◌↔◌}
use mathlib.Core.Path.{◌≡◌, refl, sym, ap, ◌∙◌, subst}
use native.Mathlib.Nat.{zero-lt-suc}
use native.Mathlib.Decide.{dec_lt}
use native.Mathlib.Omega.{arith}
use lib.Pow.{pow_pos}
use lib.Dec.{T, lit<}
use Rattle.packet.specs.Sizes.{product}
use Rattle.policy.specs.Legality.{InFields, occurrences}
use Rattle.policy.specs.Meaning.{Packets, numbered, Traces}
use Rattle.policy.specs.Tests.{negates_tests}
use Rattle.policy.specs.Tree.{Policy, drop}
use Rattle.policy.specs.Visits.{labels, HasDup}
use Rattle.policy.proofs.TraceLaws.{traces_non_empty}
use Rattle.packet_set.specs.Bits.{bit, mask_of}
use Rattle.packet_set.proofs.Digits.{bit_high, bits_same, bit_of_zero}
use Rattle.packet_set.proofs.Masks.{mask_of_lt, bit_mask_of}
use Rattle.automaton.specs.Remainder.{remainder, Evaluable}
use Rattle.automaton.specs.Reaches.{Passes, Reaches}
use Rattle.automaton.specs.State.{Marks, PacketSet, single, flow, enter, of_marked, output_set, entered_set, output, next, output_mask, next_mask, StateTraces, runs, has_trace}
use Rattle.automaton.proofs.Tests.{T_false}
use Rattle.automaton.proofs.RightSpines.{remainder_fields, remainder_listed, remainder_negates}
use Rattle.automaton.proofs.Fundamental.{reached_has, remainder_iff}
use Rattle.automaton.proofs.Sets.{Fits, below, empty, empty_fits, cond_fits, cond_iff, single_fits, single_iff, union_over_fits, union_over_iff}
use Rattle.automaton.proofs.Flow.{From, flow_fits, enter_fits, flow_iff, enter_iff}

-- a trace has a last packet
pub split_last : (δ : ℕ) (t : List ℕ) → (w : List ℕ) × (ε : ℕ) × (δ ∷ t ≡ w ++ (ε ∷ []))
split_last δ [] = ([], δ, refl)
split_last δ (c ∷ t) = let r = split_last c t in (δ ∷ r.0, r.1, ap (λ x. δ ∷ x) r.2)

module _ (sizes : List ℕ) (dups : ℕ) (p : Policy) (ok : Evaluable sizes dups p) where
  abbrev P : Packets
  P = numbered sizes

  fields : (j : ℕ) → InFields sizes (remainder p j)
  fields j = remainder_fields sizes p ok.in_fields j

  negates : (j : ℕ) → negates_tests (remainder p j) ≡ true
  negates j = remainder_negates p ok.negates j

  -- ---- the union over the marked remainders

  marked_fits : (marks : Marks) (set : Policy → PacketSet) → Fits sizes (of_marked sizes p marks set)
  unfolding of_marked
  marked_fits marks set = union_over_fits sizes (λ i. cond (marks i) (set (remainder p i)) 0) (0 ∷ labels p)

  marked_iff : (marks : Marks) (set : Policy → PacketSet) → ((r : Policy) → Fits sizes (set r)) → (γ : ℕ)
      → T (bit (of_marked sizes p marks set) γ) ↔ ((j : ℕ) × (0 < occurrences j (0 ∷ labels p)) × T (marks j) × T (bit (set (remainder p j)) γ))
  unfolding of_marked
  marked_iff marks set fits γ =
      let e = union_over_iff sizes (λ i. cond (marks i) (set (remainder p i)) 0) (λ i. cond_fits sizes (marks i) (set (remainder p i)) (fits (remainder p i))) (0 ∷ labels p) γ in (
        λ t. let h = e.0 t in
            let c = (cond_iff sizes (marks h.0) (set (remainder p h.0)) γ).0 h.2 in
            (h.0, h.1, c.0, c.1),
        λ h. e.1 (h.0, h.1, (cond_iff sizes (marks h.0) (set (remainder p h.0)) γ).1 (h.2, h.3)),
      )

  module _ (marks : Marks) (β : ℕ) where
    -- sets that hold what a relation R of each remainder leads to from β
    related_iff : (set : Policy → PacketSet) (R : Policy → ℕ → ℕ → Type 0) → ((r : Policy) → Fits sizes (set r)) → (γ : ℕ)
        → ((j : ℕ) → T (bit (set (remainder p j)) γ) ↔ From sizes (single sizes β) (R (remainder p j)) γ) → (R drop β γ → ⊥)
        → T (bit (of_marked sizes p marks set) γ) ↔ ((β < product sizes) × ((j : ℕ) × T (marks j) × R (remainder p j) β γ))
    related_iff set R fits γ exact n =
        let e = marked_iff marks set fits γ in (
          λ t. let h = e.0 t in
              let r = (exact h.0).0 h.3 in
              let s = (single_iff sizes β r.0).0 r.1 in
              (s.0, (h.0, h.2, subst (λ α. R (remainder p h.0) α γ) s.1 r.2)),
          λ h. let j = h.1.0 in
              let r = h.1.2 in
              e.1 (j, remainder_listed (λ x. R x β γ) n p j r, h.1.1, (exact j).1 (β, (single_iff sizes β β).1 (h.0, refl), r)),
        )

    -- ---- output and next at any packet

    output_exact : (γ : ℕ) → T (output sizes p marks β γ) ↔ ((β < product sizes) × StateTraces sizes p marks β (γ ∷ []))
    unfolding output output_set StateTraces Passes Traces
    output_exact γ =
        let X = single sizes β in
        let h = single_fits sizes β in
        related_iff (λ r. flow sizes r X) (Passes P) (λ r. flow_fits sizes r X h) γ (λ j. flow_iff sizes (remainder p j) (fields j) (negates j) X h γ) (λ t. t)

    next_exact : (γ i : ℕ) → T (next sizes p marks β γ i) ↔ ((β < product sizes) × ((j : ℕ) × T (marks j) × Reaches P (remainder p j) i β γ))
    unfolding next entered_set Reaches
    next_exact γ i =
        let X = single sizes β in
        let h = single_fits sizes β in
        related_iff (λ r. enter sizes r X i) (λ r. Reaches P r i) (λ r. enter_fits sizes r X h i) γ
        (λ j. enter_iff sizes (remainder p j) (fields j) (negates j) X h i γ) (λ t. t)

    -- the next state marks dups of the policy alone
    pub next_marks_dups : (γ i : ℕ) → T (next sizes p marks β γ i) → HasDup p i
    next_marks_dups γ i t = let h = ((next_exact γ i).0 t).1 in reached_has P p ok.labelled h.0 β γ i h.2

    -- packets at which something is marked next are below N
    pub next_below : (γ i : ℕ) → T (next sizes p marks β γ i) → γ < product sizes
    unfolding next entered_set
    next_below γ i t = below sizes (entered_set sizes p marks β i) (marked_fits marks (λ r. enter sizes r (single sizes β) i)) γ t

    more_exact : (γ : ℕ) (w : List ℕ) (ε : ℕ)
        → ((β < product sizes) × StateTraces sizes p marks β (γ ∷ (w ++ (ε ∷ [])))) ↔ StateTraces sizes p (next sizes p marks β γ) γ (w ++ (ε ∷ []))
    unfolding StateTraces
    more_exact γ w ε = (
      λ h. let r = (remainder_iff P p ok.labelled h.1.0 β γ w ε).0 h.1.2 in
          (r.0, (next_exact γ r.0).1 (h.0, (h.1.0, h.1.1, r.1)), r.2),
      λ h. let n = (next_exact γ h.0).0 h.1 in
          (n.0, (n.1.0, n.1.1, (remainder_iff P p ok.labelled n.1.0 β γ w ε).1 (h.0, n.1.2, h.2))),
    )

    tail_exact : (γ δ : ℕ) (t : List ℕ)
        → ((β < product sizes) × StateTraces sizes p marks β (γ ∷ δ ∷ t)) ↔ StateTraces sizes p (next sizes p marks β γ) γ (δ ∷ t)
    tail_exact γ δ t =
        let s = split_last δ t in
        subst (λ x. ((β < product sizes) × StateTraces sizes p marks β (γ ∷ x)) ↔ StateTraces sizes p (next sizes p marks β γ) γ x) (sym s.2)
        (more_exact γ s.0 s.1)

    -- nothing marked: no output, nothing marked next
    pub dead_output : ((i : ℕ) → T (marks i) → ⊥) → (γ : ℕ) → T (output sizes p marks β γ) → ⊥
    unfolding StateTraces
    dead_output n γ t = let h = (output_exact γ).0 t in n h.1.0 h.1.1

    pub dead_next : ((i : ℕ) → T (marks i) → ⊥) → (γ i : ℕ) → T (next sizes p marks β γ i) → ⊥
    dead_next n γ i t = let h = (next_exact γ i).0 t in n h.1.0 h.1.1

    -- ---- at a packet below N
    module _ (inside : β < product sizes) where
      -- γ is in the output exactly when [γ] is a trace of some marked remainder
      pub output_iff : (γ : ℕ) → T (output sizes p marks β γ) ↔ StateTraces sizes p marks β (γ ∷ [])
      output_iff γ = (λ t. ((output_exact γ).0 t).1, λ h. (output_exact γ).1 (inside, h))

      -- bit i of next at γ is set exactly when some marked remainder reaches dup i with γ before any other dup
      pub next_iff : (γ i : ℕ) → T (next sizes p marks β γ i) ↔ ((j : ℕ) × T (marks j) × Reaches P (remainder p j) i β γ)
      next_iff γ i = (λ t. ((next_exact γ i).0 t).1, λ h. (next_exact γ i).1 (inside, h))

      -- the fundamental theorem: a longer trace is one of the next state
      pub more_iff : (γ δ : ℕ) (t : List ℕ) → StateTraces sizes p marks β (γ ∷ δ ∷ t) ↔ StateTraces sizes p (next sizes p marks β γ) γ (δ ∷ t)
      more_iff γ δ t = let e = tail_exact γ δ t in (λ h. e.0 (inside, h), λ h. (e.1 h).1)

  -- a state has no empty trace
  pub state_not_empty : (marks : Marks) (β : ℕ) → StateTraces sizes p marks β [] → ⊥
  unfolding StateTraces
  state_not_empty marks β h = traces_non_empty P (remainder p h.0) β h.2

  -- a state that marks more has more traces
  pub state_map : (m m' : Marks) → ((i : ℕ) → T (m i) → T (m' i)) → (β : ℕ) (t : List ℕ) → StateTraces sizes p m β t → StateTraces sizes p m' β t
  unfolding StateTraces
  state_map m m' f β t h = (h.0, f h.0 h.1, h.2)

  -- ---- states as masks

  -- masks stay within the bits 0 to dups
  pub next_mask_lt : (m β γ : ℕ) → next_mask sizes p dups m β γ < 2 ^ suc dups
  unfolding next_mask
  next_mask_lt m β γ = mask_of_lt (suc dups) (next sizes p (bit m) β γ)

  pub next_mask_bit : (m β γ i : ℕ) → bit (next_mask sizes p dups m β γ) i ≡ next sizes p (bit m) β γ i
  unfolding next_mask
  next_mask_bit m β γ i = go (dec_lt i (suc dups))
    where
      go : Dec (i < suc dups) → bit (mask_of (suc dups) (next sizes p (bit m) β γ)) i ≡ next sizes p (bit m) β γ i
      go (yes l) = bit_mask_of (suc dups) (next sizes p (bit m) β γ) i l
      go (no n) =
          bit_high (suc dups) (next_mask sizes p dups m β γ) i (next_mask_lt m β γ) (omega arith)
          ∙ sym (T_false (next sizes p (bit m) β γ i) (λ t. n (suc-le-suc (ok.labelled.most i (next_marks_dups (bit m) β γ i t)))))

  pub output_mask_bit : (m β γ : ℕ) → bit (output_mask sizes p m β) γ ≡ output sizes p (bit m) β γ
  unfolding output_mask output
  output_mask_bit m β γ = refl

  pub output_mask_fits : (m β : ℕ) → output_mask sizes p m β < 2 ^ product sizes
  unfolding output_mask output_set
  output_mask_fits m β = marked_fits (bit m) (λ r. flow sizes r (single sizes β))

  -- the empty state stays empty and has no output
  pub dead_next_mask : (β γ : ℕ) → next_mask sizes p dups 0 β γ ≡ 0
  dead_next_mask β γ =
      bits_same (suc dups) (next_mask sizes p dups 0 β γ) 0 (next_mask_lt 0 β γ) (pow_pos (suc dups))
      (λ i l. next_mask_bit 0 β γ i ∙ T_false (next sizes p (bit 0) β γ i) (dead_next (bit 0) β (empty sizes) γ i) ∙ sym (bit_of_zero i))

  pub dead_output_mask : (β : ℕ) → output_mask sizes p 0 β ≡ 0
  dead_output_mask β =
      bits_same (product sizes) (output_mask sizes p 0 β) 0 (output_mask_fits 0 β) (empty_fits sizes)
      (λ γ l. output_mask_bit 0 β γ ∙ T_false (output sizes p (bit 0) β γ) (dead_output (bit 0) β (empty sizes) γ) ∙ sym (bit_of_zero γ))

  pub output_mask_iff : (m β : ℕ) → β < product sizes → (γ : ℕ) → T (bit (output_mask sizes p m β) γ) ↔ StateTraces sizes p (bit m) β (γ ∷ [])
  unfolding output_mask output
  output_mask_iff m β l γ = output_iff (bit m) β l γ

  mask_exact : (m β γ δ : ℕ) (t : List ℕ)
      → ((β < product sizes) × StateTraces sizes p (bit m) β (γ ∷ δ ∷ t)) ↔ StateTraces sizes p (bit (next_mask sizes p dups m β γ)) γ (δ ∷ t)
  mask_exact m β γ δ t =
      let e = tail_exact (bit m) β γ δ t in (
        λ h. state_map (next sizes p (bit m) β γ) (bit (next_mask sizes p dups m β γ)) (λ i. subst T (sym (next_mask_bit m β γ i))) γ (δ ∷ t) (e.0 h),
        λ h. e.1 (state_map (bit (next_mask sizes p dups m β γ)) (next sizes p (bit m) β γ) (λ i. subst T (next_mask_bit m β γ i)) γ (δ ∷ t) h),
      )

  pub next_mask_iff : (m β : ℕ) → β < product sizes → (γ δ : ℕ) (t : List ℕ)
      → StateTraces sizes p (bit m) β (γ ∷ δ ∷ t) ↔ StateTraces sizes p (bit (next_mask sizes p dups m β γ)) γ (δ ∷ t)
  next_mask_iff m β l γ δ t = let e = mask_exact m β γ δ t in (λ h. e.0 (l, h), λ h. (e.1 h).1)

  -- state 1 is within the bits 0 to dups
  pub whole_lt : 1 < 2 ^ suc dups
  whole_lt = omega (arith, pow_pos dups)

  -- state 1, where only the whole policy is marked, has the policy's traces
  pub whole_iff : (β : ℕ) (t : List ℕ) → StateTraces sizes p (bit 1) β t ↔ Traces P p β t
  unfolding StateTraces remainder bit
  whole_iff β t = (λ h. there h.0 h.1 h.2, λ h. (0, tt, h))
    where
      there : (i : ℕ) → T (bit 1 i) → Traces P (remainder p i) β t → Traces P p β t
      there zero m h = h
      there (suc i) m h = absurd (subst T (bit_high 1 1 (suc i) (lit< tt) (zero-lt-suc i)) m)

  -- a packet from which a next state has a trace is below N
  next_inside : (m β γ : ℕ) (t : List ℕ) → StateTraces sizes p (bit (next_mask sizes p dups m β γ)) γ t → γ < product sizes
  unfolding StateTraces
  next_inside m β γ t h = next_below (bit m) β γ h.0 (subst T (next_mask_bit m β γ h.0) h.1)

  -- ---- the run of a trace

  pub runs_iff : (t : List ℕ) (m β : ℕ) → T (runs sizes p dups m β t) ↔ ((β < product sizes) × StateTraces sizes p (bit m) β t)
  unfolding runs output_mask output
  runs_iff [] m β = (λ h. absurd h, λ h. absurd (state_not_empty (bit m) β h.1))
  runs_iff (γ ∷ []) m β = output_exact (bit m) β γ
  runs_iff (γ ∷ δ ∷ t) m β =
      let ih = runs_iff (δ ∷ t) (next_mask sizes p dups m β γ) γ in
      let e = mask_exact m β γ δ t in
      (λ h. e.1 (ih.0 h).1, λ h. ih.1 (next_inside m β γ (δ ∷ t) (e.0 h), e.0 h))

  -- exactly the policy's traces
  pub has_trace_iff : (β : ℕ) → β < product sizes → (t : List ℕ) → T (has_trace sizes p dups β t) ↔ Traces P p β t
  unfolding has_trace
  has_trace_iff β l t =
      let e = runs_iff t 1 β in
      let k = whole_iff β t in
      (λ h. k.0 (e.0 h).1, λ h. e.1 (l, k.1 h))
