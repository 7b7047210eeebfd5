-- The marked remainders of a state one after another, over the lists.
use Prim.Native.Nat.{ℕ, ◌+◌, ◌-◌, ◌*◌, ◌/◌, ◌%◌, ◌^◌, ◌≤◌, ◌<◌}
use mathlib.Core.Bool.{true, false}
use mathlib.Core.List.{List}
use mathlib.Core.Path.{◌≡◌, sym, ap, ◌∙◌, subst}
use native.Mathlib.Decide.{dec_lt}
use native.Mathlib.Numerals.{add-one}
use native.Mathlib.Omega.{arith}
use lib.Dec.{T}
use lib.ListN.{length, get_or}
use lib.Seq.{ext_get_or}
use Rattle.policy.specs.NodeLists.{NodeLists, node_count, dups_below}
use Rattle.packet_set.specs.Bits.{mask_bits, bit}
use Rattle.packet_set.specs.InnerMembers.{member}
use Rattle.packet_set.proofs.Digits.{bit_of_zero, bit_shift}
use Rattle.automaton.proofs.Tests.{true_T}
use Rattle.spans.specs.Spans.{slot, has_mark, Spanned, Unseen}
use Rattle.spans.proofs.Sets.{slot_word, slot_beyond}
use Rattle.engine.specs.Going.{Recorded}
use Rattle.engine.specs.Stepping.{Steps, Stands, RemainderStepped, Visited, StepReady, Stepped}
use Rattle.engine.proofs.Steps.{steps_start, steps_idle, steps_output, steps_marks}
use Rattle.engine.proofs.Records.{arrays, records_none, records_then}
use Rattle.engine.proofs.Leaving.{long_still}

-- slots whose words are 0 are empty
slots_clear : (work : List ℕ) → ((i : ℕ) → i < 16384 → get_or work i 0 ≡ 0) → (m γ : ℕ) → m < 512 → slot work m γ ≡ false
slots_clear work zeros m γ l = go (dec_lt γ 1024)
  where
    go : Dec (γ < 1024) → slot work m γ ≡ false
    go (yes k) = slot_word work m γ k ∙ ap (λ w. bit w (γ % 32)) (zeros (32 * m + γ / 32) (omega arith)) ∙ bit_of_zero (γ % 32)
    go (no k) = slot_beyond work m γ (omega arith)

-- ---- the marks of a state

-- no mark from i on
pub none_from : (state i : ℕ) → state / 2 ^ i ≡ 0 → (j : ℕ) → i ≤ j → bit state j ≡ false
none_from state i e j a =
    let q : j ≡ i + (j - i) = omega arith in
    ap (bit state) q ∙ sym (bit_shift state i (j - i)) ∙ ap (λ x. bit x (j - i)) e ∙ bit_of_zero (j - i)

module _ {sizes nodes tests : List ℕ} {state i β : ℕ} {out work seen next : List ℕ} {f t : ℕ} where
  -- remainder i is not marked
  pub visited_not : Spanned f t out → bit state i ≡ false → Visited sizes nodes tests state i β out work seen next f t out work seen next
  visited_not s e = record { spanned = s; recorded = records_none; visited = λ L st R₀ D₀ steps. steps_idle st.loaded st.legal steps (λ m. absurd (subst T e m)) }

  -- it is, and has been followed
  pub visited_marked : {out' work' seen' next' : List ℕ} → bit state i ≡ true → RemainderStepped sizes nodes tests i β out work seen next f t out' work' seen' next'
      → Visited sizes nodes tests state i β out work seen next f t out' work' seen' next'
  visited_marked e fo = record { spanned = fo.spanned; recorded = fo.recorded; visited = λ L st R₀ D₀ steps. fo.followed L st R₀ D₀ (bit state) steps (true_T e) }

-- the remainders below i have been stepped
pub record StepsLists (sizes nodes tests : List ℕ) (state β : ℕ) (out₀ work₀ seen₀ next₀ out work seen next : List ℕ) (f t i : ℕ) : Type 0 where
  pub few : i ≤ mask_bits
  pub spanned : Spanned f t out
  pub long : (length seen ≡ 16) × (length next ≡ 1056)
  pub recorded : Recorded sizes work₀ seen₀ next₀ work seen next
  pub steps : (L : NodeLists) → Stands sizes L nodes tests β → Steps sizes L nodes tests (member out₀) (has_mark next₀) (bit state) β i (slot work) (has_mark next) (member out)

module _ {sizes nodes tests : List ℕ} {state β : ℕ} {out₀ work₀ seen₀ next₀ : List ℕ} where
  pub step_start : {f t : ℕ} → StepReady sizes nodes tests β f t out₀ work₀ next₀ → length seen₀ ≡ 16 → StepsLists sizes nodes tests state β out₀ work₀ seen₀ next₀ out₀ work₀ seen₀ next₀ f t 0
  step_start rd l =
      record {
        few = omega arith;
        spanned = rd.spanned;
        long = (l, rd.marks_long);
        recorded = records_none;
        steps = λ L st. steps_start st.loaded st.legal (slot work₀) (λ m α k. slots_clear work₀ rd.zero m α (let h = st.legal.well_formed.few in omega arith));
      }

  module _ {out work seen next : List ℕ} {f t from : ℕ} (sl : StepsLists sizes nodes tests state β out₀ work₀ seen₀ next₀ out work seen next f t from) where
    pub step_more : {f' t' : ℕ} {out' work' seen' next' : List ℕ} → from < mask_bits → Visited sizes nodes tests state from β out work seen next f' t' out' work' seen' next'
        → StepsLists sizes nodes tests state β out₀ work₀ seen₀ next₀ out' work' seen' next' f' t' (from + 1)
    step_more {out' = out'} {work'} {seen'} {next'} l vi =
        record {
          few = omega arith;
          spanned = vi.spanned;
          long = arrays vi.recorded sl.long;
          recorded = records_then sl.recorded vi.recorded;
          steps = λ L st. subst (λ j. Steps sizes L nodes tests (member out₀) (has_mark next₀) (bit state) β j (slot work') (has_mark next') (member out')) (sym (add-one from))
              (vi.visited L st (member out₀) (has_mark next₀) (sl.steps L st));
        }

    module _ (none : (j : ℕ) → from ≤ j → j < mask_bits → bit state j ≡ false) where
      all : (L : NodeLists) → Stands sizes L nodes tests β → (j : ℕ) → j ≤ dups_below L (node_count L) → T (bit state j) → j < from
      all L st j l m = go (dec_lt j from)
        where
          go : Dec (j < from) → j < from
          go (yes h) = h
          go (no h) = absurd (subst T (none j (omega arith) (let d = st.legal.well_formed.dups in omega arith)) m)

      pub step_end : {f₀ t₀ : ℕ} → StepReady sizes nodes tests β f₀ t₀ out₀ work₀ next₀ → {work' : List ℕ} → Unseen work work' → length work' ≡ length work
          → Stepped sizes nodes tests state β out₀ next₀ work₀ f t out next work'
      step_end rd {work'} un q =
          record {
            output = λ L st. record { spanned = sl.spanned; members = steps_output st.loaded st.legal state st.packet (sl.steps L st) (all L st) };
            marks = λ L st. steps_marks st.loaded st.legal state st.packet (sl.steps L st) (all L st);
            touching = sl.recorded.touching;
            touching_below = sl.recorded.touching_below;
            marks_long = sl.recorded.next_long;
            kept = ext_get_or 0 work' work₀ (q ∙ sl.recorded.work_long) (λ i l. word i (dec_lt i 16384));
          }
        where
          word : (i : ℕ) → Dec (i < 16384) → get_or work' i 0 ≡ get_or work₀ i 0
          word i (yes l) = un.clear i l ∙ sym (rd.zero i l)
          word i (no l) = un.beyond i (omega arith) ∙ sl.recorded.beyond i (omega arith)

    pub unsee_asks : {f₀ t₀ : ℕ} → StepReady sizes nodes tests β f₀ t₀ out₀ work₀ next₀ → (16384 ≤ length work) × ((m γ : ℕ) → T (slot work m γ) → m < 512 → T (member seen m))
    unsee_asks rd = (long_still rd.long sl.recorded.work_long, sl.recorded.seeing (λ m γ h l. absurd (subst T (slots_clear work₀ rd.zero m γ l) h)))
