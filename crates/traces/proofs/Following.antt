-- A loaded policy's state followed along a trace. Assumes nothing.
use Prim.Native.Nat.{ℕ, suc, ◌*◌, ◌<◌, ◌≤◌}
use mathlib.Core.Bool.{Bool, false}
use mathlib.Core.List.{List, [], ◌∷◌}
use mathlib.Core.Path.{◌≡◌, refl, sym, ap, ap₂, ◌∙◌, subst}
use native.Mathlib.Omega.{arith}
use lib.ListN.{length, get_or, drop, replicate}
use lib.Seq.{drop-cons, drop-length}
use Rattle.packet.specs.Sizes.{product}
use Rattle.policy.specs.NodeLists.{NodeLists, node_count, dups_below, policy_of}
use Rattle.policy.specs.Tree.{Policy}
use Rattle.packet_set.specs.Bits.{bit}
use Rattle.packet_set.specs.InnerMembers.{member, words_for, empty_set}
use Rattle.packet_set.proofs.Digits.{bit_of_zero}
use Rattle.automaton.specs.Remainder.{Evaluable}
use Rattle.automaton.specs.State.{runs, has_trace}
use Rattle.automaton.proofs.Laws.{dead_next_mask, dead_output_mask}
use Rattle.automaton.proofs.Trees.{policy_evaluable}
use Rattle.spans.proofs.Sets.{no_packet}
use Rattle.marks.specs.Marks.{Marking, Blank}
use Rattle.marks.proofs.Touched.{forget_asks, blank_new}
use Rattle.engine.specs.Stepping.{Stands, StepReady, Stepped}
use Rattle.engine.proofs.Answers.{step_marking, output_is, next_is}
use Rattle.traces.specs.Checking.{Followed, LoadedReady, LoadedFollowed}

-- a state 0 has no trace
dead_runs : (sizes : List ℕ) (dups : ℕ) (p : Policy) → Evaluable sizes dups p → (β : ℕ) (t : List ℕ) → runs sizes p dups 0 β t ≡ false
unfolding runs
dead_runs sizes dups p ok β [] = refl
dead_runs sizes dups p ok β (γ ∷ []) = ap (λ (m : ℕ). bit m γ) (dead_output_mask sizes dups p ok β) ∙ bit_of_zero γ
dead_runs sizes dups p ok β (γ ∷ δ ∷ t) = ap (λ (m : ℕ). runs sizes p dups m γ (δ ∷ t)) (dead_next_mask sizes dups p ok β γ) ∙ dead_runs sizes dups p ok γ (δ ∷ t)

-- a policy that stands at one packet stands at each
stands_at : {sizes nodes tests : List ℕ} {L : NodeLists} {α β : ℕ} → β < product sizes → Stands sizes L nodes tests α → Stands sizes L nodes tests β
stands_at h s = record { legal_sizes = s.legal_sizes; legal = s.legal; loaded = s.loaded; packet = h }

-- After the first i packets: of any policy that is loaded the rest of the trace from this state and packet decides, no mark is left, and
-- the work list is as it was.
pub record Following (sizes nodes tests : List ℕ) (α : ℕ) (trace work next : List ℕ) (state β : ℕ) (work' : List ℕ) (i : ℕ) : Type 0 where
  pub within : i ≤ length trace
  pub packet : β < product sizes
  pub blank : Blank next
  pub rest : (L : NodeLists) → Stands sizes L nodes tests α
      → runs sizes (policy_of L) (dups_below L (node_count L)) state β (drop i trace) ≡ has_trace sizes (policy_of L) (dups_below L (node_count L)) α trace
  pub kept : work' ≡ work

module _ {sizes nodes tests : List ℕ} {count α : ℕ} {trace work : List ℕ} (a : LoadedReady sizes nodes tests count α trace work) where
  enters : Stands sizes a.lists nodes tests α
  enters = record { legal_sizes = a.ready.legal_sizes; legal = a.ready.legal; loaded = a.loaded; packet = a.ready.entering }

  -- the policy that was loaded is one of those that the answer is for
  pub policy_followed : {answer : Bool} {work' : List ℕ} → LoadedFollowed sizes nodes tests α trace work answer work' → Followed sizes a.lists α trace work answer work'
  policy_followed f = record { answers = f.answers a.lists enters; kept = f.kept }

  count_small : count ≤ 1024
  count_small = let h = a.ready.packets in let k = a.ready.legal_sizes.small in omega arith

  pub following_none : Following sizes nodes tests α trace work (replicate 1056 0) 1 α work 0
  unfolding has_trace
  following_none = record { within = omega arith; packet = a.ready.entering; blank = blank_new; rest = λ L s. refl; kept = refl }

  module _ {next : List ℕ} {state β : ℕ} {work' : List ℕ} {i : ℕ} (f : Following sizes nodes tests α trace work next state β work' i) where
    pub step_ready : StepReady sizes nodes tests β 0 0 empty_set work' next
    step_ready =
        record {
          lists = a.lists;
          stands = stands_at f.packet enters;
          spanned = no_packet 0;
          long = subst (λ (w : List ℕ). 16384 ≤ length w) (sym f.kept) a.ready.long;
          marks_long = f.blank.long;
          zero = λ j h. ap (λ (w : List ℕ). get_or w j 0) f.kept ∙ a.ready.zero j h;
        }

    -- no packet is left: the trace is empty
    pub none_left : length trace ≤ i → LoadedFollowed sizes nodes tests α trace work false work'
    unfolding runs
    none_left h = record { answers = λ L s. sym (ap (runs sizes (policy_of L) (dups_below L (node_count L)) state β) ended) ∙ f.rest L s; kept = f.kept }
      where
        ended : drop i trace ≡ []
        ended = let w = f.within in let e : ◌≡◌ i (length trace) = omega arith in ap (λ (j : ℕ). drop j trace) e ∙ drop-length trace

    module _ (left_over : i < length trace) where
      abbrev γ : ℕ
      γ = get_or trace i 0

      packet_inside : get_or trace i 0 < product sizes
      packet_inside = a.ready.inside i left_over

      module _ {from to : ℕ} {out next' work₂ : List ℕ} (st : Stepped sizes nodes tests state β empty_set next work' from to out next' work₂) where
        -- what `forget` asks
        pub few_marked : {words : ℕ} → words ≡ words_for count → (words ≤ 32) × Marking (32 * words) next'
        few_marked w = forget_asks next' count_small w (rw a.ready.packets (step_marking f.blank st))

        -- the last packet: it is in the output or not
        pub last_packet : suc i ≡ length trace → (answer : Bool) → answer ≡ member out γ → LoadedFollowed sizes nodes tests α trace work answer work₂
        unfolding runs
        last_packet e answer m =
            record {
              answers = λ L s. m ∙ output_is f.blank st (stands_at f.packet s) γ ∙ sym (ap (runs sizes (policy_of L) (dups_below L (node_count L)) state β) alone) ∙ f.rest L s;
              kept = st.kept ∙ f.kept;
            }
          where
            alone : drop i trace ≡ γ ∷ []
            alone = drop-cons trace i 0 left_over ∙ ap (λ (t : List ℕ). γ ∷ t) (ap (λ (j : ℕ). drop j trace) e ∙ drop-length trace)

        -- a packet but the last: the state next there has the rest or not
        module _ (more : suc i ≡ length trace → ⊥) where
          onward : (L : NodeLists) → Stands sizes L nodes tests α
              → runs sizes (policy_of L) (dups_below L (node_count L)) (get_or next' γ 0) γ (drop (suc i) trace) ≡ has_trace sizes (policy_of L) (dups_below L (node_count L)) α trace
          unfolding runs
          onward L s =
              ap₂ (λ (m : ℕ) (t : List ℕ). runs sizes (policy_of L) (dups_below L (node_count L)) m γ t)
              (next_is f.blank st (stands_at f.packet s) γ packet_inside)
              rest_is
              ∙ sym (ap (runs sizes (policy_of L) (dups_below L (node_count L)) state β) (drop-cons trace i 0 left_over ∙ ap (λ (t : List ℕ). γ ∷ t) rest_is))
              ∙ f.rest L s
            where
              rest_is : drop (suc i) trace ≡ get_or trace (suc i) 0 ∷ drop (suc (suc i)) trace
              rest_is = drop-cons trace (suc i) 0 (omega arith)

          pub following_more : {next'' : List ℕ} → Blank next'' → Following sizes nodes tests α trace work next'' (get_or next' γ 0) γ work₂ (suc i)
          following_more b = record { within = left_over; packet = packet_inside; blank = b; rest = onward; kept = st.kept ∙ f.kept }

          -- nothing can follow
          pub dead_end : get_or next' γ 0 ≡ 0 → LoadedFollowed sizes nodes tests α trace work false work₂
          dead_end e =
              record {
                answers = λ L s.
                    sym
                    (ap (λ (m : ℕ). runs sizes (policy_of L) (dups_below L (node_count L)) m γ (drop (suc i) trace)) e
                    ∙ dead_runs sizes (dups_below L (node_count L)) (policy_of L) (policy_evaluable sizes L s.legal) γ (drop (suc i) trace))
                    ∙ onward L s;
                kept = st.kept ∙ f.kept;
              }
