-- A step from an empty set and an empty next list: what they hold then is the output and next. Assumes nothing.
use Prim.Native.Nat.{ℕ, ◌≤◌, ◌<◌}
use mathlib.Core.Bool.{false, ◌||◌, ◌&&◌}
use mathlib.Core.List.{List}
use mathlib.Core.Path.{◌≡◌, sym, ap, ◌∙◌, subst}
use native.Mathlib.Omega.{arith}
use lib.Dec.{T}
use lib.ListN.{get_or}
use borrow.Author.Tests.{lt-ltb}
use Rattle.packet.specs.Sizes.{product}
use Rattle.packet.proofs.Tests.{T_false}
use Rattle.policy.specs.NodeLists.{NodeLists, node_count, dups_below, policy_of}
use Rattle.packet_set.specs.Bits.{bit}
use Rattle.packet_set.specs.InnerMembers.{member, empty_set}
use Rattle.packet_set.proofs.Digits.{bit_high, same_bits, no_bits}
use Rattle.packet_set.proofs.Words.{member_empty}
use Rattle.automaton.specs.State.{output_mask, next_mask}
use Rattle.automaton.proofs.Laws.{output_mask_fits}
use Rattle.automaton.proofs.Trees.{policy_evaluable}
use Rattle.spans.specs.Spans.{has_mark, touched}
use Rattle.marks.specs.Marks.{Marking, Blank}
use Rattle.marks.proofs.Touched.{no_marks}
use Rattle.engine.specs.Stepping.{Stands, Stepped}

module _ {sizes nodes tests : List ℕ} {state β : ℕ} {next work : List ℕ} {f t : ℕ} {out next' work' : List ℕ} (bl : Blank next)
    (sp : Stepped sizes nodes tests state β empty_set next work f t out next' work') where
  -- all marks are touched, and what is touched is below N
  marks_touched : (i γ : ℕ) → T (has_mark next' i γ) → T (touched next' γ)
  marks_touched = sp.touching (λ i γ h. absurd (subst T (no_marks next bl.unmarked i γ) h))

  pub step_marking : Marking (product sizes) next'
  unfolding has_mark
  step_marking =
      record {
        rest = λ γ l e. no_bits (get_or next' γ 0) (λ i. T_false (bit (get_or next' γ 0) i) (λ h. subst T e (marks_touched i γ (subst (λ b. T (b && bit (get_or next' γ 0) i)) (sym (lt-ltb γ 1024 l)) h))));
        below = sp.touching_below (λ γ h. absurd (subst T (bl.unmarked.untouched γ) h));
      }

  module _ {M : NodeLists} (st : Stands sizes M nodes tests β) where
    pub output_is : (γ : ℕ) → member out γ ≡ bit (output_mask sizes (policy_of M) state β) γ
    output_is γ = (sp.output M st).members γ ∙ ap (λ b. b || bit (output_mask sizes (policy_of M) state β) γ) (member_empty γ)

    pub output_beyond : (γ : ℕ) → product sizes ≤ γ → member out γ ≡ false
    output_beyond γ h = output_is γ ∙ bit_high (product sizes) _ γ (output_mask_fits sizes (dups_below M (node_count M)) (policy_of M) (policy_evaluable sizes M st.legal) state β) h

    pub next_is : (γ : ℕ) → γ < product sizes → get_or next' γ 0 ≡ next_mask sizes (policy_of M) (dups_below M (node_count M)) state β γ
    unfolding has_mark
    next_is γ h = same_bits (get_or next' γ 0) (next_mask sizes (policy_of M) (dups_below M (node_count M)) state β γ) (λ i.
        sym (ap (λ b. b && bit (get_or next' γ 0) i) (lt-ltb γ 1024 (let s = st.legal_sizes.small in omega arith)))
        ∙ sp.marks M st i γ ∙ ap (λ b. b || bit (next_mask sizes (policy_of M) (dups_below M (node_count M)) state β γ) i) (no_marks next bl.unmarked i γ))
