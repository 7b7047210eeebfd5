-- Two policies that can be evaluated are a lawful system.
use Prim.Native.Nat.{ℕ, suc, ◌^◌, ◌<◌}
use mathlib.Core.Bool.{Bool, true, false, xor, not, beq}
use mathlib.Core.List.{List}
use mathlib.Core.Path.{◌≡◌, refl, sym, ◌∙◌, ap, ap₂, subst}
use mathlib.Core.Logic.{◌↔◌}
use lib.Dec.{ltb, eqb}
use borrow.Author.Tests.{eqb-true, eq-eqb, lt-ltb}
use Rattle.policy.specs.NodeLists.{NodeLists}
use Rattle.policy.specs.Legality.{Legal}
use Rattle.packet_set.specs.Bits.{bit, only_bits}
use Rattle.automaton.specs.Remainder.{Evaluable}
use Rattle.automaton.specs.State.{output_mask, next_mask}
use Rattle.packet_set.proofs.Digits.{bit_of_zero}
use Rattle.automaton.proofs.Laws.{next_mask_lt, dead_next_mask, dead_output_mask, whole_lt}
use Rattle.automaton.proofs.Trees.{policy_evaluable}
use Rattle.system.specs.System.{Lawful}
use Rattle.pair.specs.Sides.{Side, left, right, Pair, at, NumberedPolicy, policies}
use Rattle.pair.specs.Pair.{output_at, next_at, same_states, both_zero, in_one_output, bits_of_dups, pair_system}
use Rattle.pair.proofs.Sides.{at_each, on_both_true, true_on_both, same_pair}

-- both policies can be evaluated
abbrev pub EvaluablePair : List ℕ → Pair NumberedPolicy → Type 0
EvaluablePair sizes ps = (s : Side) → Evaluable sizes (at s ps).dups (at s ps).tree

-- legal lists can be
pub legal_pair : (sizes : List ℕ) (l r : NodeLists) → Legal sizes l → Legal sizes r → EvaluablePair sizes (policies l r)
unfolding at
legal_pair sizes l r a b left = policy_evaluable sizes l a
legal_pair sizes l r a b right = policy_evaluable sizes r b

xor_none : {a b : Bool} → a ≡ false → b ≡ false → xor a b ≡ false
unfolding xor
xor_none p q = ap₂ (λ a b. not (beq a b)) p q

pub zero_sides : (sizes : List ℕ) (ps : Pair NumberedPolicy) (m : Pair ℕ) → (both_zero sizes ps m ≡ true) ↔ ((s : Side) → at s m ≡ 0)
unfolding both_zero
zero_sides sizes ps m = (
  λ e s. eqb-true (at s m) 0 (on_both_true (λ s. eqb (at s m) 0) e s),
  λ f. true_on_both (λ s. eqb (at s m) 0) (λ s. eq-eqb (at s m) 0 (f s)),
)

module _ (sizes : List ℕ) (ps : Pair NumberedPolicy) (ok : EvaluablePair sizes ps) where
  -- a state 0 has no output and stays 0
  zero_output : (s : Side) (β : ℕ) (m : Pair ℕ) → at s m ≡ 0 → output_at sizes ps s β m ≡ 0
  unfolding output_at
  zero_output s β m e = ap (λ n. output_mask sizes (at s ps).tree n β) e ∙ dead_output_mask sizes (at s ps).dups (at s ps).tree (ok s) β

  zero_next : (s : Side) (β : ℕ) (m : Pair ℕ) (γ : ℕ) → at s m ≡ 0 → next_at sizes ps s β m γ ≡ 0
  unfolding next_at
  zero_next s β m γ e = ap (λ n. next_mask sizes (at s ps).tree (at s ps).dups n β γ) e ∙ dead_next_mask sizes (at s ps).dups (at s ps).tree (ok s) β γ

  next_fits : (s : Side) (β : ℕ) (m : Pair ℕ) (γ : ℕ) → ltb (next_at sizes ps s β m γ) (2 ^ suc (at s ps).dups) ≡ true
  unfolding next_at
  next_fits s β m γ = lt-ltb _ _ (next_mask_lt sizes (at s ps).dups (at s ps).tree (ok s) (at s m) β γ)

  pub lawful : Lawful (pair_system sizes ps)
  unfolding same_states both_zero in_one_output bits_of_dups only_bits
  lawful =
      record {
        same_refl = λ m. true_on_both _ (λ s. eq-eqb (at s m) (at s m) refl);
        same_eq = λ m n e. same_pair m n (λ s. eqb-true (at s m) (at s n) (on_both_true _ e s));
        dead_silent = λ β m γ h l d. xor_none (no_bit _ β m γ d) (no_bit _ β m γ d);
        dead_next =
            λ β m γ h l d.
            true_on_both _ (λ s. eq-eqb _ 0 (at_each (λ s. next_at sizes ps s β m γ) s ∙ zero_next s β m γ (zero m d s)));
        start_valid =
            true_on_both _ (λ s. lt-ltb _ _ (subst (λ n. n < 2 ^ suc (at s ps).dups) (sym (at_each (λ s. 1) s)) (whole_lt sizes (at s ps).dups (at s ps).tree (ok s))));
        next_valid =
            λ β m γ h l v.
            true_on_both _ (λ s. subst (λ n. ltb n (2 ^ suc (at s ps).dups) ≡ true) (sym (at_each (λ s. next_at sizes ps s β m γ) s)) (next_fits s β m γ));
      }
    where
      zero : (m : Pair ℕ) → both_zero sizes ps m ≡ true → (s : Side) → at s m ≡ 0
      zero m d = (zero_sides sizes ps m).0 d

      no_bit : (s : Side) (β : ℕ) (m : Pair ℕ) (γ : ℕ) → both_zero sizes ps m ≡ true → bit (output_at sizes ps s β m) γ ≡ false
      no_bit s β m γ d = ap (λ n. bit n γ) (zero_output s β m (zero m d s)) ∙ bit_of_zero γ
