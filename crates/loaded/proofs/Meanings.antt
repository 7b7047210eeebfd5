-- What a policy made of tests alone means, and what passes the first part of a sequence.
use Prim.Native.Nat.{ℕ}
use mathlib.Core.Bool.{true, true≢false}
use mathlib.Core.List.{List, [], ◌∷◌, ◌++◌}
use mathlib.Core.Logic.{◌⊎◌, inl, inr}
use mathlib.Core.Path.{◌≡◌, sym}
use native.Mathlib.Nat.{not-suc-le-zero}
use lib.Dec.{T}
use Rattle.packet.proofs.Tests.{and_true}
use Rattle.policy.specs.Legality.{occurrences}
use Rattle.policy.specs.Meaning.{numbered, Traces}
use Rattle.policy.specs.Tree.{Policy, drop, id, field, dup, sum, seq, star, neg}
use Rattle.policy.specs.Visits.{labels, HasDup}
use Rattle.policy.proofs.LabelLaws.{has_either}
use Rattle.policy.proofs.TestLaws.{test_traces}
use Rattle.automaton.specs.Reaches.{Passes, Reaches}
use Rattle.policy.specs.Tests.{passes, is_test}

neither : {A B : Type 0} → (A → ⊥) → (B → ⊥) → A ⊎ B → ⊥
neither f g (inl a) = f a
neither f g (inr b) = g b

module _ (sizes : List ℕ) where
  -- tests reach no dup
  test_reaches : (p : Policy) → is_test p ≡ true → (i α γ : ℕ) → Reaches (numbered sizes) p i α γ → ⊥
  unfolding Reaches is_test
  test_reaches drop h i α γ r = r
  test_reaches id h i α γ r = r
  test_reaches (field a) h i α γ r = r
  test_reaches (dup j) h i α γ r = true≢false (sym h)
  test_reaches (sum p q) h i α γ r =
      let k = and_true (is_test p) (is_test q) h in neither (test_reaches p k.0 i α γ) (test_reaches q k.1 i α γ) r
  test_reaches (seq p q) h i α γ r =
      let k = and_true (is_test p) (is_test q) h in none (test_reaches p k.0 i α γ) (λ μ. test_reaches q k.1 i μ γ) r
    where
      none : (Reaches (numbered sizes) p i α γ → ⊥) → ((μ : ℕ) → Reaches (numbered sizes) q i μ γ → ⊥) → Reaches (numbered sizes) p i α γ ⊎ ((μ : ℕ) × Passes (numbered sizes) p α μ × Reaches (numbered sizes) q i μ γ) → ⊥
      none f g (inl a) = f a
      none f g (inr b) = g b.0 b.2
  test_reaches (star p) h i α γ r = true≢false (sym h)
  test_reaches (neg p) h i α γ r = r

  -- a trace, or a dup that is reached, from a packet
  pub data Alive (p : Policy) (α : ℕ) : Type 0 where
    has_trace : (t : List ℕ) → Traces (numbered sizes) p α t → Alive p α
    has_dup : (i γ : ℕ) → Reaches (numbered sizes) p i α γ → Alive p α

  -- a sequence needs its first part
  pub first_alive : (p q : Policy) (α : ℕ) → Alive (seq p q) α → Alive p α
  unfolding Traces Reaches Passes
  first_alive p q α (has_trace t r) = has_trace (r.a ++ (r.β ∷ [])) r.first
  first_alive p q α (has_dup i γ r) = go r
    where
      go : Reaches (numbered sizes) p i α γ ⊎ ((μ : ℕ) × Passes (numbered sizes) p α μ × Reaches (numbered sizes) q i μ γ) → Alive p α
      go (inl a) = has_dup i γ a
      go (inr b) = has_trace (b.0 ∷ []) b.1

  pub test_alive : (p : Policy) → is_test p ≡ true → (α : ℕ) → Alive p α → T (passes (numbered sizes) p α)
  test_alive p h α (has_trace t r) = ((test_traces (numbered sizes) p h α t).0 r).0
  test_alive p h α (has_dup i γ r) = absurd (test_reaches p h i α γ r)

-- tests have no dup
pub test_dupless : (p : Policy) → is_test p ≡ true → (i : ℕ) → HasDup p i → ⊥
unfolding labels occurrences is_test
test_dupless drop h i d = not-suc-le-zero d
test_dupless id h i d = not-suc-le-zero d
test_dupless (field a) h i d = not-suc-le-zero d
test_dupless (dup j) h i d = true≢false (sym h)
test_dupless (sum p q) h i d =
    let k = and_true (is_test p) (is_test q) h in neither (test_dupless p k.0 i) (test_dupless q k.1 i) ((has_either p q i).0 d)
test_dupless (seq p q) h i d =
    let k = and_true (is_test p) (is_test q) h in neither (test_dupless p k.0 i) (test_dupless q k.1 i) ((has_either p q i).0 d)
test_dupless (star p) h i d = true≢false (sym h)
test_dupless (neg p) h i d = test_dupless p h i d
