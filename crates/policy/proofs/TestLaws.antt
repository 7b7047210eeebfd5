-- A policy made of tests alone has from each packet the trace of that packet or none.
use mathlib.Core.Bool.{Bool, true, false, not, ◌&&◌, ◌||◌}
use mathlib.Core.List.{[], ◌∷◌, ◌++◌}
use mathlib.Core.Logic.{◌⊎◌, inl, inr, ◌↔◌}
use mathlib.Core.Path.{◌≡◌, refl, ap, ap₂, ◌∙◌, subst}
use lib.Dec.{T}
use Rattle.packet.proofs.Tests.{and_true, clash, both, either}
use Rattle.policy.specs.declared.FieldAction.TheVariants.{Equals, Differs, Set}
use Rattle.policy.specs.Tree.{Policy, drop, id, field, dup, sum, seq, star, neg}
use Rattle.policy.specs.Tests.{is_test, negates_tests, passes}
use Rattle.policy.specs.Meaning.{Packets, TraceSet, ActionTraces, Seq, Drops, Traces}
use Rattle.policy.specs.NodesOfTree.{unlabelled}
use Rattle.policy.proofs.TraceLaws.{Trace, in_turn, snoc_injective}

-- in a test no negation stands over anything else
pub test_negates : (p : Policy) → is_test p ≡ true → negates_tests p ≡ true
unfolding is_test negates_tests
test_negates drop h = refl
test_negates id h = refl
test_negates (field a) h = refl
test_negates (dup i) h = refl
test_negates (sum p q) h = let k = and_true (is_test p) (is_test q) h in rw (test_negates p k.0, test_negates q k.1)
test_negates (seq p q) h = let k = and_true (is_test p) (is_test q) h in rw (test_negates p k.0, test_negates q k.1)
test_negates (star p) h = clash h refl
test_negates (neg p) h = h

pub test_unlabelled : (p : Policy) → is_test (unlabelled p) ≡ is_test p
unfolding is_test unlabelled
test_unlabelled drop = refl
test_unlabelled id = refl
test_unlabelled (field a) = refl
test_unlabelled (dup i) = refl
test_unlabelled (sum p q) = ap₂ ◌&&◌ (test_unlabelled p) (test_unlabelled q)
test_unlabelled (seq p q) = ap₂ ◌&&◌ (test_unlabelled p) (test_unlabelled q)
test_unlabelled (star p) = refl
test_unlabelled (neg p) = test_unlabelled p

not_holds : (b : Bool) → (T b → ⊥) → T (not b)
not_holds true f = f tt
not_holds false f = tt

not_held : (b : Bool) → T (not b) → T b → ⊥
not_held true h t = h
not_held false h t = t

module _ (P : Packets) where
  -- from a packet where the test b holds the packet itself is the one trace, from any other there is none
  abbrev Single : TraceSet P → (P.Packet → Bool) → Type 0
  Single A b = (α : P.Packet) (t : Trace P) → A α t ↔ (T (b α) × (t ≡ α ∷ []))

  single_sum : (A B : TraceSet P) (a b : P.Packet → Bool) → Single A a → Single B b → Single (λ α t. A α t ⊎ B α t) (λ α. a α || b α)
  single_sum A B a b f g α t = (to, λ r. from ((either (a α) (b α)).0 r.0) r.1)
    where
      to : A α t ⊎ B α t → T (a α || b α) × (t ≡ α ∷ [])
      to (inl h) = let r = (f α t).0 h in ((either (a α) (b α)).1 (inl r.0), r.1)
      to (inr h) = let r = (g α t).0 h in ((either (a α) (b α)).1 (inr r.0), r.1)

      from : T (a α) ⊎ T (b α) → t ≡ α ∷ [] → A α t ⊎ B α t
      from (inl h) e = inl ((f α t).1 (h, e))
      from (inr h) e = inr ((g α t).1 (h, e))

  single_seq : (A B : TraceSet P) (a b : P.Packet → Bool) → Single A a → Single B b → Single (Seq P A B) (λ α. a α && b α)
  single_seq A B a b f g α t = (to, from)
    where
      to : Seq P A B α t → T (a α && b α) × (t ≡ α ∷ [])
      to s =
          let h = (f α (s.a ++ (s.β ∷ []))).0 s.first in
          let k = (g s.β s.b).0 s.second in
          let last = snoc_injective s.a [] s.β α h.1 in (
            (both (a α) (b α)).1 (h.0, subst (λ (β : P.Packet). T (b β)) last.1 k.0),
            s.joined ∙ ap₂ ◌++◌ last.0 (k.1 ∙ ap (λ (β : P.Packet). β ∷ []) last.1),
          )

      from : T (a α && b α) × (t ≡ α ∷ []) → Seq P A B α t
      from r =
          let h = (both (a α) (b α)).0 r.0 in
          in_turn [] α (α ∷ []) r.1 ((f α (α ∷ [])).1 (h.0, refl)) ((g α (α ∷ [])).1 (h.1, refl))

  single_neg : (A : TraceSet P) (a : P.Packet → Bool) → Single A a → Single (λ α t. Drops P A α × (t ≡ α ∷ [])) (λ α. not (a α))
  unfolding Drops
  single_neg A a f α t = (
    λ h. (not_holds (a α) (λ k. h.0 (α ∷ []) ((f α (α ∷ [])).1 (k, refl))), h.1),
    λ h. (λ u k. not_held (a α) h.0 ((f α u).0 k).0, h.1),
  )

  -- from a packet that passes a test the packet itself is the one trace, from any other there is none
  pub test_traces : (p : Policy) → is_test p ≡ true → Single (Traces P p) (passes P p)
  unfolding Traces ActionTraces is_test passes
  test_traces drop h α t = (λ x. absurd x, λ x. absurd x.0)
  test_traces id h α t = (λ e. (tt, e), λ x. x.1)
  test_traces (field (Equals f v)) h α t = (λ x. x, λ x. x)
  test_traces (field (Differs f v)) h α t = (λ x. x, λ x. x)
  test_traces (field (Set f v)) h α t = clash h refl
  test_traces (dup i) h α t = clash h refl
  test_traces (sum p q) h α t =
      let k = and_true (is_test p) (is_test q) h in
      single_sum (Traces P p) (Traces P q) (passes P p) (passes P q) (test_traces p k.0) (test_traces q k.1) α t
  test_traces (seq p q) h α t =
      let k = and_true (is_test p) (is_test q) h in
      single_seq (Traces P p) (Traces P q) (passes P p) (passes P q) (test_traces p k.0) (test_traces q k.1) α t
  test_traces (star p) h α t = clash h refl
  test_traces (neg p) h α t = single_neg (Traces P p) (passes P p) (test_traces p h) α t
