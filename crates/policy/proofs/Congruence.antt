-- Sums, sequences, stars and negations of policies with the same traces have the same traces; a dup's label means nothing.
use Prim.Native.Nat.{ℕ, zero, suc}
use mathlib.Core.List.{[], ◌∷◌, ◌++◌}
use mathlib.Core.Logic.Iff
use mathlib.Core.Logic.{◌⊎◌, ⊎_map, ◌↔◌}
use mathlib.Core.Path.{◌≡◌, refl, ap, ap₂}
use Rattle.policy.specs.Tree.{Policy, drop, id, field, dup, sum, seq, star, neg}
use Rattle.policy.specs.NodesOfTree.{unlabelled}
use Rattle.policy.specs.Meaning.{Packets, TraceSet, Seq, Power, Drops, Traces, SameTraces}
use Rattle.policy.specs.InnerTransport.{EachAction, Keeps}
use Rattle.policy.proofs.TraceLaws.{Trace, in_turn, Stays, turn_declared, traces_stay}

module _ (P : Packets) (Declared : P.Packet → Type 0) where
  -- the same traces from every declared packet
  abbrev Alike : TraceSet P → TraceSet P → Type 0
  Alike A B = (α : P.Packet) → Declared α → (t : Trace P) → A α t ↔ B α t

  seq_to : (A B C D : TraceSet P) → Stays P Declared A → Alike A C → Alike B D → (α : P.Packet) → Declared α → (t : Trace P)
      → Seq P A B α t → Seq P C D α t
  seq_to A B C D stay h k α d t s =
      let e = turn_declared P Declared A stay α d s.a s.β s.first in
      in_turn s.a s.β s.b s.joined ((h α d (s.a ++ (s.β ∷ []))).0 s.first) ((k s.β e.1 s.b).0 s.second)

  seq_alike : (A B C D : TraceSet P) → Stays P Declared A → Alike A C → Alike B D → Alike (Seq P A B) (Seq P C D)
  seq_alike A B C D stay h k α d t = (
    seq_to A B C D stay h k α d t,
    seq_to C D A B (λ β e u s. stay β e u ((h β e u).1 s)) (λ β e u. Iff.symm (h β e u)) (λ β e u. Iff.symm (k β e u)) α d t,
  )

  power_alike : (A B : TraceSet P) → Stays P Declared A → Alike A B → (n : ℕ) → Alike (Power P A n) (Power P B n)
  unfolding Power
  power_alike A B stay h zero α d t = Iff.rfl
  power_alike A B stay h (suc n) α d t = seq_alike A (Power P A n) B (Power P B n) stay h (power_alike A B stay h n) α d t

  pub same_sum : (p q p' q' : Policy) → SameTraces P Declared p p' → SameTraces P Declared q q'
      → SameTraces P Declared (sum p q) (sum p' q')
  unfolding SameTraces Traces ⊎_map
  same_sum p q p' q' h k α d t = (⊎_map (h α d t).0 (k α d t).0, ⊎_map (h α d t).1 (k α d t).1)

  -- the changes of p keep the declared packets, so that q starts from one
  pub same_seq : (p q p' q' : Policy) → EachAction (Keeps P Declared) p → SameTraces P Declared p p' → SameTraces P Declared q q'
      → SameTraces P Declared (seq p q) (seq p' q')
  unfolding SameTraces Traces
  same_seq p q p' q' keep h k = seq_alike (Traces P p) (Traces P q) (Traces P p') (Traces P q') (traces_stay P Declared p keep) h k

  pub same_star : (p p' : Policy) → EachAction (Keeps P Declared) p → SameTraces P Declared p p' → SameTraces P Declared (star p) (star p')
  unfolding SameTraces Traces
  same_star p p' keep h α d t =
      let power = power_alike (Traces P p) (Traces P p') (traces_stay P Declared p keep) h in
      (λ s. (s.0, (power s.0 α d t).0 s.1), λ s. (s.0, (power s.0 α d t).1 s.1))

  pub same_neg : (p p' : Policy) → SameTraces P Declared p p' → SameTraces P Declared (neg p) (neg p')
  unfolding SameTraces Traces Drops
  same_neg p p' h α d t = (λ s. (λ u k. s.0 u ((h α d u).1 k), s.1), λ s. (λ u k. s.0 u ((h α d u).0 k), s.1))

-- the labels of dups mean nothing
pub traces_unlabelled : (P : Packets) (p : Policy) → Traces P (unlabelled p) ≡ Traces P p
unfolding Traces unlabelled
traces_unlabelled P drop = refl
traces_unlabelled P id = refl
traces_unlabelled P (field a) = refl
traces_unlabelled P (dup i) = refl
traces_unlabelled P (sum p q) = ap₂ {C = TraceSet P} (λ (A B : TraceSet P) α t. A α t ⊎ B α t) (traces_unlabelled P p) (traces_unlabelled P q)
traces_unlabelled P (seq p q) = ap₂ {C = TraceSet P} (λ (A B : TraceSet P). Seq P A B) (traces_unlabelled P p) (traces_unlabelled P q)
traces_unlabelled P (star p) = ap {B = TraceSet P} (λ (A : TraceSet P) α t. (n : ℕ) × Power P A n α t) (traces_unlabelled P p)
traces_unlabelled P (neg p) = ap {B = TraceSet P} (λ (A : TraceSet P) α t. Drops P A α × (t ≡ α ∷ [])) (traces_unlabelled P p)
