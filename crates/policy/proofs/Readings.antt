-- Figure 1 read on small policies: what each clause must mean.
use Prim.Native.Nat.{ℕ, zero, suc}
use mathlib.Core.Bool.{Bool, true, false, not, true≢false}
use mathlib.Core.List.{List, [], ◌∷◌, ◌++◌}
use mathlib.Core.Logic.Iff
use mathlib.Core.Logic.{◌⊎◌, inl, inr, ⊎_elim, ◌↔◌}
use mathlib.Core.Path.{◌≡◌, refl, ap, ap₂, ◌∙◌}
use borrow.Author.Tests.{eqb-true, eq-eqb}
use lib.Dec.{T}
use lib.ListN.{get_or, set}
use Rattle.packet.specs.Packets.{value_at, changed}
use Rattle.packet.proofs.Tests.{T_true, true_T}
use Rattle.policy.specs.declared.FieldAction.TheVariants.{Equals, Differs, Set}
use Rattle.policy.specs.Tests.{is_test, passes}
use Rattle.policy.specs.Tree.{Policy, field, dup, seq, star, neg}
use Rattle.policy.specs.Meaning.{Packets, ActionTraces, Seq, Power, Drops, Traces, declared, numbered}
use Rattle.policy.proofs.TestLaws.{test_traces}
use Rattle.policy.proofs.TraceLaws.{in_turn, snoc_injective}

-- a test reads its own field, of declared packets and of numbers
pub declared_has : (f v : ℕ) (α : List ℕ) → (declared.has f v α ≡ true) ↔ (get_or α f 0 ≡ v)
declared_has f v α = (eqb-true (get_or α f 0) v, eq-eqb (get_or α f 0) v)

pub numbered_has : (sizes : List ℕ) (f v α : ℕ) → ((numbered sizes).has f v α ≡ true) ↔ (value_at sizes f α ≡ v)
numbered_has sizes f v α = (eqb-true (value_at sizes f α) v, eq-eqb (value_at sizes f α) v)

-- a change changes its own field
pub declared_change : (f v : ℕ) (α : List ℕ) → declared.change f v α ≡ set α f v
declared_change f v α = refl

pub numbered_change : (sizes : List ℕ) (f v α : ℕ) → (numbered sizes).change f v α ≡ changed sizes f v α
numbered_change sizes f v α = refl

fails : (b : Bool) → T (not b) ↔ (b ≡ false)
fails true = (λ h. absurd h, λ h. absurd (true≢false h))
fails false = (λ h. refl, λ h. tt)

module _ (P : Packets) (α : P.Packet) (t : List P.Packet) where
  -- f=v: the packet itself where its field has the value
  pub equals_reads : (f v : ℕ) → Traces P (field (Equals f v)) α t ↔ ((P.has f v α ≡ true) × (t ≡ α ∷ []))
  unfolding Traces ActionTraces
  equals_reads f v = (λ h. (T_true (P.has f v α) h.0, h.1), λ h. (true_T h.0, h.1))

  -- f≠v: the packet itself where its field has another value
  pub differs_reads : (f v : ℕ) → Traces P (field (Differs f v)) α t ↔ ((P.has f v α ≡ false) × (t ≡ α ∷ []))
  unfolding Traces ActionTraces
  differs_reads f v = (λ h. ((fails (P.has f v α)).0 h.0, h.1), λ h. ((fails (P.has f v α)).1 h.0, h.1))

  -- !p: the packet itself where p has no trace from it
  pub neg_reads : (p : Policy) → Traces P (neg p) α t ↔ (((u : List P.Packet) → Traces P p α u → ⊥) × (t ≡ α ∷ []))
  unfolding Traces Drops
  neg_reads p = (λ h. h, λ h. h)

  -- !f=v is f≠v
  pub neg_equals : (f v : ℕ) → Traces P (neg (field (Equals f v))) α t ↔ Traces P (field (Differs f v)) α t
  unfolding is_test passes
  neg_equals f v = Iff.trans (test_traces P (neg (field (Equals f v))) refl α t) (Iff.symm (test_traces P (field (Differs f v)) refl α t))

  -- dup;f←v: the packet, and then the changed packet
  pub dup_then_set : (i f v : ℕ) → Traces P (seq (dup i) (field (Set f v))) α t ↔ (t ≡ α ∷ P.change f v α ∷ [])
  unfolding Traces ActionTraces
  dup_then_set i f v = (to, λ e. in_turn (α ∷ []) α (P.change f v α ∷ []) e refl refl)
    where
      to : Traces P (seq (dup i) (field (Set f v))) α t → t ≡ α ∷ P.change f v α ∷ []
      to s =
          let e = snoc_injective s.a (α ∷ []) s.β α s.first in
          s.joined ∙ ap₂ ◌++◌ e.0 (s.second ∙ ap (λ (β : P.Packet). P.change f v β ∷ []) e.1)

  -- f←v;dup: the changed packet twice
  pub set_then_dup : (i f v : ℕ) → Traces P (seq (field (Set f v)) (dup i)) α t ↔ (t ≡ P.change f v α ∷ P.change f v α ∷ [])
  unfolding Traces ActionTraces
  set_then_dup i f v = (to, λ e. in_turn [] (P.change f v α) (P.change f v α ∷ P.change f v α ∷ []) e refl refl)
    where
      to : Traces P (seq (field (Set f v)) (dup i)) α t → t ≡ P.change f v α ∷ P.change f v α ∷ []
      to s =
          let e = snoc_injective s.a [] s.β (P.change f v α) s.first in
          s.joined ∙ ap₂ ◌++◌ e.0 (s.second ∙ ap (λ (β : P.Packet). β ∷ β ∷ []) e.1)

  -- p*: the packet itself, or p and then p*
  pub star_reads : (p : Policy) → Traces P (star p) α t ↔ ((t ≡ α ∷ []) ⊎ Seq P (Traces P p) (Traces P (star p)) α t)
  unfolding Traces Power
  star_reads p = (
    λ h. powers h.0 h.1,
    ⊎_elim (λ e. (0, e)) (λ s. (suc s.second.0, in_turn s.a s.β s.b s.joined s.first s.second.1)),
  )
    where
      powers : (n : ℕ) → Power P (Traces P p) n α t → (t ≡ α ∷ []) ⊎ Seq P (Traces P p) (Traces P (star p)) α t
      powers zero h = inl h
      powers (suc n) s = inr (in_turn s.a s.β s.b s.joined s.first (n, s.second))

-- power 0 of a star
pub star_unchanged : (P : Packets) (p : Policy) (α : P.Packet) → Traces P (star p) α (α ∷ [])
unfolding Traces Power
star_unchanged P p α = (0, refl)
