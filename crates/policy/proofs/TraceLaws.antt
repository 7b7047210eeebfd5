-- Traces are non-empty, and stay within any set of packets that the policy's changes keep; same traces are the same of every length.
use Prim.Native.Nat.{ℕ, zero, suc}
use native.Mathlib.Omega.{arith}
use mathlib.Core.List.{List, [], ◌∷◌, ◌++◌, append_assoc, concat-ne-nil}
use mathlib.Core.Logic.{⊎_elim, ◌↔◌}
use mathlib.Core.Path.{◌≡◌, refl, sym, ap, ◌∙◌, subst}
use lib.ListN.{length}
use Rattle.policy.specs.declared.FieldAction.{FieldAction}
use Rattle.policy.specs.declared.FieldAction.TheVariants.{Equals, Differs, Set}
use Rattle.policy.specs.Tree.{Policy, drop, id, field, dup, sum, seq, star, neg}
use Rattle.policy.specs.Meaning.{Packets, TraceSet, ActionTraces, Seq, Power, Traces, SameTraces, SameShortTraces}
use Rattle.policy.specs.InnerEach.{Each}
use Rattle.policy.specs.InnerTransport.{EachAction, Keeps}
use Rattle.policy.proofs.EachLaws.{each_append}

abbrev pub Trace : Packets → Type 0
Trace P = List P.Packet

module _ {A : Type 0} where
  -- a list that has a last element
  pub record Ends (t : List A) : Type 0 where
    pub before : List A
    pub last : A
    pub whole : t ≡ before ++ (last ∷ [])

  pub snoc_injective : (xs ys : List A) (x y : A) → xs ++ (x ∷ []) ≡ ys ++ (y ∷ []) → (xs ≡ ys) × (x ≡ y)
  snoc_injective [] [] x y e = (refl, cc)
  snoc_injective [] (b ∷ ys) x y e = absurd (concat-ne-nil y ys (cc))
  snoc_injective (a ∷ xs) [] x y e = absurd (concat-ne-nil x xs (cc))
  snoc_injective (a ∷ xs) (b ∷ ys) x y e = let i = snoc_injective xs ys x y (cc) in ((cc), i.1)

  ends_append : (a b : List A) → Ends b → Ends (a ++ b)
  ends_append a b e = record {
    before = a ++ e.before;
    last = e.last;
    whole = ap (λ (t : List A). a ++ t) e.whole ∙ sym (append_assoc a e.before (e.last ∷ []));
  }

-- ab is a trace of the sequence where aβ is a trace of the first and b one of the second from β
pub in_turn : {P : Packets} {A B : TraceSet P} {α : P.Packet} {t : Trace P} (a : Trace P) (β : P.Packet) (b : Trace P)
    → t ≡ a ++ b → A α (a ++ (β ∷ [])) → B β b → Seq P A B α t
in_turn a β b e f g = record { a = a; β = β; b = b; joined = e; first = f; second = g }

module _ (P : Packets) where
  -- each trace has a last packet
  abbrev pub AllEnd : TraceSet P → Type 0
  AllEnd A = (α : P.Packet) (t : Trace P) → A α t → Ends t

  pub seq_ends : (A B : TraceSet P) → AllEnd B → AllEnd (Seq P A B)
  seq_ends A B h α t s = subst Ends (sym s.joined) (ends_append s.a s.b (h s.β s.b s.second))

  single : (α : P.Packet) (t : Trace P) → t ≡ α ∷ [] → Ends t
  single α t e = record { before = []; last = α; whole = e }

  power_ends : (A : TraceSet P) (n : ℕ) → AllEnd (Power P A n)
  unfolding Power
  power_ends A zero α t h = single α t h
  power_ends A (suc n) α t h = seq_ends A (Power P A n) (power_ends A n) α t h

  action_ends : (a : FieldAction) → AllEnd (ActionTraces P a)
  unfolding ActionTraces
  action_ends (Equals f v) α t h = single α t h.1
  action_ends (Differs f v) α t h = single α t h.1
  action_ends (Set f v) α t h = single (P.change f v α) t h

  pub traces_end : (p : Policy) → AllEnd (Traces P p)
  unfolding Traces
  traces_end drop α t h = absurd h
  traces_end id α t h = single α t h
  traces_end (field a) α t h = action_ends a α t h
  traces_end (dup i) α t h = record { before = α ∷ []; last = α; whole = h }
  traces_end (sum p q) α t h = ⊎_elim (traces_end p α t) (traces_end q α t) h
  traces_end (seq p q) α t h = seq_ends (Traces P p) (Traces P q) (traces_end q) α t h
  traces_end (star p) α t h = power_ends (Traces P p) h.0 α t h.1
  traces_end (neg p) α t h = single α t h.1

  pub traces_non_empty : (p : Policy) (α : P.Packet) → Traces P p α [] → ⊥
  traces_non_empty p α h = let e = traces_end p α [] h in concat-ne-nil e.last e.before (sym e.whole)

module _ (P : Packets) (Declared : P.Packet → Type 0) where
  -- from a declared packet each trace holds declared packets only
  abbrev pub Stays : TraceSet P → Type 0
  Stays A = (α : P.Packet) → Declared α → (t : Trace P) → A α t → Each Declared t

  -- the packets of a trace, the last apart
  pub turn_declared : (A : TraceSet P) → Stays A → (α : P.Packet) → Declared α → (a : Trace P) (β : P.Packet) → A α (a ++ (β ∷ []))
      → Each Declared a × Declared β
  unfolding Each
  turn_declared A stay α d a β h = let e = (each_append Declared a (β ∷ [])).0 (stay α d (a ++ (β ∷ [])) h) in (e.0, e.1.0)

  pub seq_stays : (A B : TraceSet P) → Stays A → Stays B → Stays (Seq P A B)
  seq_stays A B h k α d t s =
      let e = turn_declared A h α d s.a s.β s.first in
      subst (Each Declared) (sym s.joined) ((each_append Declared s.a s.b).1 (e.0, k s.β e.1 s.b s.second))

  pub single_stays : (α : P.Packet) → Declared α → (t : Trace P) → t ≡ α ∷ [] → Each Declared t
  unfolding Each
  single_stays α d t e = subst (Each Declared) (sym e) (d, tt)

  power_stays : (A : TraceSet P) → Stays A → (n : ℕ) → Stays (Power P A n)
  unfolding Power
  power_stays A h zero = single_stays
  power_stays A h (suc n) = seq_stays A (Power P A n) h (power_stays A h n)

  action_stays : (a : FieldAction) → Keeps P Declared a → Stays (ActionTraces P a)
  unfolding ActionTraces Keeps
  action_stays (Equals f v) k α d t h = single_stays α d t h.1
  action_stays (Differs f v) k α d t h = single_stays α d t h.1
  action_stays (Set f v) k α d t h = single_stays (P.change f v α) (k α d) t h

  -- the traces of a policy stay within any set of packets that its changes keep
  pub traces_stay : (p : Policy) → EachAction (Keeps P Declared) p → Stays (Traces P p)
  unfolding Traces Each
  traces_stay drop k α d t h = absurd h
  traces_stay id k α d t h = single_stays α d t h
  traces_stay (field a) k α d t h = action_stays a k α d t h
  traces_stay (dup i) k α d t h = subst (Each Declared) (sym h) (d, (d, tt))
  traces_stay (sum p q) k α d t h = ⊎_elim (traces_stay p k.0 α d t) (traces_stay q k.1 α d t) h
  traces_stay (seq p q) k α d t h = seq_stays (Traces P p) (Traces P q) (traces_stay p k.0) (traces_stay q k.1) α d t h
  traces_stay (star p) k α d t h = power_stays (Traces P p) (traces_stay p k) h.0 α d t h.1
  traces_stay (neg p) k α d t h = single_stays α d t h.1

  -- the same traces exactly when, for every d, the same traces of d packets or fewer
  pub same_each_length : (p q : Policy) → SameTraces P Declared p q ↔ ((d : ℕ) → SameShortTraces P Declared d p q)
  unfolding SameTraces SameShortTraces
  same_each_length p q = (λ same d α e t l. same α e t, λ short α e t. short (length t) α e t (omega arith))
