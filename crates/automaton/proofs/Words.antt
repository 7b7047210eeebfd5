-- Figure 1 with a trace's last packet apart: p has the trace w ++ [δ] from α.
use Prim.Native.Nat.{ℕ, zero, suc}
use mathlib.Core.Bool.{not}
use mathlib.Core.List.{List, [], ◌∷◌, ◌++◌, append_assoc}
use mathlib.Core.Logic.{◌⊎◌, inl, inr, ◌↔◌}
use mathlib.Core.Path.{◌≡◌, refl, sym, ap, ap₂, ◌∙◌, subst₂}
use lib.Dec.{T}
use Rattle.policy.specs.declared.FieldAction.{FieldAction}
use Rattle.policy.specs.declared.FieldAction.TheVariants.{Equals, Differs, Set}
use Rattle.policy.specs.Meaning.{Packets, TraceSet, ActionTraces, Seq, Power, Drops, Traces}
use Rattle.policy.specs.Tree.{Policy, drop, id, field, dup, sum, seq, star, neg}
use Rattle.policy.proofs.TraceLaws.{snoc_injective}

module _ (P : Packets) where
  -- from α, by a word w of recorded packets, to δ
  abbrev pub Rel : Type 1
  Rel = P.Packet → List P.Packet → P.Packet → Type 0

  -- A and then B
  pub record Then (A B : Rel) (α : P.Packet) (w : List P.Packet) (δ : P.Packet) : Type 0 where
    pub u : List P.Packet
    pub v : List P.Packet
    pub μ : P.Packet
    pub split : w ≡ u ++ v
    pub first : A α u μ
    pub second : B μ v δ

  -- A any number of times
  pub data Star (A : Rel) : P.Packet → List P.Packet → P.Packet → Type 0 where
    done : {α : P.Packet} {w : List P.Packet} {δ : P.Packet} → w ≡ [] → δ ≡ α → Star A α w δ
    more : {α : P.Packet} {w : List P.Packet} {δ : P.Packet} (u v : List P.Packet) (μ : P.Packet) → w ≡ u ++ v → A α u μ → Star A μ v δ
        → Star A α w δ

  unfoldable pub Acts : FieldAction → P.Packet → P.Packet → Type 0
  Acts (Equals f v) α δ = T (P.has f v α) × (δ ≡ α)
  Acts (Differs f v) α δ = T (not (P.has f v α)) × (δ ≡ α)
  Acts (Set f v) α δ = δ ≡ P.change f v α

  unfoldable pub Tr : Policy → Rel
  Tr drop α w δ = ⊥
  Tr id α w δ = (w ≡ []) × (δ ≡ α)
  Tr (field a) α w δ = (w ≡ []) × Acts a α δ
  Tr (dup i) α w δ = (w ≡ α ∷ []) × (δ ≡ α)
  Tr (sum p q) α w δ = Tr p α w δ ⊎ Tr q α w δ
  Tr (seq p q) α w δ = Then (Tr p) (Tr q) α w δ
  Tr (star p) α w δ = Star (Tr p) α w δ
  Tr (neg p) α w δ = (w ≡ []) × Drops P (Traces P p) α × (δ ≡ α)

  last_eq : {w w' : List P.Packet} {δ δ' : P.Packet} → w ≡ w' → δ ≡ δ' → w ++ (δ ∷ []) ≡ w' ++ (δ' ∷ [])
  last_eq e d = ap₂ (λ (x : List P.Packet) (y : P.Packet). x ++ (y ∷ [])) e d

  -- a set of traces holds what a relation has
  abbrev Holds : Rel → TraceSet P → Type 0
  Holds A B = (α : P.Packet) (w : List P.Packet) (δ : P.Packet) → A α w δ → B α (w ++ (δ ∷ []))

  holds_seq : {A B : Rel} {C D : TraceSet P} → Holds A C → Holds B D → Holds (Then A B) (Seq P C D)
  holds_seq f g α w δ t =
      record {
        a = t.u;
        β = t.μ;
        b = t.v ++ (δ ∷ []);
        joined = last_eq t.split refl ∙ append_assoc t.u t.v (δ ∷ []);
        first = f α t.u t.μ t.first;
        second = g t.μ t.v δ t.second;
      }

  holds_star : {A : Rel} (C : TraceSet P) → Holds A C → Holds (Star A) (λ α t. (n : ℕ) × Power P C n α t)
  unfolding Power
  holds_star C f α w δ (done e d) = (0, last_eq e d)
  holds_star C f α w δ (more u v μ e h s) =
      let r = holds_star C f μ v δ s in
      (suc r.0, record { a = u; β = μ; b = v ++ (δ ∷ []); joined = last_eq e refl ∙ append_assoc u v (δ ∷ []); first = f α u μ h; second = r.1 })

  tr→traces : (p : Policy) → Holds (Tr p) (Traces P p)
  unfolding Tr Traces ActionTraces Acts
  tr→traces drop α w δ t = t
  tr→traces id α w δ t = last_eq t.0 t.1
  tr→traces (field (Equals f v)) α w δ t = (t.1.0, last_eq t.0 t.1.1)
  tr→traces (field (Differs f v)) α w δ t = (t.1.0, last_eq t.0 t.1.1)
  tr→traces (field (Set f v)) α w δ t = last_eq t.0 t.1
  tr→traces (dup i) α w δ t = last_eq t.0 t.1
  tr→traces (sum p q) α w δ (inl t) = inl (tr→traces p α w δ t)
  tr→traces (sum p q) α w δ (inr t) = inr (tr→traces q α w δ t)
  tr→traces (seq p q) α w δ t = holds_seq (tr→traces p) (tr→traces q) α w δ t
  tr→traces (star p) α w δ t = holds_star (Traces P p) (tr→traces p) α w δ t
  tr→traces (neg p) α w δ t = (t.1, last_eq t.0 t.2)

  -- a trace is a word and a last packet
  abbrev Comes : Rel → P.Packet → List P.Packet → Type 0
  Comes A α t = (w : List P.Packet) × (δ : P.Packet) × (t ≡ w ++ (δ ∷ [])) × A α w δ

  abbrev From : TraceSet P → Rel → Type 0
  From B A = (α : P.Packet) (t : List P.Packet) → B α t → Comes A α t

  from_seq : {A B : Rel} {C D : TraceSet P} → From C A → From D B → From (Seq P C D) (Then A B)
  from_seq {A} {B} f g α t s =
      let r = f α (s.a ++ (s.β ∷ [])) s.first in
      let k = g s.β s.b s.second in
      let e = snoc_injective s.a r.0 _ _ r.2 in
      let h : A α s.a s.β = subst₂ (A α) (sym e.0) (sym e.1) r.3 in (
        s.a ++ k.0,
        k.1,
        s.joined ∙ ap (λ x. s.a ++ x) k.2 ∙ sym (append_assoc s.a k.0 (k.1 ∷ [])),
        record { u = s.a; v = k.0; μ = s.β; split = refl; first = h; second = k.3 },
      )

  from_power : {A : Rel} {C : TraceSet P} → From C A → (n : ℕ) → From (Power P C n) (Star A)
  unfolding Power
  from_power f zero α t e = ([], α, e, done refl refl)
  from_power {A} f (suc n) α t s =
      let r = from_seq f (from_power f n) α t s in
      let h = r.3 in
      (r.0, r.1, r.2, more h.u h.v h.μ h.split h.first h.second)

  traces→tr : (p : Policy) → From (Traces P p) (Tr p)
  unfolding Tr Traces ActionTraces Acts
  traces→tr drop α t h = absurd h
  traces→tr id α t e = ([], α, e, (refl, refl))
  traces→tr (field (Equals f v)) α t h = ([], α, h.1, (refl, (h.0, refl)))
  traces→tr (field (Differs f v)) α t h = ([], α, h.1, (refl, (h.0, refl)))
  traces→tr (field (Set f v)) α t e = ([], P.change f v α, e, (refl, refl))
  traces→tr (dup i) α t e = (α ∷ [], α, e, (refl, refl))
  traces→tr (sum p q) α t (inl h) = let r = traces→tr p α t h in (r.0, r.1, r.2, inl r.3)
  traces→tr (sum p q) α t (inr h) = let r = traces→tr q α t h in (r.0, r.1, r.2, inr r.3)
  traces→tr (seq p q) α t s = from_seq (traces→tr p) (traces→tr q) α t s
  traces→tr (star p) α t h = from_power (traces→tr p) h.0 α t h.1
  traces→tr (neg p) α t h = ([], α, h.1, (refl, h.0, refl))

  -- the two forms say the same
  pub traces_iff : (p : Policy) (α : P.Packet) (w : List P.Packet) (δ : P.Packet) → Traces P p α (w ++ (δ ∷ [])) ↔ Tr p α w δ
  traces_iff p α w δ = (back, tr→traces p α w δ)
    where
      back : Traces P p α (w ++ (δ ∷ [])) → Tr p α w δ
      back h = let r = traces→tr p α (w ++ (δ ∷ [])) h in
          let e = snoc_injective w r.0 _ _ r.2 in
          subst₂ (Tr p α) (sym e.0) (sym e.1) r.3
