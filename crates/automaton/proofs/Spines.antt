-- Remainders and what they reach, as relations over the tree, for a walk up from a dup; they are the right spine's traces and what it
-- reaches.
use Prim.Native.Nat.{ℕ, suc}
use mathlib.Core.List.{List, []}
use mathlib.Core.Logic.{◌⊎◌, inl, inr, ⊎_map, ◌↔◌}
use mathlib.Core.Path.{◌≡◌, refl, sym, subst}
use Rattle.policy.specs.Meaning.{Packets}
use Rattle.policy.specs.Tree.{Policy, drop, id, field, dup, sum, seq, star, neg}
use Rattle.policy.specs.Visits.{HasDup, Labelled}
use Rattle.automaton.specs.Remainder.{remainder}
use Rattle.automaton.specs.Reaches.{Passes, Reaches}
use Rattle.automaton.proofs.Words.{Rel, Then, Star, Tr, traces_iff}
use Rattle.automaton.proofs.RightSpines.{Spine, spine_has, spine_remainder, is_spine}
use Rattle.automaton.proofs.Fundamental.{dup_first}

module _ (P : Packets) where
  -- A without recording, and then R
  abbrev pub Onward : Rel P → (P.Packet → P.Packet → Type 0) → P.Packet → P.Packet → Type 0
  Onward A R β γ = (μ : P.Packet) × A β [] μ × R μ γ

  -- what p reaches first, over words
  unfoldable pub Meets : Policy → ℕ → P.Packet → P.Packet → Type 0
  Meets drop i β γ = ⊥
  Meets id i β γ = ⊥
  Meets (field a) i β γ = ⊥
  Meets (dup j) i β γ = (i ≡ j) × (γ ≡ β)
  Meets (sum p q) i β γ = Meets p i β γ ⊎ Meets q i β γ
  Meets (seq p q) i β γ = Meets p i β γ ⊎ Onward (Tr P p) (Meets q i) β γ
  Meets (star p) i β γ = Onward (Star P (Tr P p)) (Meets p i) β γ
  Meets (neg p) i β γ = ⊥

  pub meets_iff : (p : Policy) (i : ℕ) (β γ : P.Packet) → Reaches P p i β γ ↔ Meets p i β γ
  unfolding Reaches Meets Passes Tr
  meets_iff drop i β γ = (λ h. h, λ h. h)
  meets_iff id i β γ = (λ h. h, λ h. h)
  meets_iff (field a) i β γ = (λ h. h, λ h. h)
  meets_iff (dup j) i β γ = (λ h. h, λ h. h)
  meets_iff (sum p q) i β γ = (⊎_map (meets_iff p i β γ).0 (meets_iff q i β γ).0, ⊎_map (meets_iff p i β γ).1 (meets_iff q i β γ).1)
  meets_iff (seq p q) i β γ = (
    ⊎_map (meets_iff p i β γ).0 (λ h. (h.0, (traces_iff P p β [] h.0).0 h.1, (meets_iff q i h.0 γ).0 h.2)),
    ⊎_map (meets_iff p i β γ).1 (λ h. (h.0, (traces_iff P p β [] h.0).1 h.1, (meets_iff q i h.0 γ).1 h.2)),
  )
  meets_iff (star p) i β γ = (
    λ h. (h.0, (traces_iff P (star p) β [] h.0).0 h.1, (meets_iff p i h.0 γ).0 h.2),
    λ h. (h.0, (traces_iff P (star p) β [] h.0).1 h.1, (meets_iff p i h.0 γ).1 h.2),
  )
  meets_iff (neg p) i β γ = (λ h. h, λ h. h)

  -- the words of what remains after dup i
  unfoldable pub Rem : Policy → ℕ → Rel P
  Rem drop i β w δ = ⊥
  Rem id i β w δ = ⊥
  Rem (field a) i β w δ = ⊥
  Rem (dup j) i β w δ = (i ≡ j) × (w ≡ []) × (δ ≡ β)
  Rem (sum p q) i β w δ = Rem p i β w δ ⊎ Rem q i β w δ
  Rem (seq p q) i β w δ = Then P (Rem p i) (Tr P q) β w δ ⊎ Rem q i β w δ
  Rem (star p) i β w δ = Then P (Rem p i) (Star P (Tr P p)) β w δ
  Rem (neg p) i β w δ = ⊥

  -- what remains after dup j reaches dup i first
  unfoldable pub RemMeets : Policy → ℕ → ℕ → P.Packet → P.Packet → Type 0
  RemMeets drop j i β γ = ⊥
  RemMeets id j i β γ = ⊥
  RemMeets (field a) j i β γ = ⊥
  RemMeets (dup k) j i β γ = ⊥
  RemMeets (sum p q) j i β γ = RemMeets p j i β γ ⊎ RemMeets q j i β γ
  RemMeets (seq p q) j i β γ = (RemMeets p j i β γ ⊎ Onward (Rem p j) (Meets q i) β γ) ⊎ RemMeets q j i β γ
  RemMeets (star p) j i β γ = RemMeets p j i β γ ⊎ Onward (Rem p j) (Meets (star p) i) β γ
  RemMeets (neg p) j i β γ = ⊥

  -- ---- they are those of the right spines

  rem_spine : (p : Policy) (i : ℕ) (β : P.Packet) (w : List P.Packet) (δ : P.Packet) → Rem p i β w δ
      → (r : Policy) × Spine p i r × Tr P r β w δ
  unfolding Rem Spine Tr
  rem_spine drop i β w δ h = absurd h
  rem_spine id i β w δ h = absurd h
  rem_spine (field a) i β w δ h = absurd h
  rem_spine (dup j) i β w δ h = (id, (h.0, refl), (h.1, h.2))
  rem_spine (sum p q) i β w δ (inl h) = let r = rem_spine p i β w δ h in (r.0, inl r.1, r.2)
  rem_spine (sum p q) i β w δ (inr h) = let r = rem_spine q i β w δ h in (r.0, inr r.1, r.2)
  rem_spine (seq p q) i β w δ (inl h) =
      let r = rem_spine p i β h.u h.μ h.first in
      (seq r.0 q, inl (r.0, r.1, refl), record { u = h.u; v = h.v; μ = h.μ; split = h.split; first = r.2; second = h.second })
  rem_spine (seq p q) i β w δ (inr h) = let r = rem_spine q i β w δ h in (r.0, inr r.1, r.2)
  rem_spine (star p) i β w δ h =
      let r = rem_spine p i β h.u h.μ h.first in
      (seq r.0 (star p), (r.0, r.1, refl), record { u = h.u; v = h.v; μ = h.μ; split = h.split; first = r.2; second = h.second })
  rem_spine (neg p) i β w δ h = absurd h

  spine_rem : (p : Policy) (i : ℕ) (r : Policy) → Spine p i r → (β : P.Packet) (w : List P.Packet) (δ : P.Packet) → Tr P r β w δ → Rem p i β w δ
  unfolding Rem Spine Tr
  spine_rem drop i r s β w δ t = s
  spine_rem id i r s β w δ t = s
  spine_rem (field a) i r s β w δ t = s
  spine_rem (dup j) i r s β w δ t = let k = subst (λ x. Tr P x β w δ) s.1 t in (s.0, k.0, k.1)
  spine_rem (sum p q) i r (inl s) β w δ t = inl (spine_rem p i r s β w δ t)
  spine_rem (sum p q) i r (inr s) β w δ t = inr (spine_rem q i r s β w δ t)
  spine_rem (seq p q) i r (inl s) β w δ t =
      let k = subst (λ x. Tr P x β w δ) s.2 t in
      inl (record { u = k.u; v = k.v; μ = k.μ; split = k.split; first = spine_rem p i s.0 s.1 β k.u k.μ k.first; second = k.second })
  spine_rem (seq p q) i r (inr s) β w δ t = inr (spine_rem q i r s β w δ t)
  spine_rem (star p) i r s β w δ t =
      let k = subst (λ x. Tr P x β w δ) s.2 t in
      record { u = k.u; v = k.v; μ = k.μ; split = k.split; first = spine_rem p i s.0 s.1 β k.u k.μ k.first; second = k.second }
  spine_rem (neg p) i r s β w δ t = s

  meets_spine : (p : Policy) (j i : ℕ) (β γ : P.Packet) → RemMeets p j i β γ → (r : Policy) × Spine p j r × Meets r i β γ
  unfolding RemMeets Spine Meets Tr
  meets_spine drop j i β γ h = absurd h
  meets_spine id j i β γ h = absurd h
  meets_spine (field a) j i β γ h = absurd h
  meets_spine (dup k) j i β γ h = absurd h
  meets_spine (sum p q) j i β γ (inl h) = let r = meets_spine p j i β γ h in (r.0, inl r.1, r.2)
  meets_spine (sum p q) j i β γ (inr h) = let r = meets_spine q j i β γ h in (r.0, inr r.1, r.2)
  meets_spine (seq p q) j i β γ (inl (inl h)) = let r = meets_spine p j i β γ h in (seq r.0 q, inl (r.0, r.1, refl), inl r.2)
  meets_spine (seq p q) j i β γ (inl (inr h)) =
      let r = rem_spine p j β [] h.0 h.1 in
      (seq r.0 q, inl (r.0, r.1, refl), inr (h.0, r.2, h.2))
  meets_spine (seq p q) j i β γ (inr h) = let r = meets_spine q j i β γ h in (r.0, inr r.1, r.2)
  meets_spine (star p) j i β γ (inl h) = let r = meets_spine p j i β γ h in (seq r.0 (star p), (r.0, r.1, refl), inl r.2)
  meets_spine (star p) j i β γ (inr h) =
      let r = rem_spine p j β [] h.0 h.1 in
      (seq r.0 (star p), (r.0, r.1, refl), inr (h.0, r.2, h.2))
  meets_spine (neg p) j i β γ h = absurd h

  spine_meets : (p : Policy) (j : ℕ) (r : Policy) → Spine p j r → (i : ℕ) (β γ : P.Packet) → Meets r i β γ → RemMeets p j i β γ
  unfolding RemMeets Spine Meets Tr
  spine_meets drop j r s i β γ m = s
  spine_meets id j r s i β γ m = s
  spine_meets (field a) j r s i β γ m = s
  spine_meets (dup k) j r s i β γ m = subst (λ x. Meets x i β γ) s.1 m
  spine_meets (sum p q) j r (inl s) i β γ m = inl (spine_meets p j r s i β γ m)
  spine_meets (sum p q) j r (inr s) i β γ m = inr (spine_meets q j r s i β γ m)
  spine_meets (seq p q) j r (inl s) i β γ m =
      inl
      (⊎_map (spine_meets p j s.0 s.1 i β γ) (λ k. (k.0, spine_rem p j s.0 s.1 β [] k.0 k.1, k.2))
      (subst (λ x. Meets x i β γ) s.2 m))
  spine_meets (seq p q) j r (inr s) i β γ m = inr (spine_meets q j r s i β γ m)
  spine_meets (star p) j r s i β γ m =
      ⊎_map (spine_meets p j s.0 s.1 i β γ) (λ k. (k.0, spine_rem p j s.0 s.1 β [] k.0 k.1, k.2))
      (subst (λ x. Meets x i β γ) s.2 m)
  spine_meets (neg p) j r s i β γ m = s

  -- ---- only dups of the policy are met and have remainders

  pub meets_has : (p : Policy) (i : ℕ) (β γ : P.Packet) → Meets p i β γ → HasDup p i
  meets_has p i β γ h = let r = dup_first P p i β γ ((meets_iff p i β γ).1 h) in spine_has p i r.0 r.1

  pub rem_has : (p : Policy) (i : ℕ) (β : P.Packet) (w : List P.Packet) (δ : P.Packet) → Rem p i β w δ → HasDup p i
  rem_has p i β w δ h = let r = rem_spine p i β w δ h in spine_has p i r.0 r.1

  pub rem_meets_of : (p : Policy) (j i : ℕ) (β γ : P.Packet) → RemMeets p j i β γ → HasDup p j
  rem_meets_of p j i β γ h = let r = meets_spine p j i β γ h in spine_has p j r.0 r.1

  -- ---- in terms of the remainder

  module _ {k : ℕ} (p : Policy) (ok : Labelled k p) (j : ℕ) where
    pub remainder_words : (β : P.Packet) (w : List P.Packet) (δ : P.Packet) → Tr P (remainder p (suc j)) β w δ ↔ Rem p (suc j) β w δ
    unfolding Tr
    remainder_words β w δ = (
      λ t. spine_rem p (suc j) (remainder p (suc j)) (is_spine (λ r. Tr P r β w δ) (λ h. h) p j t) β w δ t,
      λ h. let r = rem_spine p (suc j) β w δ h in subst (λ x. Tr P x β w δ) (sym (spine_remainder p ok (suc j) r.0 r.1)) r.2,
    )

    pub remainder_meets : (i : ℕ) (β γ : P.Packet) → Meets (remainder p (suc j)) i β γ ↔ RemMeets p (suc j) i β γ
    unfolding Meets
    remainder_meets i β γ = (
      λ m. spine_meets p (suc j) (remainder p (suc j)) (is_spine (λ r. Meets r i β γ) (λ h. h) p j m) i β γ m,
      λ h. let r = meets_spine p (suc j) i β γ h in subst (λ x. Meets x i β γ) (sym (spine_remainder p ok (suc j) r.0 r.1)) r.2,
    )
