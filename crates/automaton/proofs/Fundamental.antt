-- The fundamental theorem: a trace of two packets or more reaches some dup first with its first packet, and the rest of it is a trace of
-- that dup's right spine.
use Prim.Native.Nat.{ℕ}
use mathlib.Core.List.{List, [], ◌∷◌, ◌++◌, append_assoc, cons≢nil, head-eq_of_cons-eq, tail-eq_of_cons-eq}
use mathlib.Core.Logic.{inl, inr, ◌↔◌}
use mathlib.Core.Path.{◌≡◌, refl, sym, ap, ap₂, ◌∙◌, subst}
use Rattle.policy.specs.Meaning.{Packets, Traces}
use Rattle.policy.specs.Tree.{Policy, drop, id, field, dup, sum, seq, star, neg}
use Rattle.policy.specs.Visits.{HasDup, Labelled}
use Rattle.automaton.specs.Reaches.{Passes, Reaches}
use Rattle.automaton.specs.Remainder.{remainder}
use Rattle.automaton.proofs.Words.{Rel, Then, Star, done, more, Tr, traces_iff}
use Rattle.automaton.proofs.RightSpines.{Spine, spine_has, spine_remainder, remainder_spine}

module _ (P : Packets) where
  pub passes_iff : (p : Policy) (α μ : P.Packet) → Passes P p α μ ↔ Tr P p α [] μ
  unfolding Passes
  passes_iff p α μ = traces_iff P p α [] μ

  pub star_append : (A : Rel P) {α μ δ : P.Packet} {u : List P.Packet} (w v : List P.Packet) → w ≡ u ++ v → Star P A α u μ → Star P A μ v δ
      → Star P A α w δ
  star_append A {μ} {δ} w v e (done n d) t =
      subst (λ x. Star P A x w δ) d (subst (λ x. Star P A μ x δ) (sym (e ∙ ap (λ x. x ++ v) n)) t)
  star_append A w v e (more u' v' ν s h t') t =
      more u' (v' ++ v) ν (e ∙ ap (λ x. x ++ v) s ∙ append_assoc u' v' v) h (star_append A (v' ++ v) v refl t' t)

  -- A records γ first, and then B
  abbrev Records : P.Packet → Rel P → Rel P → Rel P
  Records γ A B = Then P (λ α u μ. A α (γ ∷ u) μ) B

  records : (A B : Rel P) {γ c α μ δ : P.Packet} {w : List P.Packet} (u v : List P.Packet) → γ ∷ w ≡ c ∷ (u ++ v) → A α (c ∷ u) μ → B μ v δ
      → Records γ A B α w δ
  records A B {α} {μ} u v e a b =
      record {
        u = u;
        v = v;
        μ = μ;
        split = tail-eq_of_cons-eq e;
        first = subst (λ x. A α (x ∷ u) μ) (sym (head-eq_of_cons-eq e)) a;
        second = b;
      }

  -- a star records γ first: some turns without recording, then one that records γ first
  turn : (A : Rel P) (γ : P.Packet) (w : List P.Packet) {α δ : P.Packet} {w' : List P.Packet} → Star P A α w' δ → γ ∷ w ≡ w'
      → (μ : P.Packet) × Star P A α [] μ × Records γ A (Star P A) μ w δ
  turn A γ w (done n d) e = absurd (cons≢nil (e ∙ n))
  turn A γ w (more [] v ν s h t) e = let r = turn A γ w t (e ∙ s) in (r.0, more [] [] ν refl h r.1, r.2)
  turn A γ w {α} (more (c ∷ u) v ν s h t) e = (α, done refl refl, records A (Star P A) u v (e ∙ s) h t)

  first_dup : (p : Policy) (α γ : P.Packet) (w : List P.Packet) (δ : P.Packet) → Tr P p α (γ ∷ w) δ
      → (i : ℕ) × (r : Policy) × Spine p i r × Reaches P p i α γ × Tr P r γ w δ
  unfolding Tr Spine Reaches
  first_dup drop α γ w δ t = absurd t
  first_dup id α γ w δ t = absurd (cons≢nil t.0)
  first_dup (field a) α γ w δ t = absurd (cons≢nil t.0)
  first_dup (dup k) α γ w δ t =
      let e = head-eq_of_cons-eq t.0 in
      (k, id, (refl, refl), (refl, e), (tail-eq_of_cons-eq t.0, t.1 ∙ sym e))
  first_dup (sum p q) α γ w δ (inl t) = let r = first_dup p α γ w δ t in (r.0, r.1, inl r.2, inl r.3, r.4)
  first_dup (sum p q) α γ w δ (inr t) = let r = first_dup q α γ w δ t in (r.0, r.1, inr r.2, inr r.3, r.4)
  first_dup (seq p q) α γ w δ t = go t.u t.split t.first (first_dup p α γ) (first_dup q t.μ γ w δ)
    where
      go : (u : List P.Packet) → γ ∷ w ≡ u ++ t.v → Tr P p α u t.μ
          → ((u : List P.Packet) (μ : P.Packet) → Tr P p α (γ ∷ u) μ → (i : ℕ) × (r : Policy) × Spine p i r × Reaches P p i α γ × Tr P r γ u μ)
          → (Tr P q t.μ (γ ∷ w) δ → (i : ℕ) × (r : Policy) × Spine q i r × Reaches P q i t.μ γ × Tr P r γ w δ)
          → (i : ℕ) × (r : Policy) × Spine (seq p q) i r × Reaches P (seq p q) i α γ × Tr P r γ w δ
      go [] e h f g =
          let r = g (subst (λ x. Tr P q t.μ x δ) (sym e) t.second) in
          (r.0, r.1, inr r.2, inr (t.μ, (passes_iff p α t.μ).1 h, r.3), r.4)
      go (c ∷ u) e h f g =
          let s = records (Tr P p) (Tr P q) u t.v e h t.second in
          let r = f s.u s.μ s.first in (
            r.0,
            seq r.1 q,
            inl (r.1, r.2, refl),
            inl r.3,
            record { u = s.u; v = s.v; μ = s.μ; split = s.split; first = r.4; second = s.second },
          )
  first_dup (star p) α γ w δ t =
      let k = turn (Tr P p) γ w t refl in
      let s = k.2 in
      let r = first_dup p k.0 γ s.u s.μ s.first in (
        r.0,
        seq r.1 (star p),
        (r.1, r.2, refl),
        (k.0, (passes_iff (star p) α k.0).1 k.1, r.3),
        record { u = s.u; v = s.v; μ = s.μ; split = s.split; first = r.4; second = s.second },
      )
  first_dup (neg p) α γ w δ t = absurd (cons≢nil t.0)

  pub dup_first : (p : Policy) (i : ℕ) (α γ : P.Packet) → Reaches P p i α γ
      → (r : Policy) × Spine p i r × ((w : List P.Packet) (δ : P.Packet) → Tr P r γ w δ → Tr P p α (γ ∷ w) δ)
  unfolding Tr Spine Reaches
  dup_first drop i α γ h = absurd h
  dup_first id i α γ h = absurd h
  dup_first (field a) i α γ h = absurd h
  dup_first (dup k) i α γ h = (id, (h.0, refl), λ w δ t. (ap₂ (λ c u. c ∷ u) h.1 t.0, t.1 ∙ h.1))
  dup_first (sum p q) i α γ (inl h) = let r = dup_first p i α γ h in (r.0, inl r.1, λ w δ t. inl (r.2 w δ t))
  dup_first (sum p q) i α γ (inr h) = let r = dup_first q i α γ h in (r.0, inr r.1, λ w δ t. inr (r.2 w δ t))
  dup_first (seq p q) i α γ (inl h) =
      let r = dup_first p i α γ h in (
        seq r.0 q,
        inl (r.0, r.1, refl),
        λ w δ t. record { u = γ ∷ t.u; v = t.v; μ = t.μ; split = ap (λ x. γ ∷ x) t.split; first = r.2 t.u t.μ t.first; second = t.second },
      )
  dup_first (seq p q) i α γ (inr h) =
      let r = dup_first q i h.0 γ h.2 in (
        r.0,
        inr r.1,
        λ w δ t. record { u = []; v = γ ∷ w; μ = h.0; split = refl; first = (passes_iff p α h.0).0 h.1; second = r.2 w δ t },
      )
  dup_first (star p) i α γ h =
      let r = dup_first p i h.0 γ h.2 in (
        seq r.0 (star p),
        (r.0, r.1, refl),
        λ w δ t. star_append (Tr P p) (γ ∷ w) (γ ∷ w) refl ((passes_iff (star p) α h.0).0 h.1)
            (more (γ ∷ t.u) t.v t.μ (ap (λ x. γ ∷ x) t.split) (r.2 t.u t.μ t.first) t.second),
      )
  dup_first (neg p) i α γ h = absurd h

  -- ---- for remainders

  module _ {k : ℕ} (p : Policy) (ok : Labelled k p) (j : ℕ) (β γ : P.Packet) where
    -- a remainder reaches dups of the policy alone
    pub reached_has : (i : ℕ) → Reaches P (remainder p j) i β γ → HasDup p i
    reached_has i h = let r = dup_first (remainder p j) i β γ h in spine_has p i r.0 (remainder_spine p j i r.0 r.1)

    -- a longer trace of a remainder is one of the remainder of the dup that it reaches first
    pub remainder_iff : (w : List P.Packet) (δ : P.Packet)
        → Traces P (remainder p j) β (γ ∷ (w ++ (δ ∷ []))) ↔ ((i : ℕ) × Reaches P (remainder p j) i β γ × Traces P (remainder p i) γ (w ++ (δ ∷ [])))
    remainder_iff w δ = (there, λ h. back h.0 h.1 h.2)
      where
        same : (i : ℕ) (r : Policy) → Spine (remainder p j) i r → remainder p i ≡ r
        same i r s = spine_remainder p ok i r (remainder_spine p j i r s)

        there : Traces P (remainder p j) β (γ ∷ (w ++ (δ ∷ []))) → (i : ℕ) × Reaches P (remainder p j) i β γ × Traces P (remainder p i) γ (w ++ (δ ∷ []))
        there t =
            let r = first_dup (remainder p j) β γ w δ ((traces_iff P (remainder p j) β (γ ∷ w) δ).0 t) in
            (r.0, r.3, (traces_iff P (remainder p r.0) γ w δ).1 (subst (λ x. Tr P x γ w δ) (sym (same r.0 r.1 r.2)) r.4))

        back : (i : ℕ) → Reaches P (remainder p j) i β γ → Traces P (remainder p i) γ (w ++ (δ ∷ [])) → Traces P (remainder p j) β (γ ∷ (w ++ (δ ∷ [])))
        back i h t =
            let r = dup_first (remainder p j) i β γ h in
            (traces_iff P (remainder p j) β (γ ∷ w) δ).1
            (r.2 w δ (subst (λ x. Tr P x γ w δ) (same i r.0 r.1) ((traces_iff P (remainder p i) γ w δ).0 t)))
