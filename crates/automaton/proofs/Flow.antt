-- What flows through a policy and what enters its dups, exactly.
use Prim.Native.Nat.{ℕ, zero, suc, ◌<◌}
use mathlib.Core.Bool.{true, false, ◌&&◌}
use mathlib.Core.List.{List, [], ◌∷◌, ◌++◌, nil≢cons}
use mathlib.Core.Logic.Iff
use mathlib.Core.Logic.{◌⊎◌, inl, inr, ⊎_map, ⊎_elim, ◌↔◌}
use mathlib.Core.Path.{◌≡◌, refl, sym, ◌∙◌, subst}
use lib.Dec.{T, eqb, eqb→eq}
use Rattle.packet.specs.Sizes.{product}
use Rattle.packet.proofs.Packets.{changed_below}
use Rattle.packet.proofs.Tests.{and_true}
use Rattle.policy.specs.declared.FieldAction.{FieldAction}
use Rattle.policy.specs.declared.FieldAction.TheVariants.{Equals, Differs, Set}
use Rattle.policy.specs.Legality.{bad_field, field_of, value_of, InFields}
use Rattle.policy.specs.Meaning.{Packets, numbered, Drops, Traces}
use Rattle.policy.specs.Tests.{is_test, negates_tests}
use Rattle.policy.specs.Tree.{Policy, drop, id, field, dup, sum, seq, star, neg}
use Rattle.policy.proofs.Numbered.{value_below}
use Rattle.policy.proofs.TestLaws.{test_negates, test_traces}
use Rattle.packet_set.specs.Bits.{bit}
use Rattle.automaton.specs.Reaches.{Passes, Reaches}
use Rattle.automaton.specs.State.{PacketSet, single, union, star_rounds, flow, enter}
use Rattle.automaton.proofs.Tests.{eqb_true, both}
use Rattle.automaton.proofs.Words.{Acts, Tr, Star, done, more}
use Rattle.automaton.proofs.Fundamental.{passes_iff, star_append}
use Rattle.automaton.proofs.Sets.{Fits, below, set_of_fits, set_of_iff, same_set, single_fits, single_iff, empty, empty_fits, cond_fits, cond_iff, union_fits, union_iff, image_fits, image_iff, rounds_fits, round_iff, rounds_enough}

nil_split : {A : Type 0} (u v : List A) → [] ≡ u ++ v → (u ≡ []) × (v ≡ [])
nil_split [] v e = (refl, sym e)
nil_split (c ∷ u) v e = absurd (nil≢cons e)

module _ (sizes : List ℕ) where
  abbrev P : Packets
  P = numbered sizes

  -- changed packets are below N
  keeps : (a : FieldAction) → bad_field sizes (field_of a) (value_of a) ≡ false → (α γ : ℕ) → α < product sizes → Acts P a α γ → γ < product sizes
  unfolding Acts field_of value_of
  keeps (Equals f v) e α γ l h = subst (λ x. x < product sizes) (sym h.1) l
  keeps (Differs f v) e α γ l h = subst (λ x. x < product sizes) (sym h.1) l
  keeps (Set f v) e α γ l h = subst (λ x. x < product sizes) (sym h) (changed_below sizes f v α (value_below sizes f v e) l)

  -- ---- sets stay below N

  pub flow_fits : (p : Policy) (X : PacketSet) → Fits sizes X → Fits sizes (flow sizes p X)
  unfolding flow
  flow_fits drop X h = empty_fits sizes
  flow_fits id X h = h
  flow_fits (field a) X h = image_fits sizes a X
  flow_fits (dup i) X h = empty_fits sizes
  flow_fits (sum p q) X h = union_fits sizes _ _
  flow_fits (seq p q) X h = flow_fits q (flow sizes p X) (flow_fits p X h)
  flow_fits (star p) X h = rounds_fits sizes (flow sizes p) (flow_fits p) X h _
  flow_fits (neg p) X h = set_of_fits sizes _

  pub enter_fits : (p : Policy) (X : PacketSet) → Fits sizes X → (i : ℕ) → Fits sizes (enter sizes p X i)
  unfolding enter
  enter_fits drop X h i = empty_fits sizes
  enter_fits id X h i = empty_fits sizes
  enter_fits (field a) X h i = empty_fits sizes
  enter_fits (dup j) X h i = cond_fits sizes (eqb i j) X h
  enter_fits (sum p q) X h i = union_fits sizes _ _
  enter_fits (seq p q) X h i = union_fits sizes _ _
  enter_fits (star p) X h i = enter_fits p (flow sizes (star p) X) (flow_fits (star p) X h) i
  enter_fits (neg p) X h i = empty_fits sizes

  -- ---- from the packets of a set

  abbrev In : PacketSet → ℕ → Type 0
  In X γ = T (bit X γ)

  -- some packet of X is so related to γ
  abbrev pub From : PacketSet → (ℕ → ℕ → Type 0) → ℕ → Type 0
  From X R γ = (α : ℕ) × In X α × R α γ

  from_nothing : (X : PacketSet) (R : ℕ → ℕ → Type 0) (γ : ℕ) → ((α : ℕ) → R α γ → ⊥) → In 0 γ ↔ From X R γ
  from_nothing X R γ n = (λ t. absurd (empty sizes γ t), λ h. absurd (n h.0 h.2))

  from_union : (A B X : PacketSet) (R S : ℕ → ℕ → Type 0) (γ : ℕ) → Fits sizes A → Fits sizes B → In A γ ↔ From X R γ → In B γ ↔ From X S γ
      → In (union sizes A B) γ ↔ From X (λ α γ. R α γ ⊎ S α γ) γ
  from_union A B X R S γ ha hb a b =
      let e = union_iff sizes A B ha hb γ in (
        λ t. ⊎_elim (λ h. let r = a.0 h in (r.0, r.1, inl r.2)) (λ h. let r = b.0 h in (r.0, r.1, inr r.2)) (e.0 t),
        λ h. e.1 (⊎_map (λ r. a.1 (h.0, h.1, r)) (λ r. b.1 (h.0, h.1, r)) h.2),
      )

  -- Y comes from X by R
  from_onward : (Y X : PacketSet) (R S : ℕ → ℕ → Type 0) → ((μ : ℕ) → In Y μ ↔ From X R μ) → (γ : ℕ)
      → From Y S γ ↔ From X (λ α γ. (μ : ℕ) × R α μ × S μ γ) γ
  from_onward Y X R S e γ = (
    λ h. let r = (e h.0).0 h.1 in (r.0, r.1, (h.0, r.2, h.2)),
    λ h. (h.2.0, (e h.2.0).1 (h.0, h.1, h.2.1), h.2.2),
  )

  from_same : (X : PacketSet) {R S : ℕ → Type 0} → ((α : ℕ) → R α ↔ S α) → ((α : ℕ) × In X α × R α) ↔ ((α : ℕ) × In X α × S α)
  from_same X e = (λ h. (h.0, h.1, (e h.0).0 h.2), λ h. (h.0, h.1, (e h.0).1 h.2))

  -- ---- what flows through

  -- from α to γ, recording nothing
  abbrev Silent : Policy → ℕ → ℕ → Type 0
  Silent p α γ = Tr P p α [] γ

  -- a star: what comes out of N rounds
  module _ (p : Policy) (exact : (Y : PacketSet) → Fits sizes Y → (γ : ℕ) → In (flow sizes p Y) γ ↔ From Y (Silent p) γ) (X : PacketSet) (hx : Fits sizes X) where
    abbrev S : ℕ → PacketSet
    S k = star_rounds sizes k (flow sizes p) X

    fits : (k : ℕ) → Fits sizes (S k)
    fits k = rounds_fits sizes (flow sizes p) (flow_fits p) X hx k

    round : (k γ : ℕ) → In (S (suc k)) γ ↔ (In (S k) γ ⊎ In (flow sizes p (S k)) γ)
    round k γ = round_iff sizes (flow sizes p) (flow_fits p) X hx k γ

    contains : (k γ : ℕ) → In X γ → In (S k) γ
    unfolding star_rounds
    contains zero γ x = x
    contains (suc k) γ x = (round k γ).1 (inl (contains k γ x))

    closed : (α γ : ℕ) → In (S (product sizes)) α → Silent p α γ → In (S (product sizes)) γ
    closed α γ y h =
        subst (λ Y. In Y γ) (rounds_enough sizes (flow sizes p) (flow_fits p) X hx)
        ((round (product sizes) γ).1 (inr ((exact (S (product sizes)) (fits (product sizes)) γ).1 (α, y, h))))

    sound : (k γ : ℕ) → In (S k) γ → From X (Silent (star p)) γ
    unfolding star_rounds Tr
    sound zero γ x = (γ, x, done refl refl)
    sound (suc k) γ t = go ((round k γ).0 t) (sound k)
      where
        go : In (S k) γ ⊎ In (flow sizes p (S k)) γ → ((α : ℕ) → In (S k) α → From X (Silent (star p)) α) → From X (Silent (star p)) γ
        go (inl h) f = f γ h
        go (inr h) f =
            let r = (exact (S k) (fits k) γ).0 h in
            let s = f r.0 r.1 in
            (s.0, s.1, star_append P (Tr P p) [] [] refl s.2 (more [] [] γ refl r.2 (done refl refl)))

    complete : {α δ : ℕ} {w : List ℕ} → In (S (product sizes)) α → Star P (Tr P p) α w δ → [] ≡ w → In (S (product sizes)) δ
    complete y (done n d) e = subst (In (S (product sizes))) (sym d) y
    complete {α} y (more u v μ s h t) e =
        let k = nil_split u v (e ∙ s) in
        complete (closed α μ y (subst (λ x. Tr P p α x μ) k.0 h)) t (sym k.1)

    star_exact : (γ : ℕ) → In (S (product sizes)) γ ↔ From X (Silent (star p)) γ
    unfolding Tr
    star_exact γ = (sound (product sizes) γ, λ h. complete (contains (product sizes) h.0 h.1) h.2 refl)

  silent_seq : (p q : Policy) (α γ : ℕ) → ((μ : ℕ) × Silent p α μ × Silent q μ γ) ↔ Silent (seq p q) α γ
  unfolding Tr
  silent_seq p q α γ = (
    λ h. record { u = []; v = []; μ = h.0; split = refl; first = h.1; second = h.2 },
    λ h. let e = nil_split h.u h.v h.split in
        (h.μ, subst (λ x. Tr P p α x h.μ) e.0 h.first, subst (λ x. Tr P q h.μ x γ) e.1 h.second),
  )

  -- a negation: the packets of X that the test drops
  module _ (p : Policy) (test : is_test p ≡ true) (exact : (Y : PacketSet) → Fits sizes Y → (γ : ℕ) → In (flow sizes p Y) γ ↔ From Y (Silent p) γ) where
    abbrev by_itself : ℕ → PacketSet
    by_itself γ = flow sizes p (single sizes γ)

    from_itself : (γ δ : ℕ) → γ < product sizes → In (by_itself γ) δ ↔ Passes P p γ δ
    from_itself γ δ l =
        let e = exact (single sizes γ) (single_fits sizes γ) δ in (
          λ t. let r = e.0 t in
              let s = (single_iff sizes γ r.0).0 r.1 in
              (passes_iff P p γ δ).1 (subst (λ α. Silent p α δ) s.1 r.2),
          λ h. e.1 (γ, (single_iff sizes γ γ).1 (l, refl), (passes_iff P p γ δ).0 h),
        )

    dropped : (γ : ℕ) → γ < product sizes → T (eqb (by_itself γ) 0) ↔ Drops P (Traces P p) γ
    unfolding Drops Passes
    dropped γ l = (
      λ t u h.
          let s = (test_traces P p test γ u).0 h in
          empty sizes γ (subst (λ Y. In Y γ) (eqb→eq (by_itself γ) 0 t) ((from_itself γ γ l).1 (subst (Traces P p γ) s.1 h))),
      λ d.
          eqb_true (by_itself γ) 0
          (same_set sizes (by_itself γ) 0 (flow_fits p (single sizes γ) (single_fits sizes γ)) (empty_fits sizes)
          (λ δ t. absurd (d (δ ∷ []) ((from_itself γ δ l).0 t))) (λ δ t. absurd (empty sizes δ t))),
    )

    neg_exact : (X : PacketSet) → Fits sizes X → (γ : ℕ) → In (flow sizes (neg p) X) γ ↔ From X (Silent (neg p)) γ
    unfolding flow Tr
    neg_exact X h γ =
        let e = set_of_iff sizes (λ γ. bit X γ && eqb (by_itself γ) 0) γ in (
          λ t. let r = e.0 t in
              let b = (both (bit X γ) (eqb (by_itself γ) 0)).0 r.1 in
              (γ, b.0, (refl, (dropped γ r.0).0 b.1, refl)),
          λ r.
              let x : In X γ = subst (In X) (sym r.2.2) r.1 in
              let l = below sizes X h γ x in
              e.1 (l, (both (bit X γ) (eqb (by_itself γ) 0)).1 (x, (dropped γ l).1 (subst (Drops P (Traces P p)) (sym r.2.2) r.2.1))),
        )

  silently : (p : Policy) → InFields sizes p → negates_tests p ≡ true → (X : PacketSet) → Fits sizes X → (γ : ℕ) → In (flow sizes p X) γ ↔ From X (Silent p) γ
  unfolding flow InFields negates_tests Tr
  silently drop f n X h γ = from_nothing X (Silent drop) γ (λ α t. t)
  silently id f n X h γ = (λ t. (γ, t, (refl, refl)), λ r. subst (In X) (sym r.2.1) r.1)
  silently (field a) f n X h γ =
      let e = image_iff sizes a (keeps a f) X h γ in
      (λ t. let r = e.0 t in (r.0, r.1, (refl, r.2)), λ r. e.1 (r.0, r.1, r.2.1))
  silently (dup i) f n X h γ = from_nothing X (Silent (dup i)) γ (λ α t. nil≢cons t.0)
  silently (sum p q) f n X h γ =
      let k = and_true (negates_tests p) (negates_tests q) n in
      from_union (flow sizes p X) (flow sizes q X) X (Silent p) (Silent q) γ (flow_fits p X h) (flow_fits q X h) (silently p f.0 k.0 X h γ)
      (silently q f.1 k.1 X h γ)
  silently (seq p q) f n X h γ =
      let k = and_true (negates_tests p) (negates_tests q) n in
      Iff.trans (silently q f.1 k.1 (flow sizes p X) (flow_fits p X h) γ)
      (Iff.trans (from_onward (flow sizes p X) X (Silent p) (Silent q) (silently p f.0 k.0 X h) γ) (from_same X (λ α. silent_seq p q α γ)))
  silently (star p) f n X h γ = star_exact p (silently p f n) X h γ
  silently (neg p) f n X h γ = neg_exact p n (silently p f (test_negates p n)) X h γ

  -- the packets that come out of p unrecorded
  pub flow_iff : (p : Policy) → InFields sizes p → negates_tests p ≡ true → (X : PacketSet) → Fits sizes X → (γ : ℕ) → In (flow sizes p X) γ ↔ From X (Passes P p) γ
  flow_iff p f n X h γ = Iff.trans (silently p f n X h γ) (from_same X (λ α. Iff.symm (passes_iff P p α γ)))

  -- the packets with which dup i is reached first
  pub enter_iff : (p : Policy) → InFields sizes p → negates_tests p ≡ true → (X : PacketSet) → Fits sizes X → (i γ : ℕ) → In (enter sizes p X i) γ ↔ From X (Reaches P p i) γ
  unfolding enter InFields negates_tests Reaches
  enter_iff drop f n X h i γ = from_nothing X (Reaches P drop i) γ (λ α t. t)
  enter_iff id f n X h i γ = from_nothing X (Reaches P id i) γ (λ α t. t)
  enter_iff (field a) f n X h i γ = from_nothing X (Reaches P (field a) i) γ (λ α t. t)
  enter_iff (dup k) f n X h i γ =
      let e = cond_iff sizes (eqb i k) X γ in (
        λ t. let c = e.0 t in (γ, c.1, (eqb→eq i k c.0, refl)),
        λ r. e.1 (eqb_true i k r.2.0, subst (In X) (sym r.2.1) r.1),
      )
  enter_iff (sum p q) f n X h i γ =
      let k = and_true (negates_tests p) (negates_tests q) n in
      from_union (enter sizes p X i) (enter sizes q X i) X (Reaches P p i) (Reaches P q i) γ (enter_fits p X h i) (enter_fits q X h i)
      (enter_iff p f.0 k.0 X h i γ) (enter_iff q f.1 k.1 X h i γ)
  enter_iff (seq p q) f n X h i γ =
      let k = and_true (negates_tests p) (negates_tests q) n in
      let Y = flow sizes p X in
      let hy = flow_fits p X h in
      from_union (enter sizes p X i) (enter sizes q Y i) X (Reaches P p i) (λ α γ. (μ : ℕ) × Passes P p α μ × Reaches P q i μ γ) γ (enter_fits p X h i)
      (enter_fits q Y hy i) (enter_iff p f.0 k.0 X h i γ)
      (Iff.trans (enter_iff q f.1 k.1 Y hy i γ) (from_onward Y X (Passes P p) (Reaches P q i) (flow_iff p f.0 k.0 X h) γ))
  enter_iff (star p) f n X h i γ =
      let Y = flow sizes (star p) X in
      Iff.trans (enter_iff p f n Y (flow_fits (star p) X h) i γ) (from_onward Y X (Passes P (star p)) (Reaches P p i) (flow_iff (star p) f n X h) γ)
  enter_iff (neg p) f n X h i γ = from_nothing X (Reaches P (neg p) i) γ (λ α t. t)
