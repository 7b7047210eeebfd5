-- What a node lets through and which dups it reaches, from the same of its children.
use Prim.Native.Nat.{ℕ, suc, pred, ◌<◌}
use mathlib.Core.List.{List, [], ◌∷◌, ◌++◌, nil≢cons}
use mathlib.Core.Logic.Iff
use mathlib.Core.Logic.{◌⊎◌, ◌↔◌}
use mathlib.Core.Path.{◌≡◌, refl, sym, ap, ◌∙◌, subst}
use native.Mathlib.Omega.{arith}
use Rattle.packet.specs.Packets.{changed}
use Rattle.packet.specs.Sizes.{product}
use Rattle.policy.specs.declared.FieldAction.TheVariants.{Set}
use Rattle.policy.specs.declared.Node.{Node}
use Rattle.policy.specs.declared.Node.TheVariants.{Field, Dup, Sum, Seq, Star}
use Rattle.policy.specs.InnerEach.{Each}
use Rattle.policy.specs.Legality.{Legal}
use Rattle.policy.specs.Meaning.{Packets, numbered, Traces}
use Rattle.policy.specs.NodeLists.{NodeLists, node_count, node_at, children, dups_below, grow, policy_of, tree_of}
use Rattle.policy.specs.Tree.{Policy, field, dup, seq, star}
use Rattle.policy.proofs.Numbered.{traces_below}
use Rattle.policy.proofs.Trees.{children_below, two_below, one_below, tree_fuel, tree_grow, tree_fields}
use Rattle.automaton.specs.Reaches.{Passes, Reaches}
use Rattle.automaton.proofs.Words.{Rel, Then, Star as Stars, done, more, Acts, Tr, traces_iff}

-- ---- policies

nil_split : {A : Type 0} (u v : List A) → [] ≡ u ++ v → (u ≡ []) × (v ≡ [])
nil_split [] v e = (refl, sym e)
nil_split (c ∷ u) v e = absurd (nil≢cons e)

module _ (P : Packets) where
  -- two relations in turn, nothing recorded
  pub then_nil : (A B : Rel P) (α γ : P.Packet) → Then P A B α [] γ ↔ ((μ : P.Packet) × A α [] μ × B μ [] γ)
  then_nil A B α γ = (
    λ t.
        let e = nil_split t.u t.v t.split in
        (t.μ, subst (λ x. A α x t.μ) e.0 t.first, subst (λ x. B t.μ x γ) e.1 t.second),
    λ h. record { u = []; v = []; μ = h.0; split = refl; first = h.1; second = h.2 },
  )

  pub passes_iff : (p : Policy) (α γ : P.Packet) → Passes P p α γ ↔ Tr P p α [] γ
  unfolding Passes
  passes_iff p α γ = traces_iff P p α [] γ

  passes_seq : (p q : Policy) (α γ : P.Packet) → Passes P (seq p q) α γ ↔ ((μ : P.Packet) × Passes P p α μ × Passes P q μ γ)
  unfolding Tr
  passes_seq p q α γ =
      let a = passes_iff (seq p q) α γ in
      let b = then_nil (Tr P p) (Tr P q) α γ in (
        λ h. let k = b.0 (a.0 h) in (k.0, (passes_iff p α k.0).1 k.1, (passes_iff q k.0 γ).1 k.2),
        λ h. a.1 (b.1 (h.0, (passes_iff p α h.0).0 h.1, (passes_iff q h.0 γ).0 h.2)),
      )

  -- any number of times through p, nothing recorded
  pub data Turns (p : Policy) : P.Packet → P.Packet → Type 0 where
    stay : {α γ : P.Packet} → γ ≡ α → Turns p α γ
    turn : {α γ : P.Packet} (μ : P.Packet) → Passes P p α μ → Turns p μ γ → Turns p α γ

  turns_star : (p : Policy) {α γ : P.Packet} → Turns p α γ → Stars P (Tr P p) α [] γ
  turns_star p (stay e) = done refl e
  turns_star p {α} (turn μ h t) = more [] [] μ refl ((passes_iff p α μ).0 h) (turns_star p t)

  star_turns : (p : Policy) {α γ : P.Packet} {w : List P.Packet} → Stars P (Tr P p) α w γ → [] ≡ w → Turns p α γ
  star_turns p (done e d) n = stay d
  star_turns p {α} (more u v μ s h t) n =
      let k = nil_split u v (n ∙ s) in
      turn μ ((passes_iff p α μ).1 (subst (λ x. Tr P p α x μ) k.0 h)) (star_turns p t (sym k.1))

  pub star_iff : (p : Policy) (α γ : P.Packet) → Stars P (Tr P p) α [] γ ↔ Turns p α γ
  star_iff p α γ = (λ s. star_turns p s refl, turns_star p)

  passes_star : (p : Policy) (α γ : P.Packet) → Passes P (star p) α γ ↔ Turns p α γ
  unfolding Tr
  passes_star p α γ = Iff.trans (passes_iff (star p) α γ) (star_iff p α γ)

  turns_more : (p : Policy) {α μ γ : P.Packet} → Turns p α μ → Passes P p μ γ → Turns p α γ
  turns_more p {γ} (stay e) h = turn γ (subst (λ x. Passes P p x γ) e h) (stay refl)
  turns_more p (turn ν k t) h = turn ν k (turns_more p t h)

-- ---- nodes

module _ {sizes : List ℕ} {L : NodeLists} (lg : Legal sizes L) where
  -- children stand below their parents
  pub two_kids : (n x y : ℕ) → n < node_count L → children (node_at L n) ≡ x ∷ y ∷ [] → (x < n) × (y < n)
  two_kids n x y l e = two_below L (children_below lg.well_formed) n x y l e

  pub one_kid : (n x : ℕ) → n < node_count L → children (node_at L n) ≡ x ∷ [] → x < n
  one_kid n x l e = one_below L (children_below lg.well_formed) n x l e

  -- the tree of a node of the given kind
  pub tree_at : (n : ℕ) → n < node_count L → (d : Node) → node_at L n ≡ d → tree_of L n ≡ grow (tree_of L) (dups_below L (suc n)) d
  tree_at n l d e = tree_grow L (children_below lg.well_formed) n l ∙ ap (grow (tree_of L) (dups_below L (suc n))) e

  -- the root
  pub root_inside : pred (node_count L) < node_count L
  root_inside = let some = lg.some in omega arith

  pub root_tree : tree_of L (pred (node_count L)) ≡ policy_of L
  unfolding tree_of policy_of
  root_tree =
      let some = lg.some in
      tree_fuel L (children_below lg.well_formed) (suc (pred (node_count L))) (node_count L) (pred (node_count L)) (omega arith) (omega arith) (omega arith)

  abbrev P : Packets
  P = numbered sizes

  -- node n lets α through as γ and records nothing
  abbrev Pass : ℕ → ℕ → ℕ → Type 0
  Pass n α γ = Passes P (tree_of L n) α γ

  -- from α, node n reaches dup i with γ
  abbrev Reach : ℕ → ℕ → ℕ → ℕ → Type 0
  Reach n i α γ = Reaches P (tree_of L n) i α γ

  -- packets stay below N
  pub pass_below : (n : ℕ) → n < node_count L → (α γ : ℕ) → α < product sizes → Passes (numbered sizes) (tree_of L n) α γ → γ < product sizes
  unfolding tree_of Passes Each
  pass_below n l α γ b h = (traces_below sizes (tree_of L n) (tree_fields lg.well_formed (suc n) n (omega arith) l) α b (γ ∷ []) h).0

  module _ (n : ℕ) (l : n < node_count L) where
    pub change_pass : (f v : ℕ) → node_at L n ≡ Field (Set f v) → (α γ : ℕ)
        → Passes (numbered sizes) (tree_of L n) α γ ↔ (γ ≡ changed sizes f v α)
    unfolding grow Tr Acts
    change_pass f v e α γ =
        subst (λ p. Passes P p α γ ↔ (γ ≡ changed sizes f v α)) (sym (tree_at n l (Field (Set f v)) e))
        (let k = passes_iff P (field (Set f v)) α γ in (λ h. (k.0 h).1, λ h. k.1 (refl, h)))

    pub dup_pass : node_at L n ≡ Dup → (α γ : ℕ) → Passes (numbered sizes) (tree_of L n) α γ → ⊥
    unfolding grow Tr
    dup_pass e α γ h = nil≢cons ((passes_iff P (dup (dups_below L (suc n))) α γ).0 (subst (λ p. Passes P p α γ) (tree_at n l Dup e) h)).0

    pub dup_reach : node_at L n ≡ Dup → (i α γ : ℕ) → Reaches (numbered sizes) (tree_of L n) i α γ ↔ ((i ≡ dups_below L (suc n)) × (γ ≡ α))
    unfolding grow Reaches
    dup_reach e i α γ =
        subst (λ p. Reaches P p i α γ ↔ ((i ≡ dups_below L (suc n)) × (γ ≡ α))) (sym (tree_at n l Dup e)) (λ h. h, λ h. h)

    module _ (x y : ℕ) (e : node_at L n ≡ Sum x y) where
      pub sum_pass : (α γ : ℕ)
          → Passes (numbered sizes) (tree_of L n) α γ ↔ (Passes (numbered sizes) (tree_of L x) α γ ⊎ Passes (numbered sizes) (tree_of L y) α γ)
      unfolding grow Passes Traces
      sum_pass α γ = subst (λ p. Passes P p α γ ↔ (Pass x α γ ⊎ Pass y α γ)) (sym (tree_at n l (Sum x y) e)) (λ h. h, λ h. h)

      pub sum_reach : (i α γ : ℕ)
          → Reaches (numbered sizes) (tree_of L n) i α γ ↔ (Reaches (numbered sizes) (tree_of L x) i α γ ⊎ Reaches (numbered sizes) (tree_of L y) i α γ)
      unfolding grow Reaches
      sum_reach i α γ = subst (λ p. Reaches P p i α γ ↔ (Reach x i α γ ⊎ Reach y i α γ)) (sym (tree_at n l (Sum x y) e)) (λ h. h, λ h. h)

    module _ (x y : ℕ) (e : node_at L n ≡ Seq x y) where
      pub seq_pass : (α γ : ℕ)
          → Passes (numbered sizes) (tree_of L n) α γ
          ↔ ((μ : ℕ) × Passes (numbered sizes) (tree_of L x) α μ × Passes (numbered sizes) (tree_of L y) μ γ)
      unfolding grow
      seq_pass α γ =
          subst (λ p. Passes P p α γ ↔ ((μ : ℕ) × Pass x α μ × Pass y μ γ)) (sym (tree_at n l (Seq x y) e)) (passes_seq P (tree_of L x) (tree_of L y) α γ)

      pub seq_reach : (i α γ : ℕ)
          → Reaches (numbered sizes) (tree_of L n) i α γ
          ↔ (Reaches (numbered sizes) (tree_of L x) i α γ ⊎ ((μ : ℕ) × Passes (numbered sizes) (tree_of L x) α μ × Reaches (numbered sizes) (tree_of L y) i μ γ))
      unfolding grow Reaches
      seq_reach i α γ =
          subst (λ p. Reaches P p i α γ ↔ (Reach x i α γ ⊎ ((μ : ℕ) × Pass x α μ × Reach y i μ γ))) (sym (tree_at n l (Seq x y) e)) (λ h. h, λ h. h)

    module _ (x : ℕ) (e : node_at L n ≡ Star x) where
      pub star_pass : (α γ : ℕ) → Passes (numbered sizes) (tree_of L n) α γ ↔ Turns (numbered sizes) (tree_of L x) α γ
      unfolding grow
      star_pass α γ = subst (λ p. Passes P p α γ ↔ Turns P (tree_of L x) α γ) (sym (tree_at n l (Star x) e)) (passes_star P (tree_of L x) α γ)

      -- a star lets each packet through
      pub star_pass_self : (α : ℕ) → Passes (numbered sizes) (tree_of L n) α α
      star_pass_self α = (star_pass α α).1 (stay refl)

      -- once more through the body
      pub star_pass_more : (α μ γ : ℕ) → Passes (numbered sizes) (tree_of L n) α μ → Passes (numbered sizes) (tree_of L x) μ γ
          → Passes (numbered sizes) (tree_of L n) α γ
      star_pass_more α μ γ h k = (star_pass α γ).1 (turns_more P (tree_of L x) ((star_pass α μ).0 h) k)

      pub star_reach : (i α γ : ℕ)
          → Reaches (numbered sizes) (tree_of L n) i α γ
          ↔ ((μ : ℕ) × Passes (numbered sizes) (tree_of L n) α μ × Reaches (numbered sizes) (tree_of L x) i μ γ)
      unfolding grow Reaches
      star_reach i α γ =
          subst (λ p. Reaches P p i α γ ↔ ((μ : ℕ) × Passes P p α μ × Reach x i μ γ)) (sym (tree_at n l (Star x) e)) (λ h. h, λ h. h)
