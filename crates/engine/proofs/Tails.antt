-- From a dup up to the root: what comes out of a node goes on at the sequence whose first part it ends, or at the star whose body it
-- ends. So it goes through what remains of the policy after the dup.
use Prim.Native.Nat.{ℕ, zero, suc, pred, ◌<◌}
use mathlib.Core.Bool.{false}
use mathlib.Core.List.{List}
use mathlib.Core.Logic.{◌⊎◌, inl, inr, ⊎_elim}
use mathlib.Core.Path.{◌≡◌, refl, sym, ap, ◌∙◌, subst}
use native.Mathlib.Nat.{not-suc-le-zero}
use native.Mathlib.Omega.{arith}
use Rattle.policy.specs.declared.Node.{Node}
use Rattle.policy.specs.declared.Node.TheVariants.{Drop, Id, Field, Dup, Sum, Seq, Star, Neg}
use Rattle.policy.specs.Legality.{Legal}
use Rattle.policy.specs.Meaning.{numbered}
use Rattle.policy.specs.NodeLists.{NodeLists, node_count, node_at, children, is_dup, dups_below, tree_of}
use Rattle.policy.specs.Visits.{InTree, HasDup}
use Rattle.policy.proofs.LabelLaws.{label_stands}
use Rattle.policy.proofs.VisitLaws.{exactly_once}
use Rattle.automaton.specs.Reaches.{Passes, Reaches}
use Rattle.loaded.specs.Nodes.{tests_at, up_at}
use Rattle.loaded.specs.Loaded.{Linked, Enterable, Enters, DupAt, Loaded}
use Rattle.engine.proofs.Parts.{two_kids, one_kid, root_inside}
use Rattle.engine.proofs.Remains.{HasAt, RemPass, RemReach, HasBy, PassBy, ReachBy, same_label, has_by, pass_by, reach_by}
use Rattle.engine.proofs.Closing.{Starred, rest_of, has_moves}

-- what becomes of a packet: it comes out of the root with δ, or it reaches dup j with δ
pub data Aim : Type 0 where
  leaves : ℕ → Aim
  meets : ℕ → ℕ → Aim

-- coming out of the root with γ
unfoldable pub Leaves : Aim → ℕ → Type 0
Leaves (leaves δ) γ = δ ≡ γ
Leaves (meets j δ) γ = ⊥

module _ (sizes : List ℕ) (L : NodeLists) where
  -- reaching the dup in node n, from γ
  unfoldable pub MeetsIn : Aim → ℕ → ℕ → Type 0
  MeetsIn (leaves δ) n γ = ⊥
  MeetsIn (meets j δ) n γ = Reaches (numbered sizes) (tree_of L n) j γ δ

  -- reaching it in what remains of node n after dup i, from β
  unfoldable pub MeetsAfter : Aim → ℕ → ℕ → ℕ → Type 0
  MeetsAfter (leaves δ) n i β = ⊥
  MeetsAfter (meets j δ) n i β = RemReach sizes L n i j β δ

  module _ (nodes : List ℕ) where
    -- from coming out of node m with γ to the end
    pub data Tail (a : Aim) : ℕ → ℕ → Type 0 where
      top : {m γ : ℕ} → up_at nodes m ≡ 512 → Leaves a γ → Tail a m γ
      rest_meets : {m γ : ℕ} (q x y : ℕ) → up_at nodes m ≡ q → q < node_count L → node_at L q ≡ Seq x y → MeetsIn a y γ → Tail a m γ
      rest : {m γ : ℕ} (q x y μ : ℕ) → up_at nodes m ≡ q → q < node_count L → node_at L q ≡ Seq x y → Passes (numbered sizes) (tree_of L y) γ μ
          → Tail a q μ → Tail a m γ
      again_meets : {m γ : ℕ} (q c : ℕ) → up_at nodes m ≡ q → q < node_count L → node_at L q ≡ Star c → MeetsIn a q γ → Tail a m γ
      again : {m γ : ℕ} (q c μ : ℕ) → up_at nodes m ≡ q → q < node_count L → node_at L q ≡ Star c → Passes (numbered sizes) (tree_of L q) γ μ
          → Tail a q μ → Tail a m γ

    -- the way up from node m: sequences and stars, none of them tests alone
    pub data Path : ℕ → Type 0 where
      at_top : {m : ℕ} → up_at nodes m ≡ 512 → Path m
      at_seq : {m : ℕ} (q x y : ℕ) → up_at nodes m ≡ q → q < node_count L → tests_at nodes q ≡ false → node_at L q ≡ Seq x y → Path q → Path m
      at_star : {m : ℕ} (q c : ℕ) → up_at nodes m ≡ q → q < node_count L → tests_at nodes q ≡ false → node_at L q ≡ Star c → Path q → Path m

module _ {sizes : List ℕ} {L : NodeLists} {nodes : List ℕ} where
  -- nodes with the same way up
  tail_same : {a : Aim} {m n γ : ℕ} → up_at nodes m ≡ up_at nodes n → Tail sizes L nodes a m γ → Tail sizes L nodes a n γ
  tail_same i (top e k) = top (sym i ∙ e) k
  tail_same i (rest_meets q x y e b k h) = rest_meets q x y (sym i ∙ e) b k h
  tail_same i (rest q x y μ e b k h t) = rest q x y μ (sym i ∙ e) b k h t
  tail_same i (again_meets q c e b k h) = again_meets q c (sym i ∙ e) b k h
  tail_same i (again q c μ e b k h t) = again q c μ (sym i ∙ e) b k h t

  path_same : {m n : ℕ} → up_at nodes m ≡ up_at nodes n → Path sizes L nodes m → Path sizes L nodes n
  path_same i (at_top e) = at_top (sym i ∙ e)
  path_same i (at_seq q x y e b z k p) = at_seq q x y (sym i ∙ e) b z k p
  path_same i (at_star q c e b z k p) = at_star q c (sym i ∙ e) b z k p

module _ {sizes : List ℕ} {L : NodeLists} {nodes : List ℕ} (lg : Legal sizes L) (n : ℕ) (l : n < node_count L) (a : Aim) where
  -- the tail of the first part of a sequence
  tail_seq : (x y : ℕ) → node_at L n ≡ Seq x y → {m γ : ℕ} → up_at nodes m ≡ n → Tail sizes L nodes a m γ
      → MeetsIn sizes L a y γ ⊎ ((μ : ℕ) × Passes (numbered sizes) (tree_of L y) γ μ × Tail sizes L nodes a n μ)
  unfolding Starred rest_of
  tail_seq x y e u (top k h) = let few = lg.well_formed.few in absurd (omega arith)
  tail_seq x y e {γ} u (rest_meets q x' y' k b f h) = inl (subst (λ (r : ℕ). MeetsIn sizes L a r γ) (ap rest_of (sym f ∙ ap (node_at L) (sym k ∙ u) ∙ e)) h)
  tail_seq x y e {γ} u (rest q x' y' μ k b f h t) =
      inr (
        μ,
        subst (λ (r : ℕ). Passes (numbered sizes) (tree_of L r) γ μ) (ap rest_of (sym f ∙ ap (node_at L) (sym k ∙ u) ∙ e)) h,
        subst (λ (r : ℕ). Tail sizes L nodes a r μ) (sym k ∙ u) t,
      )
  tail_seq x y e u (again_meets q c k b f h) = absurd (subst Starred (sym f ∙ ap (node_at L) (sym k ∙ u) ∙ e) tt)
  tail_seq x y e u (again q c μ k b f h t) = absurd (subst Starred (sym f ∙ ap (node_at L) (sym k ∙ u) ∙ e) tt)

  -- the tail of the body of a star
  tail_star : (c : ℕ) → node_at L n ≡ Star c → {m γ : ℕ} → up_at nodes m ≡ n → Tail sizes L nodes a m γ
      → MeetsIn sizes L a n γ ⊎ ((μ : ℕ) × Passes (numbered sizes) (tree_of L n) γ μ × Tail sizes L nodes a n μ)
  unfolding Starred
  tail_star c e u (top k h) = let few = lg.well_formed.few in absurd (omega arith)
  tail_star c e u (rest_meets q x y k b f h) = absurd (subst Starred (sym e ∙ ap (node_at L) (sym u ∙ k) ∙ f) tt)
  tail_star c e u (rest q x y μ k b f h t) = absurd (subst Starred (sym e ∙ ap (node_at L) (sym u ∙ k) ∙ f) tt)
  tail_star c e {γ} u (again_meets q c' k b f h) = inl (subst (λ (r : ℕ). MeetsIn sizes L a r γ) (sym k ∙ u) h)
  tail_star c e {γ} u (again q c' μ k b f h t) =
      inr (
        μ,
        subst (λ (r : ℕ). Passes (numbered sizes) (tree_of L r) γ μ) (sym k ∙ u) h,
        subst (λ (r : ℕ). Tail sizes L nodes a r μ) (sym k ∙ u) t,
      )

-- ---- reaching a dup after dup i, from the same of the children

module _ {sizes : List ℕ} {L : NodeLists} (lg : Legal sizes L) (n : ℕ) (l : n < node_count L) (i β : ℕ) where
  module _ (x y : ℕ) (e : node_at L n ≡ Sum x y) where
    after_left : (a : Aim) → MeetsAfter sizes L a x i β → MeetsAfter sizes L a n i β
    unfolding MeetsAfter ReachBy
    after_left (leaves δ) h = h
    after_left (meets j δ) h = (reach_by lg n l i j β δ (Sum x y) e).1 (inl h)

    after_right : (a : Aim) → MeetsAfter sizes L a y i β → MeetsAfter sizes L a n i β
    unfolding MeetsAfter ReachBy
    after_right (leaves δ) h = h
    after_right (meets j δ) h = (reach_by lg n l i j β δ (Sum x y) e).1 (inr h)

  module _ (x y : ℕ) (e : node_at L n ≡ Seq x y) where
    after_first : (a : Aim) → MeetsAfter sizes L a x i β → MeetsAfter sizes L a n i β
    unfolding MeetsAfter ReachBy
    after_first (leaves δ) h = h
    after_first (meets j δ) h = (reach_by lg n l i j β δ (Seq x y) e).1 (inl (inl h))

    after_across : (a : Aim) (μ : ℕ) → RemPass sizes L x i β μ → MeetsIn sizes L a y μ → MeetsAfter sizes L a n i β
    unfolding MeetsAfter MeetsIn ReachBy
    after_across (leaves δ) μ r h = h
    after_across (meets j δ) μ r h = (reach_by lg n l i j β δ (Seq x y) e).1 (inl (inr (μ, r, h)))

    after_second : (a : Aim) → MeetsAfter sizes L a y i β → MeetsAfter sizes L a n i β
    unfolding MeetsAfter ReachBy
    after_second (leaves δ) h = h
    after_second (meets j δ) h = (reach_by lg n l i j β δ (Seq x y) e).1 (inr h)

  module _ (c : ℕ) (e : node_at L n ≡ Star c) where
    after_body : (a : Aim) → MeetsAfter sizes L a c i β → MeetsAfter sizes L a n i β
    unfolding MeetsAfter ReachBy
    after_body (leaves δ) h = h
    after_body (meets j δ) h = (reach_by lg n l i j β δ (Star c) e).1 (inl h)

    after_again : (a : Aim) (μ : ℕ) → RemPass sizes L c i β μ → MeetsIn sizes L a n μ → MeetsAfter sizes L a n i β
    unfolding MeetsAfter MeetsIn ReachBy
    after_again (leaves δ) μ r h = h
    after_again (meets j δ) μ r h = (reach_by lg n l i j β δ (Star c) e).1 (inr (μ, r, h))

module _ {sizes : List ℕ} {L : NodeLists} {nodes tests : List ℕ} (ld : Loaded sizes L nodes tests) (lg : Legal sizes L) (i d : ℕ) (dp : DupAt L i d) where
  -- ---- the dup stands in the tree of the root

  abbrev root : ℕ
  root = pred (node_count L)

  root_has : HasAt sizes L root i
  unfolding InTree is_dup tree_of
  root_has =
      subst (HasDup (tree_of L root)) (sym dp.numbered)
      (label_stands lg.well_formed root d (root_inside lg) dp.within (ap is_dup dp.is_dup) (omega (arith, exactly_once lg d dp.within)))

  -- ---- from the root down to the dup

  module _ (n : ℕ) (l : n < node_count L) (en : Enterable sizes L nodes tests n) (h : HasAt sizes L n i) where
    moves : tests_at nodes n ≡ false
    moves = has_moves sizes L nodes tests n i en h

    moving : Linked (up_at nodes) n (node_at L n) × Enters sizes L nodes tests (node_at L n)
    moving = let m = ld.moving n l moves in (m.linked, m.enters)

    here : node_at L n ≡ Dup → i ≡ dups_below L (suc n) → d ≡ n
    here e k = same_label sizes L d n dp.is_dup e (sym dp.numbered ∙ k)

    path_on : ((c : ℕ) → c < n → Enterable sizes L nodes tests c → HasAt sizes L c i → Path sizes L nodes c → Path sizes L nodes d)
        → Path sizes L nodes n → Path sizes L nodes d
    unfolding Linked Enters HasBy children
    path_on ih p = go (node_at L n) refl moving ((has_by lg n l i (node_at L n) refl).0 h)
      where
        go : (k : Node) → node_at L n ≡ k → Linked (up_at nodes) n k × Enters sizes L nodes tests k → HasBy sizes L n i k → Path sizes L nodes d
        go Drop e m r = absurd r
        go Id e m r = absurd r
        go (Field a) e m r = absurd r
        go Dup e m r = subst (Path sizes L nodes) (sym (here e r)) p
        go (Sum x y) e m (inl r) = ih x (two_kids lg n x y l (ap children e)).0 m.1.0 r (path_same (sym m.0.0) p)
        go (Sum x y) e m (inr r) = ih y (two_kids lg n x y l (ap children e)).1 m.1.1 r (path_same (sym m.0.1) p)
        go (Seq x y) e m (inl r) = ih x (two_kids lg n x y l (ap children e)).0 m.1.0 r (at_seq n x y m.0.0 l moves e p)
        go (Seq x y) e m (inr r) = ih y (two_kids lg n x y l (ap children e)).1 m.1.1 r (path_same (sym m.0.1) p)
        go (Star c) e m r = ih c (one_kid lg n c l (ap children e)) m.1 r (at_star n c m.0 l moves e p)
        go (Neg c) e m r = absurd r

    module _ (a : Aim) (β : ℕ) where
      abbrev Climbed : ℕ → Type 0
      Climbed k = MeetsAfter sizes L a k i β ⊎ ((μ : ℕ) × RemPass sizes L k i β μ × Tail sizes L nodes a k μ)

      climbed_on : ((c : ℕ) → c < n → Enterable sizes L nodes tests c → HasAt sizes L c i → Climbed c) → Tail sizes L nodes a d β → Climbed n
      unfolding Linked Enters HasBy PassBy children
      climbed_on ih t = go (node_at L n) refl moving ((has_by lg n l i (node_at L n) refl).0 h)
        where
          go : (k : Node) → node_at L n ≡ k → Linked (up_at nodes) n k × Enters sizes L nodes tests k → HasBy sizes L n i k → Climbed n
          go Drop e m r = absurd r
          go Id e m r = absurd r
          go (Field f) e m r = absurd r
          go Dup e m r = inr (β, (pass_by lg n l i β β Dup e).1 (r, refl), subst (λ (k : ℕ). Tail sizes L nodes a k β) (here e r) t)
          go (Sum x y) e m (inl r) =
              ⊎_elim (λ k. inl (after_left lg n l i β x y e a k))
              (λ k. inr (k.0, (pass_by lg n l i β k.0 (Sum x y) e).1 (inl k.1), tail_same m.0.0 k.2))
              (ih x (two_kids lg n x y l (ap children e)).0 m.1.0 r)
          go (Sum x y) e m (inr r) =
              ⊎_elim (λ k. inl (after_right lg n l i β x y e a k))
              (λ k. inr (k.0, (pass_by lg n l i β k.0 (Sum x y) e).1 (inr k.1), tail_same m.0.1 k.2))
              (ih y (two_kids lg n x y l (ap children e)).1 m.1.1 r)
          go (Seq x y) e m (inl r) =
              ⊎_elim (λ k. inl (after_first lg n l i β x y e a k))
              (λ k.
              ⊎_elim (λ s. inl (after_across lg n l i β x y e a k.0 k.1 s))
              (λ s. inr (s.0, (pass_by lg n l i β s.0 (Seq x y) e).1 (inl (k.0, k.1, s.1)), s.2))
              (tail_seq lg n l a x y e m.0.0 k.2)) (ih x (two_kids lg n x y l (ap children e)).0 m.1.0 r)
          go (Seq x y) e m (inr r) =
              ⊎_elim (λ k. inl (after_second lg n l i β x y e a k))
              (λ k. inr (k.0, (pass_by lg n l i β k.0 (Seq x y) e).1 (inr k.1), tail_same m.0.1 k.2))
              (ih y (two_kids lg n x y l (ap children e)).1 m.1.1 r)
          go (Star c) e m r =
              ⊎_elim (λ k. inl (after_body lg n l i β c e a k))
              (λ k.
              ⊎_elim (λ s. inl (after_again lg n l i β c e a k.0 k.1 s))
              (λ s. inr (s.0, (pass_by lg n l i β s.0 (Star c) e).1 (k.0, k.1, s.1), s.2))
              (tail_star lg n l a c e m.0 k.2)) (ih c (one_kid lg n c l (ap children e)) m.1 r)
          go (Neg c) e m r = absurd r

  path : (t n : ℕ) → n < t → n < node_count L → Enterable sizes L nodes tests n → HasAt sizes L n i → Path sizes L nodes n → Path sizes L nodes d
  path zero n a l en h p = absurd (not-suc-le-zero a)
  path (suc t) n a l en h p = path_on n l en h (λ c k. path t c (omega arith) (omega arith)) p

  climbed : (a : Aim) (β : ℕ) → Tail sizes L nodes a d β → (t n : ℕ) → n < t → n < node_count L → Enterable sizes L nodes tests n → HasAt sizes L n i
      → MeetsAfter sizes L a n i β ⊎ ((μ : ℕ) × RemPass sizes L n i β μ × Tail sizes L nodes a n μ)
  climbed a β tl zero n k l en h = absurd (not-suc-le-zero k)
  climbed a β tl (suc t) n k l en h = climbed_on n l en h a β (λ c q. climbed a β tl t c (omega arith) (omega arith)) tl

  -- the way up from the dup
  pub dup_path : Path sizes L nodes d
  dup_path = path (suc root) root (omega arith) (root_inside lg) ld.root root_has (at_top ld.last)

  -- what comes out of the root in the end passes through what remains of it after the dup
  pub tail_leaves : (β δ : ℕ) → Tail sizes L nodes (leaves δ) d β → RemPass sizes L (pred (node_count L)) i β δ
  unfolding MeetsAfter Leaves
  tail_leaves β δ t =
      ⊎_elim (λ h. absurd h) (λ h. ends h.0 h.1 h.2) (climbed (leaves δ) β t (suc root) root (omega arith) (root_inside lg) ld.root root_has)
    where
      ends : (μ : ℕ) → RemPass sizes L root i β μ → Tail sizes L nodes (leaves δ) root μ → RemPass sizes L root i β δ
      ends μ r (top e k) = subst (λ (x : ℕ). RemPass sizes L root i β x) (sym k) r
      ends μ r (rest_meets q x y e b f h) = let few = lg.well_formed.few in absurd (omega (arith, ld.last))
      ends μ r (rest q x y ν e b f h k) = let few = lg.well_formed.few in absurd (omega (arith, ld.last))
      ends μ r (again_meets q c e b f h) = let few = lg.well_formed.few in absurd (omega (arith, ld.last))
      ends μ r (again q c ν e b f h k) = let few = lg.well_formed.few in absurd (omega (arith, ld.last))

  -- what reaches a dup in the end does so in what remains
  pub tail_meets : (β j δ : ℕ) → Tail sizes L nodes (meets j δ) d β → RemReach sizes L (pred (node_count L)) i j β δ
  unfolding MeetsAfter Leaves
  tail_meets β j δ t =
      ⊎_elim (λ h. h) (λ h. ends h.0 h.2) (climbed (meets j δ) β t (suc root) root (omega arith) (root_inside lg) ld.root root_has)
    where
      ends : (μ : ℕ) → Tail sizes L nodes (meets j δ) root μ → RemReach sizes L root i j β δ
      ends μ (top e k) = absurd k
      ends μ (rest_meets q x y e b f h) = let few = lg.well_formed.few in absurd (omega (arith, ld.last))
      ends μ (rest q x y ν e b f h k) = let few = lg.well_formed.few in absurd (omega (arith, ld.last))
      ends μ (again_meets q c e b f h) = let few = lg.well_formed.few in absurd (omega (arith, ld.last))
      ends μ (again q c ν e b f h k) = let few = lg.well_formed.few in absurd (omega (arith, ld.last))
