-- What follows a dup of a node, from the same of its children.
use Prim.Native.Nat.{ℕ, suc, ◌<◌}
use mathlib.Core.List.{List, []}
use mathlib.Core.Logic.{◌⊎◌, ⊎_map, ◌↔◌}
use mathlib.Core.Path.{◌≡◌, refl, sym, ap, subst}
use native.Mathlib.Nat.{not-suc-le-zero}
use Rattle.policy.specs.declared.Node.{Node}
use Rattle.policy.specs.declared.Node.TheVariants.{Drop, Id, Field, Dup, Sum, Seq, Star, Neg}
use Rattle.policy.specs.Legality.{Legal, occurrences}
use Rattle.policy.specs.Meaning.{Packets, numbered}
use Rattle.policy.specs.NodeLists.{NodeLists, node_count, node_at, is_dup, dups_below, grow, tree_of}
use Rattle.policy.specs.Tree.{Policy, star}
use Rattle.policy.specs.Visits.{labels, HasDup}
use Rattle.policy.proofs.LabelLaws.{has_one, has_either, label_one}
use Rattle.automaton.specs.Reaches.{Passes, Reaches}
use Rattle.automaton.proofs.Words.{Star as Stars, Tr}
use Rattle.automaton.proofs.Spines.{Meets, meets_iff, Rem, RemMeets}
use Rattle.engine.proofs.Parts.{then_nil, passes_iff, tree_at}
use Rattle.policy.proofs.Trees.{negated_test}
use Rattle.loaded.proofs.Meanings.{test_dupless}

module _ (sizes : List ℕ) (L : NodeLists) where
  -- dup i stands in the tree of node n
  abbrev pub HasAt : ℕ → ℕ → Type 0
  HasAt n i = HasDup (tree_of L n) i

  -- what remains of node n after its dup i lets β through as γ and records nothing
  abbrev pub RemPass : ℕ → ℕ → ℕ → ℕ → Type 0
  RemPass n i β γ = Rem (numbered sizes) (tree_of L n) i β [] γ

  -- from β, what remains of node n after its dup i reaches dup j with γ
  abbrev pub RemReach : ℕ → ℕ → ℕ → ℕ → ℕ → Type 0
  RemReach n i j β γ = RemMeets (numbered sizes) (tree_of L n) i j β γ

  -- the same of a node of each kind
  unfoldable pub HasBy : ℕ → ℕ → Node → Type 0
  HasBy n i Drop = ⊥
  HasBy n i Id = ⊥
  HasBy n i (Field a) = ⊥
  HasBy n i Dup = i ≡ dups_below L (suc n)
  HasBy n i (Sum x y) = HasAt x i ⊎ HasAt y i
  HasBy n i (Seq x y) = HasAt x i ⊎ HasAt y i
  HasBy n i (Star x) = HasAt x i
  HasBy n i (Neg x) = ⊥

  unfoldable pub PassBy : ℕ → ℕ → ℕ → ℕ → Node → Type 0
  PassBy n i β γ Drop = ⊥
  PassBy n i β γ Id = ⊥
  PassBy n i β γ (Field a) = ⊥
  PassBy n i β γ Dup = (i ≡ dups_below L (suc n)) × (γ ≡ β)
  PassBy n i β γ (Sum x y) = RemPass x i β γ ⊎ RemPass y i β γ
  PassBy n i β γ (Seq x y) = ((μ : ℕ) × RemPass x i β μ × Passes (numbered sizes) (tree_of L y) μ γ) ⊎ RemPass y i β γ
  PassBy n i β γ (Star x) = (μ : ℕ) × RemPass x i β μ × Passes (numbered sizes) (tree_of L n) μ γ
  PassBy n i β γ (Neg x) = ⊥

  unfoldable pub ReachBy : ℕ → ℕ → ℕ → ℕ → ℕ → Node → Type 0
  ReachBy n i j β γ Drop = ⊥
  ReachBy n i j β γ Id = ⊥
  ReachBy n i j β γ (Field a) = ⊥
  ReachBy n i j β γ Dup = ⊥
  ReachBy n i j β γ (Sum x y) = RemReach x i j β γ ⊎ RemReach y i j β γ
  ReachBy n i j β γ (Seq x y) =
      (RemReach x i j β γ ⊎ ((μ : ℕ) × RemPass x i β μ × Reaches (numbered sizes) (tree_of L y) j μ γ)) ⊎ RemReach y i j β γ
  ReachBy n i j β γ (Star x) = RemReach x i j β γ ⊎ ((μ : ℕ) × RemPass x i β μ × Reaches (numbered sizes) (tree_of L n) j μ γ)
  ReachBy n i j β γ (Neg x) = ⊥

  -- a label belongs to one dup
  pub same_label : (m n : ℕ) → node_at L m ≡ Dup → node_at L n ≡ Dup → dups_below L (suc m) ≡ dups_below L (suc n) → m ≡ n
  unfolding is_dup
  same_label m n a b e = label_one L m n (ap is_dup a) (ap is_dup b) e

module _ {sizes : List ℕ} {L : NodeLists} (lg : Legal sizes L) (n : ℕ) (l : n < node_count L) where
  abbrev P : Packets
  P = numbered sizes

  abbrev label : ℕ
  label = dups_below L (suc n)

  pub has_by : (i : ℕ) (d : Node) → node_at L n ≡ d → HasDup (tree_of L n) i ↔ HasBy sizes L n i d
  unfolding HasBy labels occurrences grow
  has_by i d e = subst (λ p. HasDup p i ↔ HasBy sizes L n i d) (sym (tree_at lg n l d e)) (go d e)
    where
      go : (d : Node) → node_at L n ≡ d → HasDup (grow (tree_of L) label d) i ↔ HasBy sizes L n i d
      go Drop e = (λ h. not-suc-le-zero h, λ h. absurd h)
      go Id e = (λ h. not-suc-le-zero h, λ h. absurd h)
      go (Field a) e = (λ h. not-suc-le-zero h, λ h. absurd h)
      go Dup e = has_one label i
      go (Sum x y) e = has_either (tree_of L x) (tree_of L y) i
      go (Seq x y) e = has_either (tree_of L x) (tree_of L y) i
      go (Star x) e = (λ h. h, λ h. h)
      go (Neg x) e = (λ h. test_dupless (tree_of L x) (negated_test lg.well_formed n x l e) i h, λ h. absurd h)

  pub pass_by : (i β γ : ℕ) (d : Node) → node_at L n ≡ d → Rem (numbered sizes) (tree_of L n) i β [] γ ↔ PassBy sizes L n i β γ d
  unfolding PassBy Rem grow Tr
  pass_by i β γ d e = go d (tree_at lg n l d e)
    where
      by_tree : (p : Policy) (A : Type 0) → tree_of L n ≡ p → Rem P p i β [] γ ↔ A → Rem P (tree_of L n) i β [] γ ↔ A
      by_tree p A q f = subst (λ r. Rem P r i β [] γ ↔ A) (sym q) f

      go : (d : Node) → tree_of L n ≡ grow (tree_of L) label d → Rem P (tree_of L n) i β [] γ ↔ PassBy sizes L n i β γ d
      go Drop q = by_tree _ _ q (λ h. h, λ h. h)
      go Id q = by_tree _ _ q (λ h. h, λ h. h)
      go (Field a) q = by_tree _ _ q (λ h. h, λ h. h)
      go Dup q = by_tree _ _ q (λ h. (h.0, h.2), λ h. (h.0, refl, h.1))
      go (Sum x y) q = by_tree _ _ q (λ h. h, λ h. h)
      go (Seq x y) q =
          let k = then_nil P (Rem P (tree_of L x) i) (Tr P (tree_of L y)) β γ in
          by_tree _ _ q (
            λ h. ⊎_map (λ t. let s = k.0 t in (s.0, s.1, (passes_iff P (tree_of L y) s.0 γ).1 s.2)) (λ t. t) h,
            λ h. ⊎_map (λ s. k.1 (s.0, s.1, (passes_iff P (tree_of L y) s.0 γ).0 s.2)) (λ t. t) h,
          )
      go (Star x) q =
          let k = then_nil P (Rem P (tree_of L x) i) (Stars P (Tr P (tree_of L x))) β γ in
          let f : (μ : ℕ) → Passes P (tree_of L n) μ γ ↔ Tr P (star (tree_of L x)) μ [] γ
          = λ μ. subst (λ r. Passes P r μ γ ↔ Tr P (star (tree_of L x)) μ [] γ) (sym q) (passes_iff P (star (tree_of L x)) μ γ) in
          by_tree _ _ q (λ h. let s = k.0 h in (s.0, s.1, (f s.0).1 s.2), λ s. k.1 (s.0, s.1, (f s.0).0 s.2))
      go (Neg x) q = by_tree _ _ q (λ h. h, λ h. h)

  pub reach_by : (i j β γ : ℕ) (d : Node) → node_at L n ≡ d → RemMeets (numbered sizes) (tree_of L n) i j β γ ↔ ReachBy sizes L n i j β γ d
  unfolding ReachBy RemMeets grow
  reach_by i j β γ d e = go d (tree_at lg n l d e)
    where
      by_tree : (p : Policy) (A : Type 0) → tree_of L n ≡ p → RemMeets P p i j β γ ↔ A → RemMeets P (tree_of L n) i j β γ ↔ A
      by_tree p A q f = subst (λ r. RemMeets P r i j β γ ↔ A) (sym q) f

      go : (d : Node) → tree_of L n ≡ grow (tree_of L) label d → RemMeets P (tree_of L n) i j β γ ↔ ReachBy sizes L n i j β γ d
      go Drop q = by_tree _ _ q (λ h. h, λ h. h)
      go Id q = by_tree _ _ q (λ h. h, λ h. h)
      go (Field a) q = by_tree _ _ q (λ h. h, λ h. h)
      go Dup q = by_tree _ _ q (λ h. h, λ h. h)
      go (Sum x y) q = by_tree _ _ q (λ h. h, λ h. h)
      go (Seq x y) q =
          by_tree _ _ q (
            λ h. ⊎_map (λ t. ⊎_map (λ s. s) (λ s. (s.0, s.1, (meets_iff P (tree_of L y) j s.0 γ).1 s.2)) t) (λ t. t) h,
            λ h. ⊎_map (λ t. ⊎_map (λ s. s) (λ s. (s.0, s.1, (meets_iff P (tree_of L y) j s.0 γ).0 s.2)) t) (λ t. t) h,
          )
      go (Star x) q =
          let f : (μ : ℕ) → Reaches P (tree_of L n) j μ γ ↔ Meets P (star (tree_of L x)) j μ γ
          = λ μ. subst (λ r. Reaches P r j μ γ ↔ Meets P (star (tree_of L x)) j μ γ) (sym q) (meets_iff P (star (tree_of L x)) j μ γ) in
          by_tree _ _ q (
            λ h. ⊎_map (λ s. s) (λ s. (s.0, s.1, (f s.0).1 s.2)) h,
            λ h. ⊎_map (λ s. s) (λ s. (s.0, s.1, (f s.0).0 s.2)) h,
          )
      go (Neg x) q = by_tree _ _ q (λ h. h, λ h. h)
