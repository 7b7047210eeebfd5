-- The dups of a tree have different labels, from 1 to the number of dups.
use Prim.Native.Nat.{ℕ, zero, suc, pred, ◌+◌, ◌<◌, ◌≤◌}
use mathlib.Core.Bool.{Bool, true, false, true≢false}
use mathlib.Core.List.{List, [], ◌∷◌, ◌++◌}
use mathlib.Core.Logic.{◌⊎◌, inl, inr, ⊎_elim, ◌↔◌, by_cases}
use mathlib.Core.Path.{◌≡◌, refl, sym, ap, ap₂, ◌∙◌}
use native.Mathlib.Nat.{not-suc-le-zero, eq-or-lt_of_le, le_of_suc-le-suc, eq-zero-or-pos}
use native.Mathlib.Decide.{ℕ_discrete}
use native.Mathlib.Omega.{arith}
use lib.Dec.{eqb}
use Rattle.policy.specs.declared.Node.{Node}
use Rattle.policy.specs.declared.Node.TheVariants.{Drop, Id, Field, Dup, Sum, Seq, Star, Neg}
use Rattle.policy.specs.Tree.{Policy, dup, sum, seq, star}
use Rattle.policy.specs.NodeLists.{NodeLists, node_count, node_at, children, one, is_dup, dups_below, grow, tree_at, policy_of}
use Rattle.policy.specs.Legality.{WellFormed, Legal, occurrences}
use Rattle.policy.specs.InnerEach.{Each}
use Rattle.policy.specs.Visits.{joined, visit, times_in, InTree, labels, HasDup, Labelled}
use Rattle.policy.proofs.EachLaws.{one_same, one_other, occurrences_append}
use Rattle.policy.proofs.Trees.{ChildrenBelow, children_below, each_child}
use Rattle.policy.proofs.VisitLaws.{joined_one, joined_two, at_most_once, times_fuel}

-- ---- dup i stands in a policy, from its parts

pub has_one : (j i : ℕ) → HasDup (dup j) i ↔ (i ≡ j)
unfolding labels occurrences
has_one j i = (λ h. by_cases (ℕ_discrete j i) sym (λ n. absurd (omega (arith, one_other j i n))), λ e. omega (arith, one_same j i (sym e)))

-- in a sum, in a sequence: in one of the two
pub has_either : (p q : Policy) (i : ℕ) → (0 < occurrences i (labels p ++ labels q)) ↔ (HasDup p i ⊎ HasDup q i)
has_either p q i = (
  λ h. ⊎_elim (λ (z : occurrences i (labels p) ≡ 0). inr (omega (arith, both))) inl (eq-zero-or-pos (occurrences i (labels p))),
  ⊎_elim (λ h. omega (arith, both)) (λ h. omega (arith, both)),
)
  where
    both : occurrences i (labels p ++ labels q) ≡ occurrences i (labels p) + occurrences i (labels q)
    both = occurrences_append i (labels p) (labels q)

-- ---- the labels of a tree

-- how often a node's own label is i
own : ℕ → ℕ → Bool → ℕ
own i label true = one (eqb label i)
own i label false = 0

grow_labels : (i : ℕ) (f : ℕ → Policy) (label : ℕ) (x : Node)
    → occurrences i (labels (grow f label x)) ≡ own i label (is_dup x) + occurrences i (joined (λ c. labels (f c)) (children x))
unfolding own is_dup labels grow children
grow_labels i f label Drop = unfold joined occurrences in refl
grow_labels i f label Id = unfold joined occurrences in refl
grow_labels i f label (Field a) = unfold joined occurrences in refl
grow_labels i f label Dup = unfold joined occurrences in refl
grow_labels i f label (Sum l r) = omega (arith, occurrences_append i (labels (f l)) (labels (f r)), joined_two i (λ c. labels (f c)) l r)
grow_labels i f label (Seq l r) = omega (arith, occurrences_append i (labels (f l)) (labels (f r)), joined_two i (λ c. labels (f c)) l r)
grow_labels i f label (Star c) = omega (arith, joined_one i (λ c. labels (f c)) c)
grow_labels i f label (Neg c) = omega (arith, joined_one i (λ c. labels (f c)) c)

-- what is found wherever a walk meets i is found where the walks joined meet it
joined_some : (X : Type 0) (i : ℕ) (f : ℕ → List ℕ) (cs : List ℕ) → Each (λ c. 0 < occurrences i (f c) → X) cs
    → 0 < occurrences i (joined f cs) → X
unfolding joined Each occurrences
joined_some X i f [] e h = absurd (not-suc-le-zero h)
joined_some X i f (c ∷ cs) e h =
    ⊎_elim
    (λ (z : occurrences i (f c) ≡ 0). joined_some X i f cs e.1 (omega (arith, occurrences_append i (f c) (joined f cs)))) e.0
    (eq-zero-or-pos (occurrences i (f c)))

-- where each walk meets i as often as another meets d, so do the walks joined
joined_alike : (i d : ℕ) (f g : ℕ → List ℕ) (cs : List ℕ) → Each (λ c. occurrences i (f c) ≡ occurrences d (g c)) cs
    → occurrences i (joined f cs) ≡ occurrences d (joined g cs)
unfolding joined Each occurrences
joined_alike i d f g [] e = refl
joined_alike i d f g (c ∷ cs) e =
    omega (arith, occurrences_append i (f c) (joined f cs), occurrences_append d (g c) (joined g cs), e.0, joined_alike i d f g cs e.1)

module _ (L : NodeLists) where
  -- node d is the dup with label i
  record DupAt (i d : ℕ) : Type 0 where
    below : d < node_count L
    is_dup : is_dup (node_at L d) ≡ true
    label : dups_below L (suc d) ≡ i

  pub dups_more : (m n : ℕ) → m ≤ n → dups_below L m ≤ dups_below L n
  unfolding dups_below
  dups_more m zero h = let e : m ≡ 0 = omega arith in omega (arith, ap (dups_below L) e)
  dups_more m (suc n) h =
      ⊎_elim (λ (e : m ≡ suc n). omega (arith, ap (dups_below L) e)) (λ l. omega (arith, dups_more m n (le_of_suc-le-suc l)))
      (eq-or-lt_of_le h)

  dups_suc : (n : ℕ) → is_dup (node_at L n) ≡ true → dups_below L (suc n) ≡ dups_below L n + 1
  unfolding dups_below one
  dups_suc n h = rw h

  -- a label belongs to one dup
  pub label_one : (m d : ℕ) → is_dup (node_at L m) ≡ true → is_dup (node_at L d) ≡ true → dups_below L (suc m) ≡ dups_below L (suc d) → m ≡ d
  label_one m d h k e =
      let not-below : m < d → ⊥ = λ l. omega (arith, dups_suc d k, dups_more (suc m) d l) in
      let not-above : d < m → ⊥ = λ l. omega (arith, dups_suc m h, dups_more (suc d) m l) in
      omega arith

  own_one : (i d : ℕ) → DupAt i d → (n : ℕ) → own i (dups_below L (suc n)) (is_dup (node_at L n)) ≡ one (eqb n d)
  unfolding own
  own_one i d h n = go (is_dup (node_at L n)) refl
    where
      go : (b : Bool) → is_dup (node_at L n) ≡ b → own i (dups_below L (suc n)) b ≡ one (eqb n d)
      go true e =
          by_cases (ℕ_discrete n d)
          (λ q. one_same (dups_below L (suc n)) i (ap (λ (k : ℕ). dups_below L (suc k)) q ∙ h.label) ∙ sym (one_same n d q))
          (λ q. one_other (dups_below L (suc n)) i (λ r. q (label_one n d e h.is_dup (r ∙ sym h.label))) ∙ sym (one_other n d q))
      go false e = sym (one_other n d (λ q. true≢false (sym h.is_dup ∙ ap (λ (k : ℕ). is_dup (node_at L k)) (sym q) ∙ e)))

  module _ (below : ChildrenBelow L) where
    -- the label of dup d stands in a tree as often as d
    label_times : (i d : ℕ) → DupAt i d → (t n : ℕ) → n < t → n < node_count L
        → occurrences i (labels (tree_at L t n)) ≡ occurrences d (visit L t n)
    unfolding tree_at visit occurrences
    label_times i d h zero n a l = absurd (not-suc-le-zero a)
    label_times i d h (suc t) n a l =
        grow_labels i (tree_at L t) (dups_below L (suc n)) (node_at L n)
        ∙ ap₂ ◌+◌ (own_one i d h n)
        (joined_alike i d (λ c. labels (tree_at L t c)) (visit L t) (children (node_at L n))
        (each_child L below (λ c. occurrences i (labels (tree_at L t c)) ≡ occurrences d (visit L t c)) n l
        (λ c k. label_times i d h t c (omega arith) (omega arith))))

    -- a label of a tree is the label of a dup
    label_dup : (i t n : ℕ) → n < t → n < node_count L → HasDup (tree_at L t n) i → (d : ℕ) × DupAt i d
    unfolding tree_at own
    label_dup i zero n a l h = absurd (not-suc-le-zero a)
    label_dup i (suc t) n a l h =
        go (is_dup (node_at L n)) refl
        (joined_some ((d : ℕ) × DupAt i d) i (λ c. labels (tree_at L t c)) (children (node_at L n))
        (each_child L below (λ c. HasDup (tree_at L t c) i → (d : ℕ) × DupAt i d) n l
        (λ c k. label_dup i t c (omega arith) (omega arith))))
      where
        label : ℕ
        label = dups_below L (suc n)

        -- how often i is a label of the trees of the children
        others : ℕ
        others = occurrences i (joined (λ c. labels (tree_at L t c)) (children (node_at L n)))

        all : occurrences i (labels (tree_at L (suc t) n)) ≡ own i label (is_dup (node_at L n)) + others
        all = grow_labels i (tree_at L t) label (node_at L n)

        go : (b : Bool) → is_dup (node_at L n) ≡ b → (0 < others → (d : ℕ) × DupAt i d) → (d : ℕ) × DupAt i d
        go true e rest =
            by_cases (ℕ_discrete label i) (λ q. (n, record { below = l; is_dup = e; label = q }))
            (λ q. rest (omega (arith, all, ap (own i label) e, one_other label i q)))
        go false e rest = rest (omega (arith, all, ap (own i label) e))

-- the labels of the tree of a node of well-formed lists
pub tree_labelled : {sizes : List ℕ} {L : NodeLists} → WellFormed sizes L → (t n : ℕ) → n < t → n < node_count L
    → Labelled (dups_below L (node_count L)) (tree_at L t n)
tree_labelled {L} w t n a l = record {
  distinct = λ i. ⊎_elim (λ (z : occurrences i (labels (tree_at L t n)) ≡ 0). omega arith) (λ h. at_most i (dup_of i h)) (eq-zero-or-pos (occurrences i (labels (tree_at L t n))));
  least = λ i h. let d = dup_of i h in omega (arith, dups_suc L d.0 d.1.is_dup, d.1.label);
  most = λ i h. let d = dup_of i h in omega (arith, dups_more L (suc d.0) (node_count L) d.1.below, d.1.label);
}
  where
    dup_of : (i : ℕ) → HasDup (tree_at L t n) i → (d : ℕ) × DupAt L i d
    dup_of i h = label_dup L (children_below w) i t n a l h

    at_most : (i : ℕ) → (d : ℕ) × DupAt L i d → occurrences i (labels (tree_at L t n)) ≤ 1
    at_most i d =
        omega (
          arith,
          label_times L (children_below w) i d.0 d.1 t n a l,
          times_fuel L (children_below w) t n d.0 a l,
          at_most_once w n d.0 l,
        )

-- the label of a dup in the tree of a node
pub label_stands : {sizes : List ℕ} {L : NodeLists} → WellFormed sizes L → (n d : ℕ) → n < node_count L → d < node_count L → is_dup (node_at L d) ≡ true
    → InTree L n d → HasDup (tree_at L (suc n) n) (dups_below L (suc d))
unfolding InTree times_in
label_stands {L} w n d l k e h =
    omega (arith, label_times L (children_below w) (dups_below L (suc d)) d (record { below = k; is_dup = e; label = refl }) (suc n) n (omega arith) l)

pub policy_labelled : {sizes : List ℕ} {L : NodeLists} → Legal sizes L → Labelled (dups_below L (node_count L)) (policy_of L)
unfolding policy_of
policy_labelled {L} g =
    let some = g.some in
    tree_labelled g.well_formed (node_count L) (pred (node_count L)) (omega arith) (omega arith)

-- the labels of a part of a tree
part : {k : ℕ} (p r : Policy) → ((i : ℕ) → occurrences i (labels p) ≤ occurrences i (labels r)) → Labelled k r → Labelled k p
part p r few h = record {
  distinct = λ i. omega (arith, few i, h.distinct i);
  least = λ i o. h.least i (omega (arith, few i));
  most = λ i o. h.most i (omega (arith, few i));
}

-- the two parts of a sum or of a sequence share no label
pub record Parts (k : ℕ) (p q : Policy) : Type 0 where
  pub left : Labelled k p
  pub right : Labelled k q
  pub apart : (i : ℕ) → HasDup p i → HasDup q i → ⊥

parts : {k : ℕ} (p q r : Policy) → labels r ≡ labels p ++ labels q → Labelled k r → Parts k p q
parts p q r e h = record {
  left = part p r (λ i. omega (arith, both i)) h;
  right = part q r (λ i. omega (arith, both i)) h;
  apart = λ i o u. omega (arith, both i, h.distinct i);
}
  where
    both : (i : ℕ) → occurrences i (labels r) ≡ occurrences i (labels p) + occurrences i (labels q)
    both i = ap (occurrences i) e ∙ occurrences_append i (labels p) (labels q)

pub labelled_sum : {k : ℕ} {p q : Policy} → Labelled k (sum p q) → Parts k p q
unfolding labels
labelled_sum {p} {q} h = parts p q (sum p q) refl h

pub labelled_seq : {k : ℕ} {p q : Policy} → Labelled k (seq p q) → Parts k p q
unfolding labels
labelled_seq {p} {q} h = parts p q (seq p q) refl h

pub labelled_star : {k : ℕ} {p : Policy} → Labelled k (star p) → Labelled k p
unfolding labels
labelled_star {p} h = part p (star p) (λ i. omega arith) h
