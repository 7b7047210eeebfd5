-- A tree that stands in postfix order in node lists: it reads back, its children are below their parents, and each node but its last is a
-- child once.
use Prim.Native.Nat.{ℕ, zero, suc, pred, ◌+◌, ◌-◌, ◌<◌, ◌≤◌, min, max}
use mathlib.Core.Bool.{true, false, not}
use mathlib.Core.List.{[], ◌∷◌}
use mathlib.Core.Logic.{by_cases}
use mathlib.Core.Path.{◌≡◌, refl, sym, ap, ap₂, ◌∙◌, subst}
use native.Mathlib.Nat.{not-suc-le-zero}
use native.Mathlib.Decide.{dec_lt, ℕ_discrete}
use native.Mathlib.Omega.{arith}
use lib.Dec.{eqb}
use lib.ListN.{length, length-append}
use Rattle.policy.specs.declared.Node.{Node}
use Rattle.policy.specs.declared.Node.TheVariants.{Drop, Id, Field, Dup, Sum, Seq, Star, Neg}
use Rattle.policy.specs.Tree.{Policy, drop, id, field, dup, sum, seq, star, neg}
use Rattle.policy.specs.NodeLists.{NodeLists, node_at, children, one, is_dup, dups_below, grow, tree_at, tree_of}
use Rattle.policy.specs.NodesOfTree.{tree_size, unlabelled}
use Rattle.packet.proofs.Tests.{and_true}
use Rattle.policy.specs.Legality.{occurrences, times_child, negates_other}
use Rattle.policy.specs.Tests.{is_test, negates_tests}
use Rattle.policy.specs.InnerEach.{Each}
use Rattle.policy.specs.Visits.{labels}
use Rattle.policy.proofs.EachLaws.{one_same, one_other}
use Rattle.policy.proofs.TestLaws.{test_negates, test_unlabelled}

pub size_positive : (p : Policy) → 0 < tree_size p
unfolding tree_size
size_positive drop = omega arith
size_positive id = omega arith
size_positive (field a) = omega arith
size_positive (dup i) = omega arith
size_positive (sum p q) = omega arith
size_positive (seq p q) = omega arith
size_positive (star p) = omega arith
size_positive (neg p) = omega arith

-- the nodes from base on are those of the tree, children first, left before right
unfoldable pub Stands : NodeLists → ℕ → Policy → Type 0
Stands L base drop = node_at L base ≡ Drop
Stands L base id = node_at L base ≡ Id
Stands L base (field a) = node_at L base ≡ Field a
Stands L base (dup i) = node_at L base ≡ Dup
Stands L base (sum p q) =
    let mid = base + tree_size p in
    let end = base + tree_size p + tree_size q in
    Stands L base p × Stands L mid q × (node_at L end ≡ Sum (pred mid) (pred end))
Stands L base (seq p q) =
    let mid = base + tree_size p in
    let end = base + tree_size p + tree_size q in
    Stands L base p × Stands L mid q × (node_at L end ≡ Seq (pred mid) (pred end))
Stands L base (star p) = let end = base + tree_size p in Stands L base p × (node_at L end ≡ Star (pred end))
Stands L base (neg p) = let end = base + tree_size p in Stands L base p × (node_at L end ≡ Neg (pred end))

-- 1 where lo ≤ j and j < hi, and else 0
pub inside : ℕ → ℕ → ℕ → ℕ
inside lo hi j = min hi (suc j) - max lo j

module _ (lo hi j : ℕ) where
  pub inside_in : lo ≤ j → j < hi → inside lo hi j ≡ 1
  unfolding inside
  inside_in h k = omega arith

  pub inside_le : inside lo hi j ≤ 1
  unfolding inside
  inside_le = omega arith

  inside_before : j < lo → inside lo hi j ≡ 0
  unfolding inside
  inside_before h = omega arith

  inside_after : hi ≤ j → inside lo hi j ≡ 0
  unfolding inside
  inside_after h = omega arith

inside_join : (lo mid hi j : ℕ) → lo ≤ mid → mid ≤ hi → inside lo mid j + inside mid hi j ≡ inside lo hi j
inside_join lo mid hi j h k =
    by_cases (dec_lt j mid)
    (λ a.
    by_cases (dec_lt j lo) (λ b. omega (arith, inside_before lo mid j b, inside_before mid hi j a, inside_before lo hi j b))
    (λ b. omega (arith, inside_in lo mid j (omega arith) a, inside_before mid hi j a, inside_in lo hi j (omega arith) (omega arith))))
    (λ a.
    by_cases (dec_lt j hi)
    (λ b. omega (arith, inside_after lo mid j (omega arith), inside_in mid hi j (omega arith) b, inside_in lo hi j (omega arith) b))
    (λ b. omega (arith, inside_after lo mid j (omega arith), inside_after mid hi j (omega arith), inside_after lo hi j (omega arith))))

inside_one : (a j : ℕ) → one (eqb a j) ≡ inside a (suc a) j
inside_one a j =
    by_cases (ℕ_discrete a j) (λ e. omega (arith, one_same a j e, inside_in a (suc a) j (omega arith) (omega arith)))
    (λ e.
    let z = one_other a j e in
    by_cases (dec_lt j a) (λ l. omega (arith, inside_before a (suc a) j l)) (λ l. omega (arith, inside_after a (suc a) j (omega arith))))

-- the children of a node over two trees, the second from m + 1 to n: m and n are the last of the two
two_join : (base m n j : ℕ) → base ≤ m → m < n
    → inside base m j + inside (suc m) n j + (one (eqb m j) + one (eqb n j)) ≡ inside base (suc n) j
two_join base m n j h k =
    let first = inside_join base m (suc m) j h (omega arith) in
    let second = inside_join base (suc m) n j (omega arith) k in
    let both = inside_join base n (suc n) j (omega arith) (omega arith) in
    omega (arith, inside_one m j, inside_one n j)

one_join : (base m j : ℕ) → base ≤ m → inside base m j + one (eqb m j) ≡ inside base (suc m) j
one_join base m j h = omega (arith, inside_one m j, inside_join base m (suc m) j h (omega arith))

module _ (L : NodeLists) where
  pub here : (m n : ℕ) (x : Node) → m ≡ n → node_at L m ≡ x → node_at L n ≡ x
  here m n x e h = subst (λ (k : ℕ). node_at L k ≡ x) e h

  -- the tree of the last of these nodes is the tree, up to labels
  pub reads_back : (base : ℕ) (p : Policy) → Stands L base p → (n t : ℕ) → suc n ≡ base + tree_size p → n < t
      → unlabelled (tree_at L t n) ≡ unlabelled p
  unfolding Stands tree_at grow unlabelled tree_size
  reads_back base p h n zero e l = absurd (not-suc-le-zero l)
  reads_back base drop h n (suc t) e l = rw (here base n Drop (omega arith) h)
  reads_back base id h n (suc t) e l = rw (here base n Id (omega arith) h)
  reads_back base (field a) h n (suc t) e l = rw (here base n (Field a) (omega arith) h)
  reads_back base (dup i) h n (suc t) e l = rw (here base n Dup (omega arith) h)
  reads_back base (sum p q) h n (suc t) e l =
      let a = size_positive p in
      let b = size_positive q in
      rw (here _ n _ (omega arith) h.2)
      (ap₂ sum (reads_back base p h.0 _ t (omega arith) (omega arith)) (reads_back (base + tree_size p) q h.1 _ t (omega arith) (omega arith)))
  reads_back base (seq p q) h n (suc t) e l =
      let a = size_positive p in
      let b = size_positive q in
      rw (here _ n _ (omega arith) h.2)
      (ap₂ seq (reads_back base p h.0 _ t (omega arith) (omega arith)) (reads_back (base + tree_size p) q h.1 _ t (omega arith) (omega arith)))
  reads_back base (star p) h n (suc t) e l =
      let a = size_positive p in
      rw (here _ n _ (omega arith) h.1) (ap star (reads_back base p h.0 _ t (omega arith) (omega arith)))
  reads_back base (neg p) h n (suc t) e l =
      let a = size_positive p in
      rw (here _ n _ (omega arith) h.1) (ap neg (reads_back base p h.0 _ t (omega arith) (omega arith)))

  count_next : (n m j : ℕ) (x : Node) → m ≡ suc n → node_at L n ≡ x → times_child L j m ≡ times_child L j n + occurrences j (children x)
  unfolding times_child
  count_next n m j x e h = ap (times_child L j) e ∙ ap (λ (y : Node). times_child L j n + occurrences j (children y)) h

  leaf : (base j : ℕ) (x : Node) → children x ≡ [] → node_at L base ≡ x
      → times_child L j (base + 1) ≡ times_child L j base + inside base (pred (base + 1)) j
  unfolding occurrences
  leaf base j x e h = omega (arith, count_next base (base + 1) j x (omega arith) h, ap (occurrences j) e, empty)
    where
      empty : inside base (pred (base + 1)) j ≡ 0
      empty = by_cases (dec_lt j base) (λ l. inside_before base _ j l) (λ l. inside_after base _ j (omega arith))

  -- a node over one tree, and a node over two
  over_one : (base p j : ℕ) (x : Node) → 0 < p → children x ≡ pred (base + p) ∷ [] → node_at L (base + p) ≡ x
      → times_child L j (base + p) ≡ times_child L j base + inside base (pred (base + p)) j
      → times_child L j (base + (p + 1)) ≡ times_child L j base + inside base (pred (base + (p + 1))) j
  unfolding occurrences
  over_one base p j x h e at f =
      let m = pred (base + p) in
      let hi : pred (base + (p + 1)) ≡ suc m = omega arith in
      let next = count_next (base + p) (base + (p + 1)) j x (omega arith) at in
      omega (arith, ap (occurrences j) e, one_join base m j (omega arith), ap (λ (k : ℕ). inside base k j) hi)

  over_two : (base p q j : ℕ) (x : Node) → 0 < p → 0 < q → children x ≡ pred (base + p) ∷ pred (base + p + q) ∷ []
      → node_at L (base + p + q) ≡ x
      → times_child L j (base + p) ≡ times_child L j base + inside base (pred (base + p)) j
      → times_child L j (base + p + q) ≡ times_child L j (base + p) + inside (base + p) (pred (base + p + q)) j
      → times_child L j (base + (p + q + 1)) ≡ times_child L j base + inside base (pred (base + (p + q + 1))) j
  unfolding occurrences
  over_two base p q j x h k e at f g =
      let m = pred (base + p) in
      let n = pred (base + p + q) in
      let lo : base + p ≡ suc m = omega arith in
      let hi : pred (base + (p + q + 1)) ≡ suc n = omega arith in
      let next = count_next (base + p + q) (base + (p + q + 1)) j x (omega arith) at in
      let all = two_join base m n j (omega arith) (omega arith) in
      omega (arith, ap (occurrences j) e, ap (λ (i : ℕ). inside i n j) lo, ap (λ (i : ℕ). inside base i j) hi)

  -- each of these nodes but the last is a child of one of them, once
  pub counts : (base : ℕ) (p : Policy) → Stands L base p → (j : ℕ)
      → times_child L j (base + tree_size p) ≡ times_child L j base + inside base (pred (base + tree_size p)) j
  unfolding Stands tree_size children
  counts base drop h j = leaf base j Drop refl h
  counts base id h j = leaf base j Id refl h
  counts base (field a) h j = leaf base j (Field a) refl h
  counts base (dup i) h j = leaf base j Dup refl h
  counts base (sum p q) h j =
      over_two base (tree_size p) (tree_size q) j _ (size_positive p) (size_positive q) refl h.2 (counts base p h.0 j)
      (counts (base + tree_size p) q h.1 j)
  counts base (seq p q) h j =
      over_two base (tree_size p) (tree_size q) j _ (size_positive p) (size_positive q) refl h.2 (counts base p h.0 j)
      (counts (base + tree_size p) q h.1 j)
  counts base (star p) h j = over_one base (tree_size p) j _ (size_positive p) refl h.1 (counts base p h.0 j)
  counts base (neg p) h j = over_one base (tree_size p) j _ (size_positive p) refl h.1 (counts base p h.0 j)

  -- the children of each of these nodes are below it
  pub stands_below : (base : ℕ) (p : Policy) → Stands L base p → (i : ℕ) → base ≤ i → i < base + tree_size p
      → Each (λ c. c < i) (children (node_at L i))
  unfolding Stands tree_size children Each
  stands_below base drop h i a b = rw (here base i Drop (omega arith) h) tt
  stands_below base id h i a b = rw (here base i Id (omega arith) h) tt
  stands_below base (field x) h i a b = rw (here base i (Field x) (omega arith) h) tt
  stands_below base (dup l) h i a b = rw (here base i Dup (omega arith) h) tt
  stands_below base (sum p q) h i a b =
      by_cases (dec_lt i (base + tree_size p)) (stands_below base p h.0 i a)
      (λ k.
      by_cases (dec_lt i (base + tree_size p + tree_size q)) (stands_below (base + tree_size p) q h.1 i (omega arith))
      (λ l. rw (here _ i _ (omega arith) h.2) (omega (arith, size_positive p), (omega (arith, size_positive q), tt))))
  stands_below base (seq p q) h i a b =
      by_cases (dec_lt i (base + tree_size p)) (stands_below base p h.0 i a)
      (λ k.
      by_cases (dec_lt i (base + tree_size p + tree_size q)) (stands_below (base + tree_size p) q h.1 i (omega arith))
      (λ l. rw (here _ i _ (omega arith) h.2) (omega (arith, size_positive p), (omega (arith, size_positive q), tt))))
  stands_below base (star p) h i a b =
      by_cases (dec_lt i (base + tree_size p)) (stands_below base p h.0 i a)
      (λ k. rw (here _ i _ (omega arith) h.1) (omega (arith, size_positive p), tt))
  stands_below base (neg p) h i a b =
      by_cases (dec_lt i (base + tree_size p)) (stands_below base p h.0 i a)
      (λ k. rw (here _ i _ (omega arith) h.1) (omega (arith, size_positive p), tt))

  -- a negation among these nodes stands over tests alone
  pub stands_negations : (base : ℕ) (p : Policy) → Stands L base p → negates_tests p ≡ true → (i : ℕ) → base ≤ i → i < base + tree_size p
      → negates_other L (node_at L i) ≡ false
  unfolding Stands tree_size tree_of negates_other negates_tests
  stands_negations base drop h k i a b = rw (here base i Drop (omega arith) h)
  stands_negations base id h k i a b = rw (here base i Id (omega arith) h)
  stands_negations base (field x) h k i a b = rw (here base i (Field x) (omega arith) h)
  stands_negations base (dup l) h k i a b = rw (here base i Dup (omega arith) h)
  stands_negations base (sum p q) h k i a b =
      let n = and_true (negates_tests p) (negates_tests q) k in
      by_cases (dec_lt i (base + tree_size p)) (stands_negations base p h.0 n.0 i a)
      (λ c.
      by_cases (dec_lt i (base + tree_size p + tree_size q)) (stands_negations (base + tree_size p) q h.1 n.1 i (omega arith))
      (λ d. rw (here _ i _ (omega arith) h.2)))
  stands_negations base (seq p q) h k i a b =
      let n = and_true (negates_tests p) (negates_tests q) k in
      by_cases (dec_lt i (base + tree_size p)) (stands_negations base p h.0 n.0 i a)
      (λ c.
      by_cases (dec_lt i (base + tree_size p + tree_size q)) (stands_negations (base + tree_size p) q h.1 n.1 i (omega arith))
      (λ d. rw (here _ i _ (omega arith) h.2)))
  stands_negations base (star p) h k i a b =
      by_cases (dec_lt i (base + tree_size p)) (stands_negations base p h.0 k i a) (λ c. rw (here _ i _ (omega arith) h.1))
  stands_negations base (neg p) h k i a b =
      by_cases (dec_lt i (base + tree_size p)) (stands_negations base p h.0 (test_negates p k) i a)
      (λ c. rw (here _ i _ (omega arith) h.1) (ap not (over (pred (base + tree_size p)) (omega (arith, size_positive p)))))
    where
      over : (n : ℕ) → suc n ≡ base + tree_size p → is_test (tree_at L (suc n) n) ≡ true
      over n e =
          sym (test_unlabelled (tree_at L (suc n) n)) ∙ ap is_test (reads_back base p h.0 n (suc n) e (omega arith)) ∙ test_unlabelled p ∙ k

  dups_next : (n m : ℕ) (x : Node) → m ≡ suc n → node_at L n ≡ x → dups_below L m ≡ dups_below L n + one (is_dup x)
  unfolding dups_below
  dups_next n m x e h = ap (dups_below L) e ∙ ap (λ (y : Node). dups_below L n + one (is_dup y)) h

  -- among these nodes are as many dups as the tree has
  pub stands_dups : (base : ℕ) (p : Policy) → Stands L base p → dups_below L (base + tree_size p) ≡ dups_below L base + length (labels p)
  unfolding Stands tree_size labels is_dup one
  stands_dups base drop h = dups_next base (base + 1) Drop (omega arith) h
  stands_dups base id h = dups_next base (base + 1) Id (omega arith) h
  stands_dups base (field a) h = dups_next base (base + 1) (Field a) (omega arith) h
  stands_dups base (dup i) h = dups_next base (base + 1) Dup (omega arith) h
  stands_dups base (sum p q) h =
      let next = dups_next (base + tree_size p + tree_size q) (base + (tree_size p + tree_size q + 1)) (Sum _ _) (omega arith) h.2 in
      omega (arith, stands_dups base p h.0, stands_dups (base + tree_size p) q h.1, length-append (labels p) (labels q))
  stands_dups base (seq p q) h =
      let next = dups_next (base + tree_size p + tree_size q) (base + (tree_size p + tree_size q + 1)) (Seq _ _) (omega arith) h.2 in
      omega (arith, stands_dups base p h.0, stands_dups (base + tree_size p) q h.1, length-append (labels p) (labels q))
  stands_dups base (star p) h =
      omega (arith, dups_next (base + tree_size p) (base + (tree_size p + 1)) (Star _) (omega arith) h.1, stands_dups base p h.0)
  stands_dups base (neg p) h =
      omega (arith, dups_next (base + tree_size p) (base + (tree_size p + 1)) (Neg _) (omega arith) h.1, stands_dups base p h.0)
