-- Each node stands in a tree at most once, in the tree of legal lists exactly once; the trees of two children of a node share no node.
use Prim.Native.Nat.{ℕ, zero, suc, pred, ◌+◌, ◌<◌, ◌≤◌}
use mathlib.Core.List.{List, [], ◌∷◌, ◌++◌, append-nil}
use mathlib.Core.Logic.{⊎_elim, by_cases}
use mathlib.Core.Path.{◌≡◌, refl, sym, ap, ap₂, ◌∙◌}
use native.Mathlib.Nat.{not-suc-le-zero, eq-or-lt_of_le, le_of_suc-le-suc}
use native.Mathlib.Decide.{dec_lt, ℕ_discrete}
use native.Mathlib.Omega.{arith}
use lib.Dec.{eqb}
use Rattle.policy.specs.NodeLists.{NodeLists, node_count, node_at, children, one}
use Rattle.policy.specs.Legality.{WellFormed, Legal, occurrences, times_child}
use Rattle.policy.specs.InnerEach.{Each}
use Rattle.policy.specs.Visits.{joined, visit, times_in, InTree}
use Rattle.policy.proofs.EachLaws.{one_same, one_other, occurrences_append, occurrences_none}
use Rattle.policy.proofs.Trees.{ChildrenBelow, children_below, each_child, two_below, one_below}

joined_same : (f g : ℕ → List ℕ) (cs : List ℕ) → Each (λ c. f c ≡ g c) cs → joined f cs ≡ joined g cs
unfolding joined Each
joined_same f g [] e = refl
joined_same f g (c ∷ cs) e = ap₂ ◌++◌ e.0 (joined_same f g cs e.1)

joined_none : (j : ℕ) (f : ℕ → List ℕ) (cs : List ℕ) → Each (λ c. occurrences j (f c) ≡ 0) cs → occurrences j (joined f cs) ≡ 0
unfolding joined Each occurrences
joined_none j f [] e = refl
joined_none j f (c ∷ cs) e = rw (occurrences_append j (f c) (joined f cs)) (omega (arith, joined_none j f cs e.1, e.0))

-- where each walk meets j as often as it begins at j and meets i, so do the walks joined
joined_parent : (i j : ℕ) (f : ℕ → List ℕ) (cs : List ℕ) → Each (λ c. occurrences j (f c) ≡ one (eqb c j) + occurrences i (f c)) cs
    → occurrences j (joined f cs) ≡ occurrences j cs + occurrences i (joined f cs)
unfolding joined Each occurrences
joined_parent i j f [] e = refl
joined_parent i j f (c ∷ cs) e =
    rw (occurrences_append j (f c) (joined f cs), occurrences_append i (f c) (joined f cs)) (omega (arith, joined_parent i j f cs e.1, e.0))

pub joined_one : (j : ℕ) (f : ℕ → List ℕ) (x : ℕ) → occurrences j (joined f (x ∷ [])) ≡ occurrences j (f x)
unfolding joined
joined_one j f x = ap (occurrences j) (append-nil (f x))

pub joined_two : (j : ℕ) (f : ℕ → List ℕ) (x y : ℕ) → occurrences j (joined f (x ∷ y ∷ [])) ≡ occurrences j (f x) + occurrences j (f y)
unfolding joined
joined_two j f x y = occurrences_append j (f x) (f y ++ []) ∙ ap (λ (xs : List ℕ). occurrences j (f x) + occurrences j xs) (append-nil (f y))

module _ (L : NodeLists) (below : ChildrenBelow L) where
  -- any fuel above the node gives the same walk
  pub visit_fuel : (t u n : ℕ) → n < t → n < u → n < node_count L → visit L t n ≡ visit L u n
  unfolding visit
  visit_fuel zero u n a b l = absurd (not-suc-le-zero a)
  visit_fuel (suc t) zero n a b l = absurd (not-suc-le-zero b)
  visit_fuel (suc t) (suc u) n a b l =
      ap (λ (cs : List ℕ). n ∷ cs)
      (joined_same (visit L t) (visit L u) (children (node_at L n))
      (each_child L below (λ c. visit L t c ≡ visit L u c) n l (λ c k. visit_fuel t u c (omega arith) (omega arith) (omega arith))))

  -- a walk meets no node above its root
  visit_above : (t n j : ℕ) → n < node_count L → n < j → occurrences j (visit L t n) ≡ 0
  unfolding visit occurrences
  visit_above zero n j l a = refl
  visit_above (suc t) n j l a =
      let rest =
      joined_none j (visit L t) (children (node_at L n))
      (each_child L below (λ c. occurrences j (visit L t c) ≡ 0) n l (λ c k. visit_above t c j (omega arith) (omega arith))) in
      omega (arith, one_other n j (omega arith))

  -- a node at or above n is no child of n
  pub no_child : (j n : ℕ) → n < node_count L → n ≤ j → occurrences j (children (node_at L n)) ≡ 0
  no_child j n l h = occurrences_none j (children (node_at L n)) (each_child L below (λ c. c ≡ j → ⊥) n l (λ c k. omega arith))

  child_above : (j n : ℕ) → n < node_count L → 0 < occurrences j (children (node_at L n)) → j < n
  child_above j n l h = by_cases (dec_lt j n) (λ k. k) (λ k. absurd (omega (arith, no_child j n l (omega arith))))

  -- how often j is a child of each of the first k nodes
  abbrev ChildOf : ℕ → ℕ → (ℕ → ℕ) → Type 0
  ChildOf j k times = (m : ℕ) → m < k → occurrences j (children (node_at L m)) ≡ times m

  child_more : (j k : ℕ) (times : ℕ → ℕ) → ChildOf j k times → occurrences j (children (node_at L k)) ≡ times k → ChildOf j (suc k) times
  child_more j k times all here m l =
      ⊎_elim (λ (q : m ≡ k). rw q here) (all m) (eq-or-lt_of_le (le_of_suc-le-suc l))

  -- the one parent of node j; a node that is no child counts as a child of the number past the last node
  record Parent (j : ℕ) : Type 0 where
    parent : ℕ
    above : j < parent
    only : ChildOf j (node_count L) (λ m. one (eqb m parent))
    inside : times_child L j (node_count L) ≡ 1 → parent < node_count L

  -- j is a child of none of the first k nodes, or of one
  data Among (j k : ℕ) : Type 0 where
    orphan : times_child L j k ≡ 0 → ChildOf j k (λ m. 0) → Among j k
    child : (i : ℕ) → i < k → times_child L j k ≡ 1 → ChildOf j k (λ m. one (eqb m i)) → Among j k

  among : (j k : ℕ) → times_child L j k ≤ 1 → Among j k
  unfolding times_child
  among j zero h = orphan refl (λ m l. absurd (not-suc-le-zero l))
  among j (suc k) h = go (among j k (omega arith))
    where
      here : (o : ℕ) → occurrences j (children (node_at L k)) ≡ o → times_child L j k ≡ 0 → ChildOf j k (λ m. 0) → Among j (suc k)
      here zero e z all = orphan (omega arith) (child_more j k (λ m. 0) all e)
      here (suc zero) e z all =
          child k (omega arith) (omega arith)
          (child_more j k (λ m. one (eqb m k)) (λ m l. all m l ∙ sym (one_other m k (omega arith))) (e ∙ sym (one_same k k refl)))
      here (suc (suc o)) e z all = absurd (omega arith)

      go : Among j k → Among j (suc k)
      go (orphan z all) = here (occurrences j (children (node_at L k))) refl z all
      go (child i b z all) =
          child i (omega arith) (omega arith) (child_more j k (λ m. one (eqb m i)) all (omega (arith, one_other k i (omega arith))))

  parent_of : (j : ℕ) → j < node_count L → times_child L j (node_count L) ≤ 1 → Parent j
  parent_of j l h = go (among j (node_count L) h)
    where
      go : Among j (node_count L) → Parent j
      go (orphan z all) =
          record {
            parent = node_count L;
            above = l;
            only = λ m k. all m k ∙ sym (one_other m (node_count L) (omega arith));
            inside = λ e. absurd (omega arith);
          }
      go (child i b z all) =
          record { parent = i; above = child_above j i b (omega (arith, all i b, one_same i i refl)); only = all; inside = λ e. b }

  -- node j stands in the tree of n once if it is n, and else as often as its parent
  times_parent : (j i : ℕ) → ChildOf j (node_count L) (λ m. one (eqb m i)) → (t n : ℕ) → n < t → n < node_count L
      → occurrences j (visit L t n) ≡ one (eqb n j) + occurrences i (visit L t n)
  unfolding visit occurrences
  times_parent j i only zero n a l = absurd (not-suc-le-zero a)
  times_parent j i only (suc t) n a l =
      let rest =
      joined_parent i j (visit L t) (children (node_at L n))
      (each_child L below (λ c. occurrences j (visit L t c) ≡ one (eqb c j) + occurrences i (visit L t c)) n l
      (λ c k. times_parent j i only t c (omega arith) (omega arith))) in
      omega (arith, only n l)

  times_self : (t n : ℕ) → n < t → n < node_count L → occurrences n (visit L t n) ≡ 1
  unfolding visit occurrences
  times_self zero n a l = absurd (not-suc-le-zero a)
  times_self (suc t) n a l =
      let rest =
      joined_none n (visit L t) (children (node_at L n))
      (each_child L below (λ c. occurrences n (visit L t c) ≡ 0) n l (λ c k. visit_above t c n (omega arith) k)) in
      omega (arith, one_same n n refl)

  times_other : (j : ℕ) (p : Parent j) (t n : ℕ) → n < t → n < node_count L → (n ≡ j → ⊥)
      → occurrences j (visit L t n) ≡ occurrences p.parent (visit L t n)
  times_other j p t n a l e = omega (arith, times_parent j p.parent p.only t n a l, one_other n j e)

  -- each node at most once; k bounds how far j is from the last node
  at_most : ((j : ℕ) → times_child L j (node_count L) ≤ 1) → (k t n j : ℕ) → n < t → n < node_count L → node_count L ≤ j + k
      → occurrences j (visit L t n) ≤ 1
  at_most once zero t n j a l h = omega (arith, visit_above t n j l (omega arith))
  at_most once (suc k) t n j a l h =
      by_cases (dec_lt n j) (λ o. omega (arith, visit_above t n j l o))
      (λ o. by_cases (ℕ_discrete n j) (λ e. rw (← e) (omega (arith, times_self t n a l)))
      (λ e. let p = parent_of j (omega arith) (once j) in rw (times_other j p t n a l e) (at_most once k t n p.parent a l (omega arith))))

  -- each node exactly once in the tree of the last node, where each other node is a child once
  exactly : (t : ℕ) → node_count L ≤ t → ((j : ℕ) → j < pred (node_count L) → times_child L j (node_count L) ≡ 1)
      → (k j : ℕ) → j < node_count L → node_count L ≤ j + k → occurrences j (visit L t (pred (node_count L))) ≡ 1
  exactly t a once zero j l h = absurd (omega arith)
  exactly t a once (suc k) j l h =
      by_cases (ℕ_discrete (pred (node_count L)) j) (λ e. rw (← e) (times_self t (pred (node_count L)) (omega arith) (omega arith)))
      (λ e.
      let p = parent_of j l (omega (arith, once j (omega arith))) in
      times_other j p t (pred (node_count L)) (omega arith) (omega arith) e
      ∙ exactly t a once k p.parent (p.inside (once j (omega arith))) (omega arith))

  pub times_fuel : (t n j : ℕ) → n < t → n < node_count L → occurrences j (visit L t n) ≡ times_in L n j
  unfolding times_in
  times_fuel t n j a l = ap (occurrences j) (visit_fuel t (suc n) n a (omega arith) l)

  -- how often a node stands in the tree of n, from the trees of n's children
  times_node : (n j : ℕ) (cs : List ℕ) → children (node_at L n) ≡ cs → times_in L n j ≡ one (eqb n j) + occurrences j (joined (visit L n) cs)
  unfolding times_in visit occurrences
  times_node n j cs e = ap (λ (xs : List ℕ). one (eqb n j) + occurrences j (joined (visit L n) xs)) e

  times_one : (n x j : ℕ) → n < node_count L → children (node_at L n) ≡ x ∷ [] → times_in L n j ≡ one (eqb n j) + times_in L x j
  times_one n x j l e =
      let k = one_below L below n x l e in
      omega (arith, times_node n j (x ∷ []) e, joined_one j (visit L n) x, times_fuel n x j k (omega arith))

  times_two : (n x y j : ℕ) → n < node_count L → children (node_at L n) ≡ x ∷ y ∷ []
      → times_in L n j ≡ one (eqb n j) + (times_in L x j + times_in L y j)
  times_two n x y j l e =
      let k = two_below L below n x y l e in
      let left = times_fuel n x j k.0 (omega arith) in
      let right = times_fuel n y j k.1 (omega arith) in
      omega (arith, times_node n j (x ∷ y ∷ []) e, joined_two j (visit L n) x y)

-- in the tree of any node of well-formed lists each node stands at most once
pub at_most_once : {sizes : List ℕ} {L : NodeLists} → WellFormed sizes L → (n j : ℕ) → n < node_count L → times_in L n j ≤ 1
unfolding times_in
at_most_once {L} w n j l = at_most L (children_below w) w.once (node_count L) (suc n) n j (omega arith) l (omega arith)

-- in the tree of legal lists each node stands exactly once
pub exactly_once : {sizes : List ℕ} {L : NodeLists} → Legal sizes L → (j : ℕ) → j < node_count L → times_in L (pred (node_count L)) j ≡ 1
unfolding times_in
exactly_once {L} g j l =
    exactly L (children_below g.well_formed) (suc (pred (node_count L))) (omega arith) g.children (node_count L) j l (omega arith)

-- the trees of the two children of a node share no node
pub apart : {sizes : List ℕ} {L : NodeLists} → WellFormed sizes L → (n x y j : ℕ) → n < node_count L → children (node_at L n) ≡ x ∷ y ∷ []
    → InTree L x j → InTree L y j → ⊥
unfolding InTree
apart {L} w n x y j l e h k = omega (arith, at_most_once w n j l, times_two L (children_below w) n x y j l e)
