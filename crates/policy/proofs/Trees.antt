-- The tree of a node of well-formed lists: one tree whatever the fuel, each node in it at most once, its labels distinct, its fields declared.
use Prim.Native.Nat.{ℕ, zero, suc, pred, ◌<◌}
use mathlib.Core.Bool.{true, false}
use mathlib.Core.List.{List, [], ◌∷◌}
use mathlib.Core.Logic.{◌↔◌}
use mathlib.Core.Path.{◌≡◌, refl, sym, ap, ap₂, ◌∙◌, subst}
use native.Mathlib.Nat.{not-suc-le-zero}
use native.Mathlib.Omega.{arith}
use borrow.Author.Tests.{not-false}
use Rattle.policy.specs.declared.Node.{Node}
use Rattle.policy.specs.declared.Node.TheVariants.{Drop, Id, Field, Dup, Sum, Seq, Star, Neg}
use Rattle.policy.specs.declared.FieldAction.{FieldAction}
use Rattle.policy.specs.Tree.{Policy, drop, id, field, dup, sum, seq, star, neg}
use Rattle.policy.specs.NodeLists.{NodeLists, node_count, node_at, node_of, children, dups_below, grow, tree_at, tree_of, policy_of, TreeOf}
use Rattle.policy.specs.Legality.{WellFormed, Legal, InFields, bad_entries, wrong_entries, bad_child, bad_field, negates_other, bad_negation, field_of, value_of}
use Rattle.policy.specs.InnerEach.{Each}
use Rattle.policy.specs.InnerTransport.{EachAction}
use Rattle.policy.specs.Tests.{is_test, negates_tests}
use Rattle.policy.proofs.EachLaws.{each_map, below_each}

-- children stand below their parents: all that the laws on trees ask of the lists
abbrev pub ChildrenBelow : NodeLists → Type 0
ChildrenBelow L = (n : ℕ) → n < node_count L → Each (λ c. c < n) (children (node_at L n))

pub children_below : {sizes : List ℕ} {L : NodeLists} → WellFormed sizes L → ChildrenBelow L
unfolding bad_child
children_below {L} w n l = (below_each n (children (node_at L n))).0 (w.below n l)

grow_same : (f g : ℕ → Policy) (label : ℕ) (x : Node) → Each (λ c. f c ≡ g c) (children x) → grow f label x ≡ grow g label x
unfolding grow children Each
grow_same f g label Drop e = refl
grow_same f g label Id e = refl
grow_same f g label (Field a) e = refl
grow_same f g label Dup e = refl
grow_same f g label (Sum l r) e = ap₂ sum e.0 e.1.0
grow_same f g label (Seq l r) e = ap₂ seq e.0 e.1.0
grow_same f g label (Star c) e = ap star e.0
grow_same f g label (Neg c) e = ap neg e.0

grow_tree : (L : NodeLists) (n : ℕ) (f : ℕ → Policy) (x : Node) → node_at L n ≡ x → Each (λ c. TreeOf L c (f c)) (children x)
    → TreeOf L n (grow f (dups_below L (suc n)) x)
unfolding grow children Each TreeOf
grow_tree L n f Drop e h = e
grow_tree L n f Id e h = e
grow_tree L n f (Field a) e h = e
grow_tree L n f Dup e h = (e, refl)
grow_tree L n f (Sum l r) e h = (l, r, e, h.0, h.1.0)
grow_tree L n f (Seq l r) e h = (l, r, e, h.0, h.1.0)
grow_tree L n f (Star c) e h = (c, e, h.0)
grow_tree L n f (Neg c) e h = (c, e, h.0)

-- something holds of the test or change that the node makes, if it makes one
unfoldable pub OfAction : (FieldAction → Type 0) → Node → Type 0
OfAction H Drop = Unit
OfAction H Id = Unit
OfAction H (Field a) = H a
OfAction H Dup = Unit
OfAction H (Sum l r) = Unit
OfAction H (Seq l r) = Unit
OfAction H (Star c) = Unit
OfAction H (Neg c) = Unit

grow_actions : (H : FieldAction → Type 0) (f : ℕ → Policy) (label : ℕ) (x : Node) → OfAction H x → Each (λ c. EachAction H (f c)) (children x) → EachAction H (grow f label x)
unfolding grow children Each OfAction
grow_actions H f label Drop w h = tt
grow_actions H f label Id w h = tt
grow_actions H f label (Field a) w h = w
grow_actions H f label Dup w h = tt
grow_actions H f label (Sum l r) w h = (h.0, h.1.0)
grow_actions H f label (Seq l r) w h = (h.0, h.1.0)
grow_actions H f label (Star c) w h = h.0
grow_actions H f label (Neg c) w h = h.0

pub entries_name : (sizes : List ℕ) (k a b : ℕ) → wrong_entries sizes k a b ≡ false → OfAction (λ x. bad_field sizes (field_of x) (value_of x) ≡ false) (node_of k a b)
unfolding OfAction wrong_entries node_of field_of value_of
entries_name sizes zero a b w = tt
entries_name sizes (suc zero) a b w = tt
entries_name sizes (suc (suc zero)) a b w = w
entries_name sizes (suc (suc (suc zero))) a b w = w
entries_name sizes (suc (suc (suc (suc zero)))) a b w = w
entries_name sizes (suc (suc (suc (suc (suc zero))))) a b w = tt
entries_name sizes (suc (suc (suc (suc (suc (suc zero)))))) a b w = tt
entries_name sizes (suc (suc (suc (suc (suc (suc (suc zero))))))) a b w = tt
entries_name sizes (suc (suc (suc (suc (suc (suc (suc (suc zero)))))))) a b w = tt
entries_name sizes (suc (suc (suc (suc (suc (suc (suc (suc (suc zero))))))))) a b w = tt
entries_name sizes (suc (suc (suc (suc (suc (suc (suc (suc (suc (suc k)))))))))) a b w = tt

module _ (L : NodeLists) (below : ChildrenBelow L) where
  -- what holds of each number below n holds of each child of n
  pub each_child : (P : ℕ → Type 0) (n : ℕ) → n < node_count L → ((c : ℕ) → c < n → P c) → Each P (children (node_at L n))
  each_child P n l f = each_map (λ c. c < n) P (children (node_at L n)) f (below n l)

  -- any fuel above the node gives the same tree
  pub tree_fuel : (t u n : ℕ) → n < t → n < u → n < node_count L → tree_at L t n ≡ tree_at L u n
  unfolding tree_at
  tree_fuel zero u n a b l = absurd (not-suc-le-zero a)
  tree_fuel (suc t) zero n a b l = absurd (not-suc-le-zero b)
  tree_fuel (suc t) (suc u) n a b l =
      grow_same (tree_at L t) (tree_at L u) (dups_below L (suc n)) (node_at L n)
      (each_child (λ c. tree_at L t c ≡ tree_at L u c) n l (λ c k. tree_fuel t u c (omega arith) (omega arith) (omega arith)))

  -- a tree by the trees of the children
  pub tree_grow : (n : ℕ) → n < node_count L → tree_of L n ≡ grow (tree_of L) (dups_below L (suc n)) (node_at L n)
  unfolding tree_of tree_at
  tree_grow n l =
      grow_same (tree_at L n) (tree_of L) (dups_below L (suc n)) (node_at L n)
      (each_child (λ c. tree_at L n c ≡ tree_of L c) n l (λ c k. tree_fuel n (suc c) c k (omega arith) (omega arith)))

  tree_exists : (t n : ℕ) → n < t → n < node_count L → TreeOf L n (tree_at L t n)
  unfolding tree_at
  tree_exists zero n a l = absurd (not-suc-le-zero a)
  tree_exists (suc t) n a l =
      grow_tree L n (tree_at L t) (node_at L n) refl (each_child (λ c. TreeOf L c (tree_at L t c)) n l (λ c k. tree_exists t c (omega arith) (omega arith)))

  pub two_below : (n x y : ℕ) → n < node_count L → children (node_at L n) ≡ x ∷ y ∷ [] → (x < n) × (y < n)
  unfolding Each children
  two_below n x y l e = let k = subst (Each (λ c. c < n)) e (below n l) in (k.0, k.1.0)

  pub one_below : (n x : ℕ) → n < node_count L → children (node_at L n) ≡ x ∷ [] → x < n
  unfolding Each children
  one_below n x l e = let k = subst (Each (λ c. c < n)) e (below n l) in k.0

  tree_unique : (p : Policy) (t n : ℕ) → n < t → n < node_count L → TreeOf L n p → p ≡ tree_at L t n
  unfolding TreeOf tree_at grow children
  tree_unique p zero n a l h = absurd (not-suc-le-zero a)
  tree_unique drop (suc t) n a l h = rw h
  tree_unique id (suc t) n a l h = rw h
  tree_unique (field x) (suc t) n a l h = rw h
  tree_unique (dup i) (suc t) n a l h = rw h.0 (ap dup h.1)
  tree_unique (sum p q) (suc t) n a l h =
      let k = two_below n h.0 h.1 l (ap children h.2) in
      rw h.2 (ap₂ sum (tree_unique p t h.0 (omega arith) (omega arith) h.3) (tree_unique q t h.1 (omega arith) (omega arith) h.4))
  tree_unique (seq p q) (suc t) n a l h =
      let k = two_below n h.0 h.1 l (ap children h.2) in
      rw h.2 (ap₂ seq (tree_unique p t h.0 (omega arith) (omega arith) h.3) (tree_unique q t h.1 (omega arith) (omega arith) h.4))
  tree_unique (star p) (suc t) n a l h =
      let k = one_below n h.0 l (ap children h.1) in
      rw h.1 (ap star (tree_unique p t h.0 (omega arith) (omega arith) h.2))
  tree_unique (neg p) (suc t) n a l h =
      let k = one_below n h.0 l (ap children h.1) in
      rw h.1 (ap neg (tree_unique p t h.0 (omega arith) (omega arith) h.2))

  -- each node has exactly one tree
  pub tree_iff : (p : Policy) (t n : ℕ) → n < t → n < node_count L → TreeOf L n p ↔ (p ≡ tree_at L t n)
  tree_iff p t n a l = (tree_unique p t n a l, λ e. subst (TreeOf L n) (sym e) (tree_exists t n a l))

-- what holds of each test and change that a node makes holds of each in the tree
pub tree_actions : (L : NodeLists) → ChildrenBelow L → (H : FieldAction → Type 0) → ((n : ℕ) → n < node_count L → OfAction H (node_at L n)) → (t n : ℕ) → n < t → n < node_count L
    → EachAction H (tree_at L t n)
unfolding tree_at
tree_actions L below H h zero n a l = absurd (not-suc-le-zero a)
tree_actions L below H h (suc t) n a l =
    grow_actions H (tree_at L t) (dups_below L (suc n)) (node_at L n) (h n l)
    (each_child L below (λ c. EachAction H (tree_at L t c)) n l (λ c k. tree_actions L below H h t c (omega arith) (omega arith)))

-- each names a field and a value of it
pub tree_fields : {sizes : List ℕ} {L : NodeLists} → WellFormed sizes L → (t n : ℕ) → n < t → n < node_count L
    → InFields sizes (tree_at L t n)
unfolding InFields bad_entries node_at
tree_fields {sizes} {L} w = tree_actions L (children_below w) _ (λ n l. entries_name sizes _ _ _ (w.entries n l))

grow_negates : (f : ℕ → Policy) (label : ℕ) (x : Node) → ((c : ℕ) → x ≡ Neg c → is_test (f c) ≡ true)
    → Each (λ c. negates_tests (f c) ≡ true) (children x) → negates_tests (grow f label x) ≡ true
unfolding grow children Each negates_tests
grow_negates f label Drop h e = refl
grow_negates f label Id h e = refl
grow_negates f label (Field a) h e = refl
grow_negates f label Dup h e = refl
grow_negates f label (Sum l r) h e = rw (e.0, e.1.0)
grow_negates f label (Seq l r) h e = rw (e.0, e.1.0)
grow_negates f label (Star c) h e = e.0
grow_negates f label (Neg c) h e = h c refl

-- what a node negates is made of tests alone
pub negated_test : {sizes : List ℕ} {L : NodeLists} → WellFormed sizes L → (n c : ℕ) → n < node_count L → node_at L n ≡ Neg c → is_test (tree_of L c) ≡ true
unfolding bad_negation negates_other
negated_test {L} w n c l e = not-false _ (sym (ap (negates_other L) e) ∙ w.negations n l)

-- what stands under a negation in the tree is made of tests alone
pub tree_negates : {sizes : List ℕ} {L : NodeLists} → WellFormed sizes L → (t n : ℕ) → n < t → n < node_count L
    → negates_tests (tree_at L t n) ≡ true
unfolding tree_at tree_of children
tree_negates w zero n a l = absurd (not-suc-le-zero a)
tree_negates {sizes} {L} w (suc t) n a l =
    grow_negates (tree_at L t) (dups_below L (suc n)) (node_at L n) over
    (each_child L (children_below w) (λ c. negates_tests (tree_at L t c) ≡ true) n l (λ c k. tree_negates w t c (omega arith) (omega arith)))
  where
    over : (c : ℕ) → node_at L n ≡ Neg c → is_test (tree_at L t c) ≡ true
    over c e =
        let k = one_below L (children_below w) n c l (ap children e) in
        ap is_test (tree_fuel L (children_below w) t (suc c) c (omega arith) (omega arith) (omega arith)) ∙ negated_test w n c l e

-- legal lists have exactly one tree, its fields are declared, and it negates tests alone
module _ {sizes : List ℕ} {L : NodeLists} (g : Legal sizes L) where
  pub policy_iff : (p : Policy) → TreeOf L (pred (node_count L)) p ↔ (p ≡ policy_of L)
  unfolding policy_of
  policy_iff p = let some = g.some in tree_iff L (children_below g.well_formed) p (node_count L) (pred (node_count L)) (omega arith) (omega arith)

  pub policy_fields : InFields sizes (policy_of L)
  unfolding policy_of
  policy_fields = let some = g.some in tree_fields g.well_formed (node_count L) (pred (node_count L)) (omega arith) (omega arith)

  pub policy_negates : negates_tests (policy_of L) ≡ true
  unfolding policy_of
  policy_negates = let some = g.some in tree_negates g.well_formed (node_count L) (pred (node_count L)) (omega arith) (omega arith)
