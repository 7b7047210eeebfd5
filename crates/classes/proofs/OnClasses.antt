-- The node lists of a policy on classes: their tree is the policy on classes, and they are legal over the class counts. Assumes nothing.
use Prim.Native.Nat.{ℕ, zero, suc, ◌<◌, ◌≤◌, ◌+◌}
use native.Mathlib.Nat.{not-suc-le-zero, le_of_suc-le-suc}
use native.Mathlib.Omega.{arith}
use mathlib.Core.Bool.{Bool, false, not, ◌&&◌}
use mathlib.Core.List.{List, [], ◌∷◌}
use mathlib.Core.Logic.{⊎_elim}
use mathlib.Core.Path.{◌≡◌, refl, sym, ap, ap₂, ◌∙◌, subst}
use lib.Dec.{leb}
use lib.ListN.{length, get_or, get_or-eq_default}
use borrow.Author.Tests.{leb-false, lt-leb}
use Rattle.packet.proofs.Tests.{or_false, lt_or_le}
use Rattle.policy.specs.declared.FieldAction.{FieldAction}
use Rattle.policy.specs.declared.FieldAction.TheVariants.{Equals, Differs, Set}
use Rattle.policy.specs.declared.Node.{Node}
use Rattle.policy.specs.declared.Node.TheVariants.{Drop, Id, Field, Dup, Sum, Seq, Star, Neg}
use Rattle.policy.specs.Tree.{Policy, drop, id, field, dup, sum, seq, star, neg}
use Rattle.policy.specs.NodeLists.{NodeLists, node_count, node_of, node_at, children, one, is_dup, dups_below, grow, tree_at, tree_of, policy_of}
use Rattle.policy.specs.Legality.{Legal, max_dups, bad_kind, bad_field, wrong_entries, bad_entries, bad_child, some_not_below, occurrences, times_child, negates_other, bad_negation, field_of, value_of}
use Rattle.policy.specs.Tests.{is_test}
use Rattle.policy.specs.InnerTransport.{with_actions}
use Rattle.policy.proofs.Numbered.{value_below}
use Rattle.classes.specs.Classing.{Classing, class_entry, class_entries, on_classes, class_action, classed, Faithful}

-- the node with its action on classes
node_on : Classing → Node → Node
node_on c Drop = Drop
node_on c Id = Id
node_on c (Field a) = Field (class_action c a)
node_on c Dup = Dup
node_on c (Sum l r) = Sum l r
node_on c (Seq l r) = Seq l r
node_on c (Star m) = Star m
node_on c (Neg m) = Neg m

node_on_lem : (c : Classing) (k a b : ℕ) → node_of k a (class_entry c (node_of k a b) b) ≡ node_on c (node_of k a b)
unfolding node_of class_entry node_on class_action field_of value_of
node_on_lem c zero a b = refl
node_on_lem c (suc zero) a b = refl
node_on_lem c (suc (suc zero)) a b = refl
node_on_lem c (suc (suc (suc zero))) a b = refl
node_on_lem c (suc (suc (suc (suc zero)))) a b = refl
node_on_lem c (suc (suc (suc (suc (suc zero))))) a b = refl
node_on_lem c (suc (suc (suc (suc (suc (suc zero)))))) a b = refl
node_on_lem c (suc (suc (suc (suc (suc (suc (suc zero))))))) a b = refl
node_on_lem c (suc (suc (suc (suc (suc (suc (suc (suc zero)))))))) a b = refl
node_on_lem c (suc (suc (suc (suc (suc (suc (suc (suc (suc zero))))))))) a b = refl
node_on_lem c (suc (suc (suc (suc (suc (suc (suc (suc (suc (suc k)))))))))) a b = refl

-- where there is no node
no_node : (c : Classing) (k a b b' : ℕ) → k ≡ 0 → node_of k a b' ≡ node_on c (node_of k a b)
unfolding node_of node_on
no_node c k a b b' e = subst (λ (n : ℕ). node_of n a b' ≡ node_on c (node_of n a b)) (sym e) refl

-- it has the children that it had, and is dup where it was
children_on : (c : Classing) (x : Node) → children (node_on c x) ≡ children x
unfolding node_on children
children_on c Drop = refl
children_on c Id = refl
children_on c (Field a) = refl
children_on c Dup = refl
children_on c (Sum l r) = refl
children_on c (Seq l r) = refl
children_on c (Star m) = refl
children_on c (Neg m) = refl

dup_on : (c : Classing) (x : Node) → is_dup (node_on c x) ≡ is_dup x
unfolding node_on is_dup
dup_on c Drop = refl
dup_on c Id = refl
dup_on c (Field a) = refl
dup_on c Dup = refl
dup_on c (Sum l r) = refl
dup_on c (Seq l r) = refl
dup_on c (Star m) = refl
dup_on c (Neg m) = refl

grow_on : (c : Classing) (f g : ℕ → Policy) → ((n : ℕ) → f n ≡ classed c (g n)) → (label : ℕ) (x : Node) → grow f label (node_on c x) ≡ classed c (grow g label x)
unfolding grow node_on classed with_actions
grow_on c f g e label Drop = refl
grow_on c f g e label Id = refl
grow_on c f g e label (Field a) = refl
grow_on c f g e label Dup = refl
grow_on c f g e label (Sum l r) = ap₂ sum (e l) (e r)
grow_on c f g e label (Seq l r) = ap₂ seq (e l) (e r)
grow_on c f g e label (Star m) = ap star (e m)
grow_on c f g e label (Neg m) = ap neg (e m)

test_on : (c : Classing) (p : Policy) → is_test (classed c p) ≡ is_test p
unfolding is_test classed with_actions class_action
test_on c drop = refl
test_on c id = refl
test_on c (field (Equals f v)) = refl
test_on c (field (Differs f v)) = refl
test_on c (field (Set f v)) = refl
test_on c (dup i) = refl
test_on c (sum p q) = ap₂ (λ (a b : Bool). a && b) (test_on c p) (test_on c q)
test_on c (seq p q) = ap₂ (λ (a b : Bool). a && b) (test_on c p) (test_on c q)
test_on c (star p) = refl
test_on c (neg p) = test_on c p

module _ (c : Classing) where
  -- ---- the second entries

  pub entries_length : (ks fs ss : List ℕ) → length fs ≡ length ks → length ss ≡ length ks → length (class_entries c ks fs ss) ≡ length ks
  unfolding class_entries
  entries_length [] fs ss e d = refl
  entries_length (k ∷ ks) [] ss e d = omega arith
  entries_length (k ∷ ks) (f ∷ fs) [] e d = omega arith
  entries_length (k ∷ ks) (f ∷ fs) (s ∷ ss) e d = ap suc (entries_length ks fs ss (omega arith) (omega arith))

  pub entry_at_lem : (ks fs ss : List ℕ) → length fs ≡ length ks → length ss ≡ length ks → (i : ℕ) → i < length ks
      → get_or (class_entries c ks fs ss) i 0 ≡ class_entry c (node_of (get_or ks i 0) (get_or fs i 0) (get_or ss i 0)) (get_or ss i 0)
  unfolding class_entries
  entry_at_lem [] fs ss e d i l = absurd (not-suc-le-zero l)
  entry_at_lem (k ∷ ks) [] ss e d i l = omega arith
  entry_at_lem (k ∷ ks) (f ∷ fs) [] e d i l = omega arith
  entry_at_lem (k ∷ ks) (f ∷ fs) (s ∷ ss) e d zero l = refl
  entry_at_lem (k ∷ ks) (f ∷ fs) (s ∷ ss) e d (suc i) l = entry_at_lem ks fs ss (omega arith) (omega arith) i (le_of_suc-le-suc l)

  module _ (L : NodeLists) (firsts : length L.first ≡ node_count L) (seconds : length L.second ≡ node_count L) where
    -- each node, and ⊥ where there is none
    node_classed : (i : ℕ) → node_at (on_classes c L) i ≡ node_on c (node_at L i)
    unfolding node_at on_classes node_count
    node_classed i =
        ⊎_elim (λ l. ap (node_of (get_or L.kind i 0) (get_or L.first i 0)) (entry_at_lem L.kind L.first L.second firsts seconds i l) ∙ node_on_lem c (get_or L.kind i 0) (get_or L.first i 0) (get_or L.second i 0))
        (λ l. no_node c (get_or L.kind i 0) (get_or L.first i 0) _ _ (get_or-eq_default L.kind 0 l)) (lt_or_le i (length L.kind))

    same_dups : (n : ℕ) → dups_below (on_classes c L) n ≡ dups_below L n
    unfolding dups_below
    same_dups zero = refl
    same_dups (suc n) = ap₂ (λ (a b : ℕ). a + b) (same_dups n) (ap (λ (x : Node). one (is_dup x)) (node_classed n) ∙ ap one (dup_on c (node_at L n)))

    same_children : (n : ℕ) → children (node_at (on_classes c L) n) ≡ children (node_at L n)
    same_children n = ap children (node_classed n) ∙ children_on c (node_at L n)

    same_times : (j n : ℕ) → times_child (on_classes c L) j n ≡ times_child L j n
    unfolding times_child
    same_times j zero = refl
    same_times j (suc n) = ap₂ (λ (a b : ℕ). a + b) (same_times j n) (ap (occurrences j) (same_children n))

    tree_classed : (t n : ℕ) → tree_at (on_classes c L) t n ≡ classed c (tree_at L t n)
    unfolding tree_at classed with_actions
    tree_classed zero n = refl
    tree_classed (suc t) n =
        ap₂ (λ (label : ℕ) (x : Node). grow (tree_at (on_classes c L) t) label x) (same_dups (suc n)) (node_classed n)
        ∙ grow_on c (tree_at (on_classes c L) t) (tree_at L t) (tree_classed t) (dups_below L (suc n)) (node_at L n)

    -- the policy of the lists is the policy on classes
    pub policy_classed : policy_of (on_classes c L) ≡ classed c (policy_of L)
    unfolding policy_of node_count on_classes
    policy_classed = tree_classed (length L.kind) _

    pub dups_classed : dups_below (on_classes c L) (node_count (on_classes c L)) ≡ dups_below L (node_count L)
    unfolding node_count on_classes
    dups_classed = same_dups (length L.kind)

    same_negations : (n : ℕ) → bad_negation (on_classes c L) n ≡ bad_negation L n
    unfolding bad_negation negates_other node_on tree_of
    same_negations n = ap (negates_other (on_classes c L)) (node_classed n) ∙ go (node_at L n)
      where
        go : (x : Node) → negates_other (on_classes c L) (node_on c x) ≡ negates_other L x
        go Drop = refl
        go Id = refl
        go (Field a) = refl
        go Dup = refl
        go (Sum l r) = refl
        go (Seq l r) = refl
        go (Star m) = refl
        go (Neg m) = ap not (ap is_test (tree_classed (suc m) m) ∙ test_on c (tree_at L (suc m) m))

  -- a value of a field has a class of it
  field_classed : (sizes : List ℕ) → Faithful c sizes → (f v : ℕ) → bad_field sizes f v ≡ false → bad_field c.counts f (c.class f v) ≡ false
  unfolding bad_field
  field_classed sizes h f v e =
      let inside = leb-false (length sizes) f (or_false (leb (length sizes) f) (leb (get_or sizes f 0) v) e).0 in
      rw (lt-leb (length c.counts) f (omega (arith, h.fields)), lt-leb (get_or c.counts f 0) (c.class f v) (h.class_below f v inside (value_below sizes f v e))) refl

  entries_classed : (sizes : List ℕ) → Faithful c sizes → (k a b : ℕ) → wrong_entries sizes k a b ≡ false → wrong_entries c.counts k a (class_entry c (node_of k a b) b) ≡ false
  unfolding node_of wrong_entries class_entry field_of value_of
  entries_classed sizes h zero a b w = w
  entries_classed sizes h (suc zero) a b w = w
  entries_classed sizes h (suc (suc zero)) a b w = field_classed sizes h a b w
  entries_classed sizes h (suc (suc (suc zero))) a b w = field_classed sizes h a b w
  entries_classed sizes h (suc (suc (suc (suc zero)))) a b w = field_classed sizes h a b w
  entries_classed sizes h (suc (suc (suc (suc (suc zero))))) a b w = w
  entries_classed sizes h (suc (suc (suc (suc (suc (suc zero)))))) a b w = w
  entries_classed sizes h (suc (suc (suc (suc (suc (suc (suc zero))))))) a b w = w
  entries_classed sizes h (suc (suc (suc (suc (suc (suc (suc (suc zero)))))))) a b w = w
  entries_classed sizes h (suc (suc (suc (suc (suc (suc (suc (suc (suc zero))))))))) a b w = w
  entries_classed sizes h (suc (suc (suc (suc (suc (suc (suc (suc (suc (suc k)))))))))) a b w = w

  -- a policy that is legal over the sizes is, on classes, legal over the class counts
  pub classes_legal : (sizes : List ℕ) → Faithful c sizes → (L : NodeLists) → Legal sizes L → Legal c.counts (on_classes c L)
  unfolding bad_kind bad_entries bad_child node_count on_classes
  classes_legal sizes h L g =
      let w = g.well_formed in
      record {
        well_formed =
            record {
              firsts = w.firsts;
              seconds = entries_length L.kind L.first L.second w.firsts w.seconds;
              few = w.few;
              kinds = w.kinds;
              entries = λ i l. rw (entry_at_lem L.kind L.first L.second w.firsts w.seconds i l) (entries_classed sizes h _ _ _ (w.entries i l));
              below = λ i l. ap (some_not_below i) (same_children L w.firsts w.seconds i) ∙ w.below i l;
              once = λ j. subst (λ n. n ≤ 1) (sym (same_times L w.firsts w.seconds j (length L.kind))) (w.once j);
              negations = λ i l. same_negations L w.firsts w.seconds i ∙ w.negations i l;
              dups = subst (λ n. n ≤ max_dups) (sym (same_dups L w.firsts w.seconds (length L.kind))) w.dups;
            };
        some = g.some;
        children = λ j l. same_times L w.firsts w.seconds j (length L.kind) ∙ g.children j l;
      }
