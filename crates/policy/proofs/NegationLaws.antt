-- Cause 19 over the node lists: a kind 9 with a kind 4, 5 or 8 anywhere below it.
use Prim.Native.Nat.{ℕ, zero, suc, ◌<◌}
use mathlib.Core.Bool.{Bool, true, false, not, ◌&&◌, ◌||◌, or-false}
use mathlib.Core.List.{List, [], ◌∷◌, ◌++◌}
use mathlib.Core.Logic.{◌↔◌}
use mathlib.Core.Path.{◌≡◌, refl, sym, ap, ap₂, ◌∙◌}
use native.Mathlib.Nat.{not-suc-le-zero}
use native.Mathlib.Omega.{arith}
use Rattle.packet.proofs.Tests.{clash}
use Rattle.policy.specs.declared.FieldAction.TheVariants.{Equals, Differs, Set}
use Rattle.policy.specs.declared.Node.{Node}
use Rattle.policy.specs.declared.Node.TheVariants.{Drop, Id, Field, Dup, Sum, Seq, Star, Neg}
use Rattle.policy.specs.Tree.{Policy}
use Rattle.policy.specs.NodeLists.{NodeLists, node_at, children, dups_below, grow, tree_at, tree_of}
use Rattle.policy.specs.Tests.{is_test, not_in_tests}
use Rattle.policy.specs.Legality.{occurrences, negates_other, bad_negation}
use Rattle.policy.specs.Visits.{joined, visit, times_in, InTree}
use Rattle.policy.proofs.EachLaws.{one_same, one_other}

-- one of the list passes the test
some : (ℕ → Bool) → List ℕ → Bool
some p [] = false
some p (x ∷ xs) = p x || some p xs

-- a member of the list that passes the test
abbrev Met : (ℕ → Bool) → List ℕ → Type 0
Met p xs = (j : ℕ) × (0 < occurrences j xs) × (p j ≡ true)

some_append : (p : ℕ → Bool) (xs ys : List ℕ) → some p (xs ++ ys) ≡ some p xs || some p ys
unfolding some
some_append p [] ys = refl
some_append p (x ∷ xs) ys = rw (some_append p xs ys) (assoc (p x))
  where
    assoc : (a : Bool) → a || (some p xs || some p ys) ≡ a || some p xs || some p ys
    assoc true = refl
    assoc false = refl

some_joined : (p q : ℕ → Bool) (f : ℕ → List ℕ) → ((c : ℕ) → q c ≡ some p (f c)) → (cs : List ℕ) → some q cs ≡ some p (joined f cs)
unfolding some joined
some_joined p q f e [] = refl
some_joined p q f e (c ∷ cs) = ap₂ ◌||◌ (e c) (some_joined p q f e cs) ∙ sym (some_append p (f c) (joined f cs))

-- from the head of the list and the rest
some_cons : (p : ℕ → Bool) (x : ℕ) (xs : List ℕ) (b : Bool) → p x ≡ b → (some p xs ≡ true) ↔ Met p xs → (b || some p xs ≡ true) ↔ Met p (x ∷ xs)
unfolding occurrences
some_cons p x xs true e rest = (λ h. (x, omega (arith, one_same x x refl), e), λ h. refl)
some_cons p x xs false e rest = (
  λ h. let r = rest.0 h in (r.0, omega (arith, r.1), r.2),
  λ h. rest.1 (h.0, omega (arith, h.1, one_other x h.0 (λ q. clash h.2 (ap p (sym q) ∙ e))), h.2),
)

some_iff : (p : ℕ → Bool) (xs : List ℕ) → (some p xs ≡ true) ↔ Met p xs
unfolding some occurrences
some_iff p [] = (λ e. clash e refl, λ h. absurd (not-suc-le-zero h.1))
some_iff p (x ∷ xs) = some_cons p x xs (p x) refl (some_iff p xs)

not_and : (a b : Bool) → not (a && b) ≡ not a || (not b || false)
not_and true b = sym (or-false (not b))
not_and false b = refl

-- a tree is no test where its node stands in no test or the tree of a child is no test
grow_other : (f : ℕ → Policy) (label : ℕ) (x : Node) → not (is_test (grow f label x)) ≡ not_in_tests x || some (λ c. not (is_test (f c))) (children x)
unfolding some is_test not_in_tests grow children
grow_other f label Drop = refl
grow_other f label Id = refl
grow_other f label (Field (Equals g v)) = refl
grow_other f label (Field (Differs g v)) = refl
grow_other f label (Field (Set g v)) = refl
grow_other f label Dup = refl
grow_other f label (Sum l r) = not_and (is_test (f l)) (is_test (f r))
grow_other f label (Seq l r) = not_and (is_test (f l)) (is_test (f r))
grow_other f label (Star c) = refl
grow_other f label (Neg c) = sym (or-false (not (is_test (f c))))

module _ (L : NodeLists) where
  -- a node that stands in no test
  other : ℕ → Bool
  other j = not_in_tests (node_at L j)

  -- a tree is no test where the walk through it with the same fuel meets such a node
  visit_other : (t n : ℕ) → not (is_test (tree_at L t n)) ≡ some other (visit L t n)
  unfolding some other is_test tree_at visit
  visit_other zero n = refl
  visit_other (suc t) n =
      grow_other (tree_at L t) (dups_below L (suc n)) (node_at L n)
      ∙ ap (λ (b : Bool). not_in_tests (node_at L n) || b)
      (some_joined other (λ c. not (is_test (tree_at L t c))) (visit L t) (visit_other t) (children (node_at L n)))

  -- the tree of a node is no test where a change, a dup or a star stands in it
  no_test_iff : (n : ℕ) → (not (is_test (tree_of L n)) ≡ true) ↔ ((j : ℕ) × InTree L n j × (not_in_tests (node_at L j) ≡ true))
  unfolding tree_of InTree times_in other
  no_test_iff n = rw (visit_other (suc n) n) (some_iff other (visit L (suc n) n))

  negates_neg : (x : Node) → negates_other L x ≡ true → (c : ℕ) × (x ≡ Neg c) × (not (is_test (tree_of L c)) ≡ true)
  unfolding negates_other
  negates_neg Drop h = clash h refl
  negates_neg Id h = clash h refl
  negates_neg (Field a) h = clash h refl
  negates_neg Dup h = clash h refl
  negates_neg (Sum l r) h = clash h refl
  negates_neg (Seq l r) h = clash h refl
  negates_neg (Star c) h = clash h refl
  negates_neg (Neg c) h = (c, refl, h)

  -- cause 19: a kind 9 with a change, a dup or a star anywhere below it; of any lists, also where another cause holds
  pub negation_over : (i : ℕ)
      → (bad_negation L i ≡ true) ↔ ((c : ℕ) × (node_at L i ≡ Neg c) × ((j : ℕ) × InTree L c j × (not_in_tests (node_at L j) ≡ true)))
  unfolding bad_negation negates_other
  negation_over i = (
    λ h. let r = negates_neg (node_at L i) h in (r.0, r.1, (no_test_iff r.0).0 r.2),
    λ h. ap (negates_other L) h.1 ∙ (no_test_iff h.0).1 h.2,
  )
