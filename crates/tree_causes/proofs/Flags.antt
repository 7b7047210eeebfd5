-- Nodes whose trees are made of tests alone, and cause 19.
use Prim.Native.Nat.{ℕ, zero, suc, ◌+◌, ◌≤◌, ◌<◌}
use mathlib.Core.Bool.{Bool, true, false, not, ◌&&◌}
use mathlib.Core.List.{List}
use mathlib.Core.Logic.{by_cases}
use Rattle.std.specs.Prelude.{None}
use mathlib.Core.Path.{◌≡◌, refl, sym, ap, ap₂, ◌∙◌, subst}
use native.Mathlib.Decide.{ℕ_discrete}
use native.Mathlib.Omega.{arith}
use lib.Dec.{eqb}
use borrow.Author.Tests.{ne_eqb}
use lib.ListN.{length, get_or, set, length-set}
use lib.Seq.{get_or-set_same, get_or-set_other}
use Rattle.packet.specs.Lowest.{lowest}
use Rattle.packet.proofs.Lowest.{none_lowest}
use Rattle.policy.specs.declared.FieldAction.TheVariants.{Equals, Differs, Set}
use Rattle.policy.specs.declared.Node.{Node}
use Rattle.policy.specs.declared.Node.TheVariants.{Drop, Id, Field, Dup, Sum, Seq, Star, Neg}
use Rattle.policy.specs.NodeLists.{NodeLists, node_count, node_at, children, dups_below, grow, one, node_of, tree_of}
use Rattle.policy.proofs.EachLaws.{below_each, each_map}
use Rattle.policy.proofs.Trees.{ChildrenBelow, two_below, one_below, tree_grow}
use Rattle.tree_causes.specs.Alone.{ChildrenPlaced, and_flag, alone_of, Alone}
use Rattle.tree_causes.specs.Counting.{CountableChildren}
use Rattle.policy.specs.Legality.{bad_child, negates_other, bad_negation}
use Rattle.policy.specs.Tests.{is_test}

-- ---- all nodes

-- the flags of the first n nodes are known
pub record Flagging (L : NodeLists) (alone : List ℕ) (n : ℕ) : Type 0 where
  pub at : n ≤ node_count L
  pub long : length alone ≡ 512
  pub done : (j : ℕ) → j < n → get_or alone j 0 ≡ one (is_test (tree_of L j))

and_one : (a b : Bool) → and_flag (one a) (one b) ≡ one (a && b)
unfolding and_flag one
and_one true b = refl
and_one false b = refl

module _ (L : NodeLists) (f : CountableChildren L) where
  below : ChildrenBelow L
  unfolding bad_child
  below n l = (below_each n (children (node_at L n))).0 (f.below n l)

  -- the children of a node have a place
  pub placed_read : (n : ℕ) → n < node_count L → (node : Node) → node ≡ node_at L n → ChildrenPlaced node
  unfolding ChildrenPlaced
  placed_read n l node e =
      let h = f.few in
      subst ChildrenPlaced (sym e) (each_map (λ c. c < n) (λ c. c < 512) (children (node_at L n)) (λ c k. omega arith) (below n l))

  pub flagging_start : (alone : List ℕ) → length alone ≡ 512 → Flagging L alone 0
  flagging_start alone l = record { at = omega arith; long = l; done = λ j h. absurd (omega arith) }

  module _ (alone : List ℕ) (n : ℕ) (m : Flagging L alone n) where
    flag_right : n < node_count L → alone_of alone (node_at L n) ≡ one (is_test (tree_of L n))
    unfolding alone_of grow is_test one children
    flag_right l = go (node_at L n) refl ∙ ap (λ p. one (is_test p)) (sym (tree_grow L below n l))
      where
        two : (x y : ℕ) → x < n → y < n → and_flag (get_or alone x 0) (get_or alone y 0) ≡ one (is_test (tree_of L x) && is_test (tree_of L y))
        two x y a b = ap₂ and_flag (m.done x a) (m.done y b) ∙ and_one (is_test (tree_of L x)) (is_test (tree_of L y))

        go : (d : Node) → node_at L n ≡ d → alone_of alone d ≡ one (is_test (grow (tree_of L) (dups_below L (suc n)) d))
        go Drop e = refl
        go Id e = refl
        go (Field (Equals g v)) e = refl
        go (Field (Differs g v)) e = refl
        go (Field (Set g v)) e = refl
        go Dup e = refl
        go (Sum x y) e = let k = two_below L below n x y l (ap children e) in two x y k.0 k.1
        go (Seq x y) e = let k = two_below L below n x y l (ap children e) in two x y k.0 k.1
        go (Star x) e = refl
        go (Neg x) e = m.done x (one_below L below n x l (ap children e))

    pub flagging_turn : n < node_count L → (node : Node) → node ≡ node_at L n → (v : ℕ) → v ≡ alone_of alone node → Flagging L (set alone n v) (n + 1)
    flagging_turn l node en v ev = record { at = omega arith; long = length-set alone n v ∙ m.long; done = λ j h. split j (ℕ_discrete j n) h }
      where
        split : (j : ℕ) → Dec (j ≡ n) → j < n + 1 → get_or (set alone n v) j 0 ≡ one (is_test (tree_of L j))
        split j (yes e) h =
            subst (λ (k : ℕ). get_or (set alone n v) k 0 ≡ one (is_test (tree_of L k))) (sym e)
            (get_or-set_same alone n v 0 (let q = f.few in omega (arith, m.long)) ∙ ev ∙ ap (alone_of alone) en ∙ flag_right l)
        split j (no e) h = get_or-set_other alone n j v 0 e ∙ m.done j (omega arith)

    pub flagging_end : node_count L ≤ n → Alone L alone
    flagging_end h = record { long = m.long; flags = λ j l. m.done j (omega arith) }

-- ---- cause 19

zero_one : (b : Bool) → eqb (one b) 0 ≡ not b
unfolding one
zero_one true = refl
zero_one false = refl

-- a kind that is not 9 negates nothing
no_negation : (L : NodeLists) (k a b : ℕ) (c : Bool) → (k ≡ 9 → ⊥) → negates_other L (node_of k a b) ≡ eqb k 9 && c
unfolding negates_other node_of
no_negation L zero a b c n = refl
no_negation L (suc zero) a b c n = refl
no_negation L (suc (suc zero)) a b c n = refl
no_negation L (suc (suc (suc zero))) a b c n = refl
no_negation L (suc (suc (suc (suc zero)))) a b c n = refl
no_negation L (suc (suc (suc (suc (suc zero))))) a b c n = refl
no_negation L (suc (suc (suc (suc (suc (suc zero)))))) a b c n = refl
no_negation L (suc (suc (suc (suc (suc (suc (suc zero))))))) a b c n = refl
no_negation L (suc (suc (suc (suc (suc (suc (suc (suc zero)))))))) a b c n = refl
no_negation L (suc (suc (suc (suc (suc (suc (suc (suc (suc zero))))))))) a b c n = absurd (n refl)
no_negation L (suc (suc (suc (suc (suc (suc (suc (suc (suc (suc k)))))))))) a b c n = sym (ap (λ (d : Bool). d && c) (ne_eqb _ 9 n))

-- without a negation 19 has no place
pub no_negations : (L : NodeLists) → ((i : ℕ) → i < node_count L → get_or L.kind i 0 ≡ 9 → ⊥) → None ≡ lowest (bad_negation L) (node_count L)
unfolding bad_negation node_at
no_negations L n = sym (none_lowest (bad_negation L) (node_count L) (λ i l. no_negation L _ _ _ false (n i l) ∙ and_none_right (eqb (get_or L.kind i 0) 9)))
  where
    and_none_right : (b : Bool) → b && false ≡ false
    and_none_right true = refl
    and_none_right false = refl

module _ (L : NodeLists) (f : CountableChildren L) (alone : List ℕ) (m : Alone L alone) (i : ℕ) (l : i < node_count L) where
  -- cause 19 by kind and flag
  pub negation_flag : bad_negation L i ≡ eqb (get_or L.kind i 0) 9 && eqb (get_or alone i 0) 0
  unfolding bad_negation negates_other node_at node_of grow is_test
  negation_flag = by_cases (ℕ_discrete (get_or L.kind i 0) 9) is (no_negation L _ _ _ _)
    where
      is : get_or L.kind i 0 ≡ 9 → bad_negation L i ≡ eqb (get_or L.kind i 0) 9 && eqb (get_or alone i 0) 0
      is e =
          let at : node_at L i ≡ Neg (get_or L.first i 0) = ap (λ (k : ℕ). node_of k (get_or L.first i 0) (get_or L.second i 0)) e in
          let tree = tree_grow L (below L f) i l ∙ ap (grow (tree_of L) (dups_below L (suc i))) at in
          ap (negates_other L) at
          ∙ sym (zero_one (is_test (tree_of L (get_or L.first i 0))))
          ∙ ap (λ p. eqb (one (is_test p)) 0) (sym tree)
          ∙ ap (λ (x : ℕ). eqb x 0) (sym (m.flags i l))
          ∙ ap (λ (k : ℕ). eqb k 9 && eqb (get_or alone i 0) 0) (sym e)

  -- what the test of a node answers
  pub bad_negation_at : {r b : Bool} → r ≡ eqb (get_or L.kind i 0) 9 && eqb (get_or alone i 0) 0 → r ≡ b → bad_negation L i ≡ b
  bad_negation_at e h = negation_flag ∙ sym e ∙ h
