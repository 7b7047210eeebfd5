-- The packets that pass a policy made of tests alone, by its parts.
use Prim.Native.Nat.{ℕ, suc, ◌≤◌, ◌<◌}
use mathlib.Core.Bool.{Bool, true, false, not, xor, ◌&&◌, ◌||◌}
use mathlib.Core.List.{List}
use mathlib.Core.Logic.{◌⊎◌, inl, inr}
use mathlib.Core.Path.{◌≡◌, refl, sym, ap, ap₂, ◌∙◌, subst}
use native.Mathlib.Omega.{arith}
use borrow.Author.Tests.{le-ltb}
use lib.Bits.{bit_xor}
use lib.Dec.{eqb, ltb}
use lib.ListN.{length}
use Rattle.packet.specs.Packets.{value_at}
use Rattle.packet.specs.Sizes.{product}
use Rattle.packet.proofs.Tests.{lt_or_le, and_true}
use Rattle.policy.specs.declared.FieldAction.{FieldAction}
use Rattle.policy.specs.declared.FieldAction.TheVariants.{Equals, Differs, Set}
use Rattle.policy.specs.declared.Node.{Node}
use Rattle.policy.specs.declared.Node.TheVariants.{Drop, Id, Field, Dup, Sum, Seq, Star, Neg}
use Rattle.policy.specs.Legality.{bad_field, field_of, value_of, InFields}
use Rattle.policy.specs.NodeLists.{NodeLists, node_at, children, dups_below, grow, tree_of}
use Rattle.policy.specs.InnerTransport.{EachAction}
use Rattle.policy.specs.Meaning.{numbered}
use Rattle.policy.specs.Tree.{Policy, drop, field, dup, star}
use Rattle.policy.proofs.Trees.{two_below, one_below, tree_fields}
use Rattle.packet_set.specs.InnerMembers.{member, empty_set, union_of, exclusive_or_of}
use Rattle.packet_set.proofs.Words.{length_wordwise, member_empty, member_union, member_exclusive_or, length_union}
use Rattle.loaded.specs.Loading.{Formed, HasMembers, Met, every_packet, with_value, Fielding, Loading, TestNode}
use Rattle.loaded.specs.Passing.{passing}
use Rattle.policy.specs.Tests.{passes, is_test}
use Rattle.loaded.proofs.Meeting.{member_beyond}
use Rattle.loaded.proofs.Runs.{empty_wide}
use Rattle.loaded.proofs.Trees.{below, tree_of_lem}

-- no packet from N on
none_beyond : (sizes : List ℕ) (γ : ℕ) (b : Bool) → product sizes ≤ 1024 → 1024 ≤ γ → ltb γ (product sizes) && b ≡ false
none_beyond sizes γ b h l = ap (λ (x : Bool). x && b) (le-ltb γ (product sizes) (omega arith))

nothing_passes : (sizes : List ℕ) (p : Policy) (r : List ℕ) → ((γ : ℕ) → passes (numbered sizes) p γ ≡ false) → r ≡ empty_set → HasMembers r (passing sizes p)
unfolding passing
nothing_passes sizes p r h e = record {
  wide = empty_wide r e;
  members = λ γ. ap (λ (x : List ℕ). member x γ) e ∙ member_empty γ ∙ sym (ap (λ (b : Bool). ltb γ (product sizes) && b) (h γ) ∙ never (ltb γ (product sizes)));
}
  where
    never : (b : Bool) → b && false ≡ false
    never true = refl
    never false = refl

-- the packets below N that are not in a set
complement : (sizes : List ℕ) (test : ℕ → Bool) (all s r : List ℕ) → product sizes ≤ 1024 → HasMembers all (every_packet sizes) → HasMembers s (λ γ. ltb γ (product sizes) && test γ)
    → r ≡ exclusive_or_of 32 s all → HasMembers r (λ γ. ltb γ (product sizes) && not (test γ))
unfolding every_packet exclusive_or_of xor
complement sizes test all s r few every h e = record { wide = wide; members = λ γ. go γ (lt_or_le γ 1024) }
  where
    wide : length r ≡ 32
    wide = ap length e ∙ length_wordwise bit_xor 32 s all ∙ h.wide

    rest : (x y : Bool) → xor (x && y) x ≡ x && not y
    rest true true = refl
    rest true false = refl
    rest false y = refl

    go : (γ : ℕ) → (γ < 1024) ⊎ (1024 ≤ γ) → member r γ ≡ ltb γ (product sizes) && not (test γ)
    go γ (inl l) =
        ap (λ (x : List ℕ). member x γ) e
        ∙ member_exclusive_or 32 s all γ l (omega (arith, h.wide))
        ∙ ap₂ xor (h.members γ) (every.members γ)
        ∙ rest (ltb γ (product sizes)) (test γ)
    go γ (inr l) = member_beyond r γ wide l ∙ sym (none_beyond sizes γ (not (test γ)) few l)

-- ---- one field

module _ (sizes : List ℕ) (f v : ℕ) (a : FieldAction) (r : List ℕ) where
  pub equals_set : a ≡ Equals f v → HasMembers r (with_value sizes f v) → HasMembers r (passing sizes (field a))
  unfolding passing passes with_value
  equals_set e h = subst (λ (x : FieldAction). HasMembers r (passing sizes (field x))) (sym e) (record { wide = h.wide; members = h.members })

  pub change_set : a ≡ Set f v → r ≡ empty_set → HasMembers r (passing sizes (field a))
  unfolding passes
  change_set e h = subst (λ (x : FieldAction). HasMembers r (passing sizes (field x))) (sym e) (nothing_passes sizes (field (Set f v)) r (λ γ. refl) h)

  pub differs_set : (count : ℕ) (all s : List ℕ) → Fielding sizes count all a → a ≡ Differs f v → HasMembers s (with_value sizes f v) → r ≡ exclusive_or_of 32 s all → HasMembers r (passing sizes (field a))
  unfolding passing passes with_value
  differs_set count all s g e h er =
      subst (λ (x : FieldAction). HasMembers r (passing sizes (field x))) (sym e) (complement sizes (λ γ. eqb (value_at sizes f γ) v) all s r g.sized.small g.every h er)

pub field_declared : (sizes : List ℕ) (count : ℕ) (all : List ℕ) (a : FieldAction) → Fielding sizes count all a → (f v : ℕ) → field_of a ≡ f → value_of a ≡ v → bad_field sizes f v ≡ false
field_declared sizes count all a g f v ef ev = sym (ap₂ (bad_field sizes) ef ev) ∙ g.is_in_field

-- ---- one node

pub formed : (sizes : List ℕ) (L : NodeLists) (count : ℕ) (all : List ℕ) → Loading sizes L count all → Formed L
formed sizes L count all g = record { sizes = sizes; legal = g.legal }

module _ (sizes : List ℕ) (L : NodeLists) (count : ℕ) (all : List ℕ) (g : Loading sizes L count all) (n : ℕ) (o : TestNode L n) (node : Node) (en : node ≡ node_at L n) where
  f : Formed L
  f = formed sizes L count all g

  tree : (d : Node) → node ≡ d → tree_of L n ≡ grow (tree_of L) (dups_below L (suc n)) d
  tree d e = tree_of_lem L f n o.within d (sym en ∙ e)

  by_tree : (r : List ℕ) (d : Node) → node ≡ d → HasMembers r (passing sizes (grow (tree_of L) (dups_below L (suc n)) d)) → HasMembers r (passing sizes (tree_of L n))
  by_tree r d e = subst (λ (p : Policy). HasMembers r (passing sizes p)) (sym (tree d e))

  module _ (r : List ℕ) where
    -- the nodes that let nothing through
    pub empty_node : (node ≡ Drop) ⊎ ((node ≡ Dup) ⊎ ((c : ℕ) × (node ≡ Star c))) → r ≡ empty_set → HasMembers r (passing sizes (tree_of L n))
    unfolding grow passes
    empty_node (inl e) h = by_tree r Drop e (nothing_passes sizes drop r (λ γ. refl) h)
    empty_node (inr (inl e)) h = by_tree r Dup e (nothing_passes sizes (dup (dups_below L (suc n))) r (λ γ. refl) h)
    empty_node (inr (inr (c, e))) h = by_tree r (Star c) e (nothing_passes sizes (star (tree_of L c)) r (λ γ. refl) h)

    pub id_node : node ≡ Id → r ≡ all → HasMembers r (passing sizes (tree_of L n))
    unfolding grow passes passing every_packet
    id_node e h = by_tree r Id e (record { wide = ap length h ∙ g.every.wide; members = λ γ. ap (λ (x : List ℕ). member x γ) h ∙ g.every.members γ ∙ sym (whole (ltb γ (product sizes))) })
      where
        whole : (b : Bool) → b && true ≡ b
        whole true = refl
        whole false = refl

    pub field_node : (a : FieldAction) → node ≡ Field a → HasMembers r (passing sizes (field a)) → HasMembers r (passing sizes (tree_of L n))
    unfolding grow
    field_node a e h = by_tree r (Field a) e h

    module _ (x y : ℕ) (s t : List ℕ) (a : HasMembers s (passing sizes (tree_of L x))) (b : HasMembers t (passing sizes (tree_of L y))) where
      pub sum_node : node ≡ Sum x y → r ≡ union_of 32 s t → HasMembers r (passing sizes (tree_of L n))
      unfolding grow passes passing
      sum_node e h = by_tree r (Sum x y) e (record { wide = wide; members = λ γ. go γ (lt_or_le γ 1024) })
        where
          wide : length r ≡ 32
          wide = ap length h ∙ length_union 32 s t ∙ a.wide

          join : (l p q : Bool) → (l && p) || (l && q) ≡ l && (p || q)
          join true p q = refl
          join false p q = refl

          go : (γ : ℕ) → (γ < 1024) ⊎ (1024 ≤ γ) → member r γ ≡ ltb γ (product sizes) && (passes (numbered sizes) (tree_of L x) γ || passes (numbered sizes) (tree_of L y) γ)
          go γ (inl l) =
              ap (λ (x : List ℕ). member x γ) h ∙ member_union 32 s t γ l (omega (arith, a.wide)) ∙ ap₂ ◌||◌ (a.members γ) (b.members γ)
              ∙ join (ltb γ (product sizes)) (passes (numbered sizes) (tree_of L x) γ) (passes (numbered sizes) (tree_of L y) γ)
          go γ (inr l) = member_beyond r γ wide l ∙ sym (none_beyond sizes γ (passes (numbered sizes) (tree_of L x) γ || passes (numbered sizes) (tree_of L y) γ) g.sized.small l)

      pub seq_node : node ≡ Seq x y → Met s t r → HasMembers r (passing sizes (tree_of L n))
      unfolding grow passes passing
      seq_node e h = by_tree r (Seq x y) e (record { wide = h.wide; members = λ γ. h.members γ ∙ ap₂ ◌&&◌ (a.members γ) (b.members γ) ∙ meet (ltb γ (product sizes)) (passes (numbered sizes) (tree_of L x) γ) (passes (numbered sizes) (tree_of L y) γ) })
        where
          meet : (l p q : Bool) → (l && p) && (l && q) ≡ l && (p && q)
          meet true p q = refl
          meet false p q = refl

    pub neg_node : (c : ℕ) (s : List ℕ) → HasMembers s (passing sizes (tree_of L c)) → node ≡ Neg c → r ≡ exclusive_or_of 32 s all → HasMembers r (passing sizes (tree_of L n))
    unfolding grow passes passing
    neg_node c s h e er = by_tree r (Neg c) e (complement sizes (passes (numbered sizes) (tree_of L c)) all s r g.sized.small g.every h er)

  pub action_declared : (a : FieldAction) → node ≡ Field a → Fielding sizes count all a
  unfolding grow
  action_declared a e = record {
    sized = g.sized;
    counted = g.counted;
    every = g.every;
    is_in_field = fields;
  }
    where
      fields : bad_field sizes (field_of a) (value_of a) ≡ false
      fields = unfold tree_of InFields in subst (EachAction (λ a. bad_field sizes (field_of a) (value_of a) ≡ false)) (tree (Field a) e) (tree_fields g.legal.well_formed (suc n) n (omega arith) o.within)

  -- the parts of a test are tests
  parts : (x y : ℕ) → children node ≡ children (Sum x y) → is_test (tree_of L x) && is_test (tree_of L y) ≡ true → TestNode L x × TestNode L y
  unfolding children
  parts x y e h =
      let k = two_below L (below L f) n x y o.within (ap children (sym en) ∙ e) in
      let q = and_true (is_test (tree_of L x)) (is_test (tree_of L y)) h in
      let l = o.within in
      (record { within = omega arith; alone = q.0 }, record { within = omega arith; alone = q.1 })

  lower : (x y : ℕ) → children node ≡ children (Sum x y) → (x < n) × (y < n)
  unfolding children
  lower x y e = two_below L (below L f) n x y o.within (ap children (sym en) ∙ e)

  module _ (x y : ℕ) where
    pub sum_parts : node ≡ Sum x y → TestNode L x × TestNode L y × (x < n) × (y < n)
    unfolding grow is_test
    sum_parts e = let h = parts x y (ap children e) (sym (ap is_test (tree (Sum x y) e)) ∙ o.alone) in let k = lower x y (ap children e) in (h.0, h.1, k.0, k.1)

    pub seq_parts : node ≡ Seq x y → TestNode L x × TestNode L y × (x < n) × (y < n)
    unfolding grow is_test children
    seq_parts e = let h = parts x y (ap children e) (sym (ap is_test (tree (Seq x y) e)) ∙ o.alone) in let k = lower x y (ap children e) in (h.0, h.1, k.0, k.1)

  -- what a test negates is a test
  pub negated_part : (c : ℕ) → node ≡ Neg c → TestNode L c × (c < n)
  unfolding grow is_test children
  negated_part c e =
      let k = one_below L (below L f) n c o.within (ap children (sym en ∙ e)) in
      let l = o.within in
      (record { within = omega arith; alone = sym (ap is_test (tree (Neg c) e)) ∙ o.alone }, k)
