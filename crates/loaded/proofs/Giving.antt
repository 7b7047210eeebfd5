-- The sets of the tests: which nodes get one, and that 256 are enough.
use Prim.Native.Nat.{ℕ, zero, suc, pred, ◌+◌, ◌-◌, ◌≤◌, ◌<◌}
use mathlib.Core.Bool.{Bool, true, false, not, cond, ◌&&◌}
use mathlib.Core.List.{List, [], ◌∷◌}
use mathlib.Core.Logic.{◌⊎◌, inl, inr, by_cases}
use mathlib.Core.Path.{◌≡◌, refl, sym, ap, ap₂, ◌∙◌, subst}
use native.Mathlib.Decide.{ℕ_discrete}
use native.Mathlib.Numerals.{add-one}
use native.Mathlib.Omega.{arith}
use lib.ListN.{length, get_or, set, replicate, length-set}
use lib.Seq.{get_or-set_same, get_or-set_other}
use Rattle.packet.proofs.Tests.{clash}
use Rattle.std.specs.Prelude.{Option, Some, None, IfSome}
use Rattle.std.specs.Option.{ForSome}
use Rattle.policy.specs.declared.Node.{Node}
use Rattle.policy.specs.declared.Node.TheVariants.{Drop, Id, Field, Dup, Sum, Seq, Star, Neg}
use Rattle.policy.specs.InnerEach.{Each}
use Rattle.policy.specs.Legality.{occurrences, times_child}
use Rattle.policy.specs.NodeLists.{NodeLists, node_count, node_at, children, grow, one, tree_of}
use Rattle.policy.proofs.EachLaws.{each_map, one_same}
use Rattle.policy.proofs.Trees.{two_below, one_below}
use Rattle.policy.proofs.VisitLaws.{no_child}
use Rattle.spans.specs.Spans.{slot}
use Rattle.loaded.specs.Loading.{Formed, TestNode, pick, test_under, SlotFilled, Gave, TestSets}
use Rattle.tree_causes.specs.Alone.{Alone, ChildrenPlaced}
use Rattle.loaded.specs.Passing.{passing}
use Rattle.policy.specs.Tests.{is_test}
use Rattle.loaded.proofs.Bounds.{replicate_le, set_le}
use Rattle.loaded.proofs.Sums.{sum_below, sum_le, sum_lt, sum_both, sum_more}
use Rattle.loaded.proofs.Trees.{below, few, some, small, tree_of_lem}

-- ---- what there may be

pub which : (o : Option ℕ) → ((c : ℕ) × (o ≡ Some c)) ⊎ (o ≡ None)
which (Some c) = inl (c, refl)
which None = inr refl

no_some : (c : ℕ) → None ≡ Some c → ⊥
no_some c e = cc

of_some : (P : ℕ → Type 0) (o : Option ℕ) (c : ℕ) → IfSome o P → o ≡ Some c → P c
of_some P o c h e = subst (λ (x : Option ℕ). IfSome x P) e h

-- ---- the child that is tests alone

pub pick_no : (a c : ℕ) (d : Option ℕ) → a ≡ 0 → d ≡ pick a c d
unfolding pick
pick_no a c d e = sym (ap (λ (x : ℕ). pick x c d) e)

pub pick_yes : (a c : ℕ) (d : Option ℕ) → (a ≡ 0 → ⊥) → Some c ≡ pick a c d
unfolding pick
pick_yes zero c d h = absurd (h refl)
pick_yes (suc a) c d h = refl

pub pick_twice : (a b x y : ℕ) (rest : Option ℕ) → rest ≡ pick b y None → (r : Option ℕ) → r ≡ pick a x rest → r ≡ pick a x (pick b y None)
pick_twice a b x y rest e r h = h ∙ ap (pick a x) e

pub under_flag : (alone : List ℕ) (f : ℕ) (node : Node) → (f ≡ 0 → ⊥) → None ≡ test_under alone f node
unfolding test_under
under_flag alone zero node h = absurd (h refl)
under_flag alone (suc f) node h = refl

pub under_is : (alone : List ℕ) (f : ℕ) (node d : Node) → f ≡ 0 → node ≡ d → test_under alone 0 d ≡ test_under alone f node
under_is alone f node d z e = sym (ap₂ (test_under alone) z e)

-- a sum and a sequence alike
pub parts_placed : {node : Node} {l r : ℕ} → ChildrenPlaced node → (node ≡ Sum l r) ⊎ (node ≡ Seq l r) → (l < 512) × (r < 512)
unfolding ChildrenPlaced Each children
parts_placed h (inl e) = let p = subst ChildrenPlaced e h in (p.0, p.1.0)
parts_placed h (inr e) = let p = subst ChildrenPlaced e h in (p.0, p.1.0)

pub under_parts : (alone : List ℕ) (f : ℕ) (node : Node) (l r : ℕ) → f ≡ 0 → (node ≡ Sum l r) ⊎ (node ≡ Seq l r) → pick (get_or alone l 0) l (pick (get_or alone r 0) r None) ≡ test_under alone f node
unfolding test_under
under_parts alone f node l r z (inl e) = under_is alone f node (Sum l r) z e
under_parts alone f node l r z (inr e) = under_is alone f node (Seq l r) z e

-- of a node that is no sum, no sequence and no star
pub under_none : (alone : List ℕ) (f : ℕ) (node : Node) → f ≡ 0 → ((l r : ℕ) → node ≡ Sum l r → ⊥) → ((l r : ℕ) → node ≡ Seq l r → ⊥) → ((c : ℕ) → node ≡ Star c → ⊥) → None ≡ test_under alone f node
unfolding test_under
under_none alone (suc f) node z a b h = absurd (omega arith)
under_none alone zero Drop z a b h = refl
under_none alone zero Id z a b h = refl
under_none alone zero (Field x) z a b h = refl
under_none alone zero Dup z a b h = refl
under_none alone zero (Sum x y) z a b h = absurd (a x y refl)
under_none alone zero (Seq x y) z a b h = absurd (b x y refl)
under_none alone zero (Star x) z a b h = absurd (h x refl)
under_none alone zero (Neg x) z a b h = refl

module _ (L : NodeLists) (f : Formed L) (alone : List ℕ) (a : Alone L alone) where
  flag_yes : (c : ℕ) → c < node_count L → is_test (tree_of L c) ≡ true → get_or alone c 0 ≡ 0 → ⊥
  unfolding one
  flag_yes c l e z = omega (arith, a.flags c l ∙ ap one e)

  flag_no : (c : ℕ) → c < node_count L → is_test (tree_of L c) ≡ false → get_or alone c 0 ≡ 0
  unfolding one
  flag_no c l e = a.flags c l ∙ ap one e

  -- what is picked is a test
  picked : (c : ℕ) (d : Option ℕ) → c < node_count L → IfSome d (TestNode L) → IfSome (pick (get_or alone c 0) c d) (TestNode L)
  picked c d l h = go (is_test (tree_of L c)) refl
    where
      go : (b : Bool) → is_test (tree_of L c) ≡ b → IfSome (pick (get_or alone c 0) c d) (TestNode L)
      go true e = subst (λ (o : Option ℕ). IfSome o (TestNode L)) (pick_yes (get_or alone c 0) c d (flag_yes c l e)) (record { within = l; alone = e })
      go false e = subst (λ (o : Option ℕ). IfSome o (TestNode L)) (pick_no (get_or alone c 0) c d (flag_no c l e)) h

  module _ (n : ℕ) (l : n < node_count L) where
    -- the node's child that is tests alone, as its contract names it
    abbrev child : Option ℕ
    child = test_under alone (get_or alone n 0) (node_at L n)

    child_tested : IfSome child (TestNode L)
    unfolding test_under children
    child_tested = go (get_or alone n 0) (node_at L n) refl
      where
        two : (x y : ℕ) → children (node_at L n) ≡ x ∷ y ∷ [] → IfSome (pick (get_or alone x 0) x (pick (get_or alone y 0) y None)) (TestNode L)
        two x y e = let b = two_below L (below L f) n x y l e in picked x (pick (get_or alone y 0) y None) (omega arith) (picked y None (omega arith) tt)

        go : (z : ℕ) (d : Node) → node_at L n ≡ d → IfSome (test_under alone z d) (TestNode L)
        go zero Drop e = tt
        go zero Id e = tt
        go zero (Field g) e = tt
        go zero Dup e = tt
        go zero (Sum x y) e = two x y (ap children e)
        go zero (Seq x y) e = two x y (ap children e)
        go zero (Star x) e = let b = one_below L (below L f) n x l (ap children e) in picked x None (omega arith) tt
        go zero (Neg x) e = tt
        go (suc z) d e = tt

    -- only a node that is not tests alone has one, and it is a child
    child_moves : (c : ℕ) → child ≡ Some c → is_test (tree_of L n) ≡ false
    child_moves c h = go (is_test (tree_of L n)) refl
      where
        go : (b : Bool) → is_test (tree_of L n) ≡ b → is_test (tree_of L n) ≡ false
        go true e = let none = under_flag alone (get_or alone n 0) (node_at L n) (flag_yes n l e) in absurd (no_some c (none ∙ h))
        go false e = e

    pick_in : (x : ℕ) (y : Option ℕ) (cs : List ℕ) → 0 < occurrences x cs → IfSome y (λ c. 0 < occurrences c cs) → IfSome (pick (get_or alone x 0) x y) (λ c. 0 < occurrences c cs)
    pick_in x y cs h k = by_cases (ℕ_discrete (get_or alone x 0) 0)
        (λ e. subst (λ (o : Option ℕ). IfSome o (λ c. 0 < occurrences c cs)) (pick_no (get_or alone x 0) x y e) k)
        (λ e. subst (λ (o : Option ℕ). IfSome o (λ c. 0 < occurrences c cs)) (pick_yes (get_or alone x 0) x y e) h)

    child_occurs : IfSome child (λ c. 0 < occurrences c (children (node_at L n)))
    unfolding test_under children occurrences
    child_occurs = go (get_or alone n 0) (node_at L n)
      where
        here : (x : ℕ) (cs : List ℕ) → 0 < occurrences x (x ∷ cs)
        here x cs = omega (arith, one_same x x refl)

        next : (x y : ℕ) → 0 < occurrences y (x ∷ y ∷ [])
        next x y = omega (arith, one_same y y refl)

        two : (x y : ℕ) → IfSome (pick (get_or alone x 0) x (pick (get_or alone y 0) y None)) (λ c. 0 < occurrences c (x ∷ y ∷ []))
        two x y = pick_in x (pick (get_or alone y 0) y None) (x ∷ y ∷ []) (here x (y ∷ [])) (pick_in y None (x ∷ y ∷ []) (next x y) tt)

        go : (z : ℕ) (d : Node) → IfSome (test_under alone z d) (λ c. 0 < occurrences c (children d))
        go zero Drop = tt
        go zero Id = tt
        go zero (Field g) = tt
        go zero Dup = tt
        go zero (Sum x y) = two x y
        go zero (Seq x y) = two x y
        go zero (Star x) = pick_in x None (x ∷ []) (here x []) tt
        go zero (Neg x) = tt
        go (suc z) d = tt

    -- a node that is not tests alone has no other child that is
    child_all : is_test (tree_of L n) ≡ false → Each (λ c. is_test (tree_of L c) ≡ true → Some c ≡ child) (children (node_at L n))
    unfolding test_under children Each grow is_test
    child_all moves =
        subst (λ (z : ℕ). Each (λ c. is_test (tree_of L c) ≡ true → Some c ≡ test_under alone z (node_at L n)) (children (node_at L n))) (sym (flag_no n l moves))
        (go (node_at L n) refl)
      where
        two : (x y : ℕ) → children (node_at L n) ≡ x ∷ y ∷ [] → is_test (tree_of L x) && is_test (tree_of L y) ≡ false
            → (is_test (tree_of L x) ≡ true → Some x ≡ pick (get_or alone x 0) x (pick (get_or alone y 0) y None))
            × ((is_test (tree_of L y) ≡ true → Some y ≡ pick (get_or alone x 0) x (pick (get_or alone y 0) y None)) × Unit {0})
        two x y e h =
            let b = two_below L (below L f) n x y l e in (
              λ q. pick_yes (get_or alone x 0) x (pick (get_or alone y 0) y None) (flag_yes x (omega arith) q),
              (
                λ q. pick_yes (get_or alone y 0) y None (flag_yes y (omega arith) q)
                    ∙ pick_no (get_or alone x 0) x (pick (get_or alone y 0) y None) (flag_no x (omega arith) (left (is_test (tree_of L x)) (is_test (tree_of L y)) h q)),
                tt,
              ),
            )
          where
            left : (p q : Bool) → p && q ≡ false → q ≡ true → p ≡ false
            left true q h e = clash e h
            left false q h e = refl

        go : (d : Node) → node_at L n ≡ d → Each (λ c. is_test (tree_of L c) ≡ true → Some c ≡ test_under alone 0 d) (children d)
        go Drop e = tt
        go Id e = tt
        go (Field g) e = tt
        go Dup e = tt
        go (Sum x y) e = two x y (ap children e) (sym (ap is_test (tree_of_lem L f n l (Sum x y) e)) ∙ moves)
        go (Seq x y) e = two x y (ap children e) (sym (ap is_test (tree_of_lem L f n l (Seq x y) e)) ∙ moves)
        go (Star x) e =
            let b = one_below L (below L f) n x l (ap children e) in
            (λ q. pick_yes (get_or alone x 0) x None (flag_yes x (omega arith) q), tt)
        go (Neg x) e = (λ q. clash q (sym (ap is_test (tree_of_lem L f n l (Neg x) e)) ∙ moves), tt)

-- ---- 256 sets are enough: each goes to a test of its own, under a node of its own that is none

module _ (L : NodeLists) where
  moving : ℕ → ℕ
  moving i = one (not (is_test (tree_of L i)))

  testing : ℕ → ℕ
  testing i = one (is_test (tree_of L i))

  -- how often a test is a child of the first n nodes
  weighed : ℕ → ℕ → ℕ
  weighed n j = cond (is_test (tree_of L j)) (times_child L j n) 0

  pub moves : ℕ → ℕ
  moves n = sum_below moving n

  pub tests : ℕ → ℕ
  tests n = sum_below (weighed n) (node_count L)

  times_more : (j m n : ℕ) → m ≤ n → times_child L j m ≤ times_child L j n
  unfolding times_child
  times_more j zero zero l = omega arith
  times_more j (suc m) zero l = absurd (omega arith)
  times_more j m (suc n) l =
      by_cases (ℕ_discrete m (suc n)) (λ e. subst (λ (x : ℕ). times_child L j x ≤ times_child L j n + occurrences j (children (node_at L n))) (sym e) (omega arith))
      (λ e. let k = times_more j m n (omega arith) in omega arith)

  weigh : (m n j : ℕ) → times_child L j m ≤ times_child L j n → weighed m j ≤ weighed n j
  unfolding weighed
  weigh m n j h = go (is_test (tree_of L j))
    where
      go : (b : Bool) → cond b (times_child L j m) 0 ≤ cond b (times_child L j n) 0
      go true = h
      go false = omega arith

module _ (L : NodeLists) (f : Formed L) where
  total : sum_below (moving L) (node_count L) + sum_below (testing L) (node_count L) ≡ node_count L
  unfolding moving testing one
  total = sum_both (moving L) (testing L) (λ i. split (is_test (tree_of L i))) (node_count L)
    where
      split : (b : Bool) → one (not b) + one b ≡ 1
      split true = refl
      split false = refl

  at_most : (n : ℕ) → n ≤ node_count L → (j : ℕ) → weighed L n j ≤ testing L j
  unfolding weighed testing one
  at_most n l j = go (is_test (tree_of L j))
    where
      go : (b : Bool) → cond b (times_child L j n) 0 ≤ one b
      go true = let h = times_more L j n (node_count L) l in let k = f.legal.well_formed.once j in omega arith
      go false = omega arith

  moves_more : (n : ℕ) → moves L n ≤ moves L (suc n)
  unfolding moves
  moves_more n = sum_more (moving L) n (suc n) (omega arith)

  tests_more : (n : ℕ) → tests L n ≤ tests L (suc n)
  unfolding tests
  tests_more n = sum_le (weighed L n) (weighed L (suc n)) (node_count L) (λ j l. weigh L n (suc n) j (times_more L j n (suc n) (omega arith)))

  module _ (n : ℕ) (l : n < node_count L) (c : ℕ) (t : TestNode L c) (z : is_test (tree_of L n) ≡ false) (o : 0 < occurrences c (children (node_at L n))) where
    moves_next : moves L (suc n) ≡ moves L n + 1
    unfolding moves sum_below moving one
    moves_next = ap (λ (b : Bool). sum_below (moving L) n + one (not b)) z

    tests_next : tests L n < tests L (suc n)
    unfolding tests weighed times_child
    tests_next =
        sum_lt (weighed L n) (weighed L (suc n)) (node_count L) (λ j k. weigh L n (suc n) j (times_more L j n (suc n) (omega arith))) c t.within
        (subst (λ (b : Bool). cond b (times_child L c n) 0 < cond b (times_child L c n + occurrences c (children (node_at L n))) 0) (sym t.alone) (omega arith))

    enough : (k : ℕ) → k ≤ moves L n → k ≤ tests L n → k < 256
    unfolding moves tests
    enough k a b =
        let p = moves_next in
        let q = tests_next in
        let m = sum_more (moving L) (suc n) (node_count L) l in
        let w = sum_le (weighed L (suc n)) (testing L) (node_count L) (λ j h. at_most (suc n) l j) in
        let e = total in
        let h = few L f in
        omega arith

  all_few : (k : ℕ) → k ≤ moves L (node_count L) → k ≤ tests L (node_count L) → k ≤ 256
  unfolding moves tests
  all_few k a b =
      let w = sum_le (weighed L (node_count L)) (testing L) (node_count L) (λ j h. at_most (node_count L) (omega arith) j) in
      let e = total in
      let h = few L f in
      omega arith

  no_parent : (k : ℕ) → k ≤ node_count L → times_child L (pred (node_count L)) k ≡ 0
  unfolding times_child
  no_parent zero l = refl
  no_parent (suc k) l = let h = no_parent k (omega arith) in let q = no_child L (below L f) (pred (node_count L)) k l (omega arith) in omega arith

  enough_root : is_test (tree_of L (pred (node_count L))) ≡ true → (k : ℕ) → k ≤ moves L (node_count L) → k ≤ tests L (node_count L) → k < 256
  unfolding moves tests weighed testing one
  enough_root z k a b =
      let s = some L f in
      let w = sum_lt (weighed L (node_count L)) (testing L) (node_count L) (λ j h. at_most (node_count L) (omega arith) j) (pred (node_count L)) (omega arith) less in
      let e = total in
      let h = few L f in
      omega arith
    where
      less : weighed L (node_count L) (pred (node_count L)) < testing L (pred (node_count L))
      less =
          subst (λ (b : Bool). cond b (times_child L (pred (node_count L)) (node_count L)) 0 < one b) (sym z)
          (let h = no_parent (node_count L) (omega arith) in omega arith)

-- ---- all nodes

-- k sets are given
pub record Sets (sizes : List ℕ) (L : NodeLists) (sets tests : List ℕ) (k : ℕ) : Type 0 where
  pub long : length sets ≡ 512
  pub room : length tests ≡ 8224
  pub small : (j : ℕ) → get_or sets j 0 ≤ k
  pub right : (j : ℕ) → 0 < get_or sets j 0 → (γ : ℕ) → slot tests (get_or sets j 0) γ ≡ passing sizes (tree_of L j) γ

module _ (sizes : List ℕ) (L : NodeLists) (o : Option ℕ) (b : ForSome o (λ c. c < 512)) (k : ℕ) (sets tests : List ℕ) (s : Sets sizes L sets tests k) (k' : ℕ) (sets' tests' : List ℕ) (g : Gave sizes L o k sets tests k' sets' tests') where
  sets_next : Sets sizes L sets' tests' k'
  sets_next = go (which o)
    where
      go : ((c : ℕ) × (o ≡ Some c)) ⊎ (o ≡ None) → Sets sizes L sets' tests' k'
      go (inr h) =
          let q = g.none h in
          subst (λ (x : ℕ). Sets sizes L sets' tests' x) (sym q.0)
          (subst (λ (x : List ℕ). Sets sizes L x tests' k) (sym q.1) (subst (λ (x : List ℕ). Sets sizes L sets x k) (sym q.2) s))
      go (inl (c, h)) = subst (λ (x : ℕ). Sets sizes L sets' tests' x) (sym q.0) (subst (λ (x : List ℕ). Sets sizes L x tests' (k + 1)) (sym q.1) (record {
        long = length-set sets c (k + 1) ∙ s.long;
        room = q.2.long ∙ s.room;
        small = set_le sets c (k + 1) (k + 1) (omega arith) (λ j. let h = s.small j in omega arith);
        right = λ j a γ. split j a γ (ℕ_discrete j c);
      }))
        where
          q : (k' ≡ k + 1) × (sets' ≡ set sets c (k + 1)) × SlotFilled (k + 1) (passing sizes (tree_of L c)) tests tests'
          q = g.some c h

          here : get_or (set sets c (k + 1)) c 0 ≡ k + 1
          here = get_or-set_same sets c (k + 1) 0 (omega (arith, s.long, b c h))

          split : (j : ℕ) → 0 < get_or (set sets c (k + 1)) j 0 → (γ : ℕ) → Dec (j ≡ c) → slot tests' (get_or (set sets c (k + 1)) j 0) γ ≡ passing sizes (tree_of L j) γ
          split j a γ (yes e) =
              subst (λ (x : ℕ). slot tests' (get_or (set sets c (k + 1)) x 0) γ ≡ passing sizes (tree_of L x) γ) (sym e)
              (ap (λ (x : ℕ). slot tests' x γ) here ∙ q.2.here γ)
          split j a γ (no e) =
              let other = get_or-set_other sets c j (k + 1) 0 e in
              ap (λ (x : ℕ). slot tests' x γ) other
              ∙ q.2.others (get_or sets j 0) γ (let h = s.small j in omega arith)
              ∙ s.right j (omega arith) γ

  -- who has a set keeps one, and the node has one
  sets_kept : (j : ℕ) → 0 < get_or sets j 0 → 0 < get_or sets' j 0
  sets_kept j a = go (which o)
    where
      go : ((c : ℕ) × (o ≡ Some c)) ⊎ (o ≡ None) → 0 < get_or sets' j 0
      go (inr h) = subst (λ (x : List ℕ). 0 < get_or x j 0) (sym (g.none h).1) a
      go (inl (c, h)) = subst (λ (x : List ℕ). 0 < get_or x j 0) (sym (g.some c h).1) (by_cases (ℕ_discrete j c)
          (λ e. subst (λ (x : ℕ). 0 < get_or (set sets c (k + 1)) x 0) (sym e) (omega (arith, get_or-set_same sets c (k + 1) 0 (omega (arith, s.long, b c h)))))
          (λ e. omega (arith, get_or-set_other sets c j (k + 1) 0 e)))

  sets_here : (c : ℕ) → o ≡ Some c → 0 < get_or sets' c 0
  sets_here c h = subst (λ (x : List ℕ). 0 < get_or x c 0) (sym (g.some c h).1) (omega (arith, get_or-set_same sets c (k + 1) 0 (omega (arith, s.long, b c h))))

-- the tests under the first n nodes have their sets
pub record Giving (sizes : List ℕ) (L : NodeLists) (sets tests' : List ℕ) (k n : ℕ) : Type 0 where
  pub at : n ≤ node_count L
  pub ready : Sets sizes L sets tests' k
  pub few_moves : k ≤ moves L n
  pub few_tests : k ≤ tests L n
  pub given : (m : ℕ) → m < n → is_test (tree_of L m) ≡ false → Each (λ c. is_test (tree_of L c) ≡ true → 0 < get_or sets c 0) (children (node_at L m))

module _ (sizes : List ℕ) (L : NodeLists) (f : Formed L) where
  pub giving_start : (sets tests' : List ℕ) → sets ≡ replicate 512 0 → length tests' ≡ 8224 → Giving sizes L sets tests' 0 0
  giving_start sets tests' e w = record {
    at = omega arith;
    ready = record {
      long = ap length e;
      room = w;
      small = none;
      right = λ j h. absurd (let q = none j in omega arith);
    };
    few_moves = omega arith;
    few_tests = omega arith;
    given = λ m h. absurd (omega arith);
  }
    where
      none : (j : ℕ) → get_or sets j 0 ≤ 0
      none j = subst (λ (x : List ℕ). get_or x j 0 ≤ 0) (sym e) (replicate_le 512 j 0)

  module _ (sets tests' : List ℕ) (k n : ℕ) (i : Giving sizes L sets tests' k n) (alone : List ℕ) (a : Alone L alone) where
    module _ (l : n < node_count L) (node : Node) (en : node ≡ node_at L n) (o : Option ℕ) (eo : o ≡ test_under alone (get_or alone n 0) node) where
      same : o ≡ test_under alone (get_or alone n 0) (node_at L n)
      same = eo ∙ ap (test_under alone (get_or alone n 0)) en

      is_tested : (c : ℕ) → o ≡ Some c → TestNode L c
      is_tested c h = of_some (TestNode L) _ c (child_tested L f alone a n l) (sym same ∙ h)

      is_under : (c : ℕ) → o ≡ Some c → is_test (tree_of L n) ≡ false
      is_under c h = child_moves L f alone a n l c (sym same ∙ h)

      is_child : (c : ℕ) → o ≡ Some c → 0 < occurrences c (children (node_at L n))
      is_child c h = of_some (λ x. 0 < occurrences x (children (node_at L n))) _ c (child_occurs L f alone a n l) (sym same ∙ h)

      pub give_ready : ForSome o (λ c. TestNode L c × (k < 256))
      give_ready c h = (is_tested c h, enough L f n l c (is_tested c h) (is_under c h) (is_child c h) k i.few_moves i.few_tests)

      low : ForSome o (λ c. c < 512)
      low c h = small L f c (is_tested c h).within

      pub giving_turn : (k' : ℕ) (sets' tests'' : List ℕ) → Gave sizes L o k sets tests' k' sets' tests'' → Giving sizes L sets' tests'' k' (n + 1)
      giving_turn k' sets' tests'' g = subst (Giving sizes L sets' tests'' k') (sym (add-one n)) (record {
        at = l;
        ready = sets_next sizes L o low k sets tests' i.ready k' sets' tests'' g;
        few_moves = more_moves (which o);
        few_tests = more_tests (which o);
        given = λ m h z. split m h z (ℕ_discrete m n);
      })
        where
          more_moves : ((c : ℕ) × (o ≡ Some c)) ⊎ (o ≡ None) → k' ≤ moves L (suc n)
          more_moves (inl (c, h)) = let q = moves_next L f n l c (is_tested c h) (is_under c h) (is_child c h) in let p = i.few_moves in omega (arith, (g.some c h).0)
          more_moves (inr h) = let q = moves_more L f n in let p = i.few_moves in omega (arith, (g.none h).0)

          more_tests : ((c : ℕ) × (o ≡ Some c)) ⊎ (o ≡ None) → k' ≤ tests L (suc n)
          more_tests (inl (c, h)) = let q = tests_next L f n l c (is_tested c h) (is_under c h) (is_child c h) in let p = i.few_tests in omega (arith, (g.some c h).0)
          more_tests (inr h) = let q = tests_more L f n in let p = i.few_tests in omega (arith, (g.none h).0)

          kept : (j : ℕ) → 0 < get_or sets j 0 → 0 < get_or sets' j 0
          kept = sets_kept sizes L o low k sets tests' i.ready k' sets' tests'' g

          split : (m : ℕ) → m < suc n → is_test (tree_of L m) ≡ false → Dec (m ≡ n) → Each (λ j. is_test (tree_of L j) ≡ true → 0 < get_or sets' j 0) (children (node_at L m))
          split m h z (yes e) =
              subst (λ (x : ℕ). Each (λ j. is_test (tree_of L j) ≡ true → 0 < get_or sets' j 0) (children (node_at L x))) (sym e)
              (each_map (λ j. is_test (tree_of L j) ≡ true → Some j ≡ test_under alone (get_or alone n 0) (node_at L n)) (λ j. is_test (tree_of L j) ≡ true → 0 < get_or sets' j 0) (children (node_at L n))
              (λ j all t. sets_here sizes L o low k sets tests' i.ready k' sets' tests'' g j (same ∙ sym (all t)))
              (child_all L f alone a n l (subst (λ (x : ℕ). is_test (tree_of L x) ≡ false) e z)))
          split m h z (no e) =
              each_map (λ j. is_test (tree_of L j) ≡ true → 0 < get_or sets j 0) (λ j. is_test (tree_of L j) ≡ true → 0 < get_or sets' j 0) (children (node_at L m))
              (λ j q t. kept j (q t)) (i.given m (omega arith) z)

    module _ (l : node_count L ≤ n) (r : ℕ) (er : r ≡ node_count L - 1) (o : Option ℕ) (eo : o ≡ pick (get_or alone r 0) r None) where
      last : r ≡ pred (node_count L)
      last = let s = some L f in omega arith

      whole : n ≡ node_count L
      whole = let h = i.at in omega arith

      inside : r < node_count L
      inside = let s = some L f in omega arith

      -- the root is tests alone, or there is none to give to
      root_is : (c : ℕ) → o ≡ Some c → (c ≡ r) × (is_test (tree_of L r) ≡ true)
      root_is c h = go (is_test (tree_of L r)) refl
        where
          go : (b : Bool) → is_test (tree_of L r) ≡ b → (c ≡ r) × (is_test (tree_of L r) ≡ true)
          go true e = let same : Some c ≡ Some r = sym h ∙ eo ∙ sym (pick_yes (get_or alone r 0) r None (flag_yes L f alone a r inside e)) in (cc, e)
          go false e = absurd (no_some c (pick_no (get_or alone r 0) r None (flag_no L f alone a r inside e) ∙ sym eo ∙ h))

      pub root_ready : ForSome o (λ c. TestNode L c × (k < 256))
      root_ready c h =
          let q = root_is c h in (
            subst (TestNode L) (sym q.0) (record { within = inside; alone = q.1 }),
            enough_root L f (subst (λ (x : ℕ). is_test (tree_of L x) ≡ true) last q.1) k (subst (λ (x : ℕ). k ≤ moves L x) whole i.few_moves) (subst (λ (x : ℕ). k ≤ tests L x) whole i.few_tests),
          )

      root_low : ForSome o (λ c. c < 512)
      root_low c h = small L f c (root_ready c h).0.within

      pub giving_end : (k' : ℕ) (sets' tests'' : List ℕ) → Gave sizes L o k sets tests' k' sets' tests'' → TestSets sizes L sets' tests''
      giving_end k' sets' tests'' g = record {
        small = λ j. let h = next.small j in let q = room (which o) in omega arith;
        right = next.right;
        given = λ m h z. each_map (λ j. is_test (tree_of L j) ≡ true → 0 < get_or sets j 0) (λ j. is_test (tree_of L j) ≡ true → 0 < get_or sets' j 0) (children (node_at L m))
            (λ j q t. sets_kept sizes L o root_low k sets tests' i.ready k' sets' tests'' g j (q t)) (i.given m (let q = whole in omega arith) z);
        root = λ e. subst (λ (x : ℕ). 0 < get_or sets' x 0) last (at_root (subst (λ (x : ℕ). is_test (tree_of L x) ≡ true) (sym last) e));
      }
        where
          next : Sets sizes L sets' tests'' k'
          next = sets_next sizes L o root_low k sets tests' i.ready k' sets' tests'' g

          room : ((c : ℕ) × (o ≡ Some c)) ⊎ (o ≡ None) → k' ≤ 256
          room (inl (c, h)) = let q = (root_ready c h).1 in omega (arith, (g.some c h).0)
          room (inr h) = let q = all_few L f k (subst (λ (x : ℕ). k ≤ moves L x) whole i.few_moves) (subst (λ (x : ℕ). k ≤ tests L x) whole i.few_tests) in omega (arith, (g.none h).0)

          at_root : is_test (tree_of L r) ≡ true → 0 < get_or sets' r 0
          at_root e = sets_here sizes L o root_low k sets tests' i.ready k' sets' tests'' g r (eo ∙ sym (pick_yes (get_or alone r 0) r None (flag_yes L f alone a r inside e)))
