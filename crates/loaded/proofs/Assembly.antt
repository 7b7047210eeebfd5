-- The loaded policy stands for the tree: what the passes of the loader say of each node, put together.
use Prim.Native.Nat.{ℕ, zero, suc, pred, ◌+◌, ◌/◌, ◌%◌, ◌≤◌, ◌<◌}
use mathlib.Core.Bool.{Bool, true, false, ◌&&◌, ◌||◌, true≢false}
use mathlib.Core.List.{List, [], ◌∷◌}
use mathlib.Core.Logic.{inl, ◌↔◌, by_cases}
use mathlib.Core.Path.{◌≡◌, refl, sym, ap, ap₂, ◌∙◌, subst}
use native.Mathlib.Decide.{ℕ_discrete}
use native.Mathlib.Omega.{arith}
use borrow.Author.Tests.{eq-eqb, ne_eqb, lt-ltb}
use lib.Dec.{T, eqb}
use lib.ListN.{get_or}
use Rattle.packet.specs.Sizes.{product}
use Rattle.policy.specs.declared.FieldAction.TheVariants.{Equals, Differs, Set}
use Rattle.policy.specs.declared.Node.{Node}
use Rattle.policy.specs.declared.Node.TheVariants.{Drop, Id, Field, Dup, Sum, Seq, Star, Neg}
use Rattle.policy.specs.InnerEach.{Each}
use Rattle.policy.specs.Meaning.{numbered, Traces}
use Rattle.policy.specs.NodeLists.{NodeLists, node_count, node_at, node_of, children, dups_below, grow, one, tree_of}
use Rattle.policy.specs.Tree.{Policy}
use Rattle.policy.proofs.TestLaws.{test_traces}
use Rattle.policy.proofs.Trees.{each_child, negated_test}
use Rattle.automaton.proofs.Tests.{T_true, true_T, either}
use Rattle.spans.specs.Spans.{slot}
use Rattle.loaded.specs.Loaded.{Linked, Moves, KeepsSlot, Rises, ends, rises, DupAt, Guarded, OnlyTests, Enterable, Enters, Loaded}
use Rattle.loaded.specs.Loading.{Formed, way_from, Ways, Labels, Places, TestSets, guard_of, Guards, Flags, packed, Packed, Fitting, PackedAll, PlacedAll}
use Rattle.tree_causes.specs.Alone.{Alone}
use Rattle.loaded.specs.Nodes.{node_in, set_in, tests_in, label_in, up_in, slot_in, read_at, tests_at, up_at, guard_at, place_at}
use Rattle.loaded.specs.Passing.{passing}
use Rattle.policy.specs.Tests.{passes, is_test}
use Rattle.loaded.proofs.Meanings.{test_dupless, Alive, has_trace, has_dup, first_alive, test_alive}
use Rattle.loaded.proofs.Packing.{kind_back, first_back, second_back, set_back, test_back, label_back, up_back, slot_back}
use Rattle.loaded.proofs.Trees.{below, few, some, few_dups, small, tree_of_lem}
use Rattle.loaded.proofs.Writing.{kind_small}

-- what the passes that read no test give
pub record Parts (L : NodeLists) (alone ups labels places : List ℕ) : Type 0 where
  pub formed : Formed L
  pub alone_is : Alone L alone
  pub ways : Ways L ups
  pub labels_are : Labels L labels
  pub places_are : Places L places

one_small : (b : Bool) → one b < 2
unfolding one
one_small true = omega arith
one_small false = omega arith

one_back : (b : Bool) → eqb (one b) 1 ≡ b
unfolding one
one_back true = refl
one_back false = refl

module _ (L : NodeLists) (alone ups labels places : List ℕ) (p : Parts L alone ups labels places) where
  f : Formed L
  f = p.formed

  module _ (sizes sets tests guards : List ℕ) (q : TestSets sizes L sets tests) (g : Guards L alone sets guards) where
    flag_some : (n : ℕ) → n < node_count L → is_test (tree_of L n) ≡ true → get_or guards n 0 ≡ get_or sets n 0
    unfolding guard_of one
    flag_some n l e = g.guard n l ∙ ap (λ (x : ℕ). guard_of guards x (get_or sets n 0) (node_at L n)) (p.alone_is.flags n l ∙ ap one e)

    flag_none : (n : ℕ) → n < node_count L → is_test (tree_of L n) ≡ false → get_or guards n 0 ≡ guard_of guards 0 (get_or sets n 0) (node_at L n)
    unfolding one
    flag_none n l e = g.guard n l ∙ ap (λ (x : ℕ). guard_of guards x (get_or sets n 0) (node_at L n)) (p.alone_is.flags n l ∙ ap one e)

    -- ---- guards are numbers of sets
    guard_le : (k n : ℕ) → n < k → n < node_count L → get_or guards n 0 ≤ 256
    unfolding guard_of Each children
    guard_le zero n a l = absurd (omega arith)
    guard_le (suc k) n a l = go (is_test (tree_of L n)) refl
        (each_child L (below L f) (λ c. get_or guards c 0 ≤ 256) n l (λ c h. guard_le k c (omega arith) (omega arith)))
      where
        node : (d : Node) → Each (λ c. get_or guards c 0 ≤ 256) (children d) → guard_of guards 0 (get_or sets n 0) d ≤ 256
        node Drop h = omega arith
        node Id h = omega arith
        node (Field a) h = omega arith
        node Dup h = omega arith
        node (Sum x y) h = omega arith
        node (Seq x y) h = h.0
        node (Star x) h = omega arith
        node (Neg x) h = omega arith

        go : (b : Bool) → is_test (tree_of L n) ≡ b → Each (λ c. get_or guards c 0 ≤ 256) (children (node_at L n)) → get_or guards n 0 ≤ 256
        go true e h = let s = q.small n in omega (arith, flag_some n l e)
        go false e h = let s = node (node_at L n) h in omega (arith, flag_none n l e)

    guard_small : (n : ℕ) → n < node_count L → get_or guards n 0 ≤ 256
    guard_small n l = guard_le (suc n) n (omega arith) l

    -- ---- guards hold what passes
    abbrev held : ℕ → ℕ → Bool
    held k α = eqb k 0 || slot tests k α

    -- the set of a test
    test_held : (n α : ℕ) → α < product sizes → 0 < get_or sets n 0 → held (get_or sets n 0) α ≡ passes (numbered sizes) (tree_of L n) α
    unfolding passing
    test_held n α b h =
        ap₂ ◌||◌ (ne_eqb (get_or sets n 0) 0 (omega arith)) (q.right n h α)
        ∙ ap (λ (x : Bool). x && passes (numbered sizes) (tree_of L n) α) (lt-ltb α (product sizes) b)

    held_none : (k α : ℕ) → k ≡ 0 → T (held k α)
    held_none k α e = (either (eqb k 0) (slot tests k α)).1 (inl (true_T (eq-eqb k 0 e)))

    alive_held : (k n : ℕ) → n < k → n < node_count L → (α : ℕ) → α < product sizes → Alive sizes (tree_of L n) α → T (held (get_or guards n 0) α)
    unfolding guard_of grow children Each
    alive_held zero n a l α b h = absurd (omega arith)
    alive_held (suc k) n a l α b h = go (is_test (tree_of L n)) refl
        (each_child L (below L f) (λ c. Alive sizes (tree_of L c) α → T (held (get_or guards c 0) α)) n l (λ c o. alive_held k c (omega arith) (omega arith) α b))
      where
        test : is_test (tree_of L n) ≡ true → T (held (get_or sets n 0) α)
        test e = by_cases (ℕ_discrete (get_or sets n 0) 0) (λ z. held_none (get_or sets n 0) α z)
            (λ z. subst T (sym (test_held n α b (omega arith))) (test_alive sizes (tree_of L n) e α h))

        node : (d : Node) → node_at L n ≡ d → Each (λ c. Alive sizes (tree_of L c) α → T (held (get_or guards c 0) α)) (children d) → T (held (guard_of guards 0 (get_or sets n 0) d) α)
        node Drop e c = held_none 0 α refl
        node Id e c = held_none 0 α refl
        node (Field x) e c = held_none 0 α refl
        node Dup e c = held_none 0 α refl
        node (Sum x y) e c = held_none 0 α refl
        node (Seq x y) e c = c.0 (first_alive sizes (tree_of L x) (tree_of L y) α (subst (λ (t : Policy). Alive sizes t α) (tree_of_lem L f n l (Seq x y) e) h))
        node (Star x) e c = held_none 0 α refl
        node (Neg x) e c = held_none 0 α refl

        go : (t : Bool) → is_test (tree_of L n) ≡ t → Each (λ c. Alive sizes (tree_of L c) α → T (held (get_or guards c 0) α)) (children (node_at L n)) → T (held (get_or guards n 0) α)
        go true e c = subst (λ (x : ℕ). T (held x α)) (sym (flag_some n l e)) (test e)
        go false e c = subst (λ (x : ℕ). T (held x α)) (sym (flag_none n l e)) (node (node_at L n) refl c)

    -- ---- the parts fit
    pub fitting : (parts : List ℕ) → Flags parts → Fitting L guards alone labels ups parts
    fitting parts h = record {
      formed = f;
      sets = λ n l. let s = guard_small n l in omega arith;
      flags = λ n l. let s = one_small (is_test (tree_of L n)) in omega (arith, p.alone_is.flags n l);
      numbers = λ n l. let s = few_dups L f (suc n) l in omega (arith, p.labels_are.labelled n l);
      ways = λ n l. way n (p.ways.rise n l);
      seconds = h;
    }
      where
        way : (n : ℕ) → Rises L (way_from ups) (λ m. is_test (tree_of L m)) n → get_or ups n 0 < 1024
        way n (ends e) = omega arith
        way n (rises a b c) = let s = few L f in omega arith

    -- ---- a packed node gives its parts back
    module _ (nodes₀ nodes₁ nodes : List ℕ) (k : PackedAll L guards alone labels ups nodes₀ nodes₁) (j : PlacedAll places nodes₁ nodes) where
      module _ (n : ℕ) (l : n < node_count L) where
        parts : Packed L guards alone labels ups nodes₁ n
        parts = k.each n l

        abbrev keeps : ℕ
        keeps = parts.keeps

        abbrev kd : ℕ
        kd = get_or L.kind n 0

        abbrev fr : ℕ
        fr = get_or L.first n 0

        abbrev sn : ℕ
        sn = get_or L.second n 0

        abbrev gd : ℕ
        gd = get_or guards n 0

        abbrev al : ℕ
        al = get_or alone n 0

        abbrev lb : ℕ
        lb = get_or labels n 0

        abbrev up : ℕ
        up = get_or ups n 0

        here : get_or nodes n 0 ≡ packed kd fr sn gd al lb up keeps
        here = j.before n (small L f n l) ∙ parts.here

        -- the parts are in their bounds
        fits : (X : ℕ → Type 0) → ((kd < 16) → (gd < 512) → (al < 2) → (lb < 64) → (up < 1024) → (keeps < 2) → X n) → X n
        fits X h =
            let t = fitting [] no_flags in
            let a = kind_small L f n l in
            let b = parts.flag in
            h (omega arith) (t.sets n l) (t.flags n l) (t.numbers n l) (t.ways n l) (omega arith)
          where
            no_flags : Flags []
            no_flags = unfold Flags in (λ m. omega arith)

        node_read : read_at nodes n ≡ node_at L n
        unfolding read_at node_in node_at
        node_read = fits (λ m. node_in (get_or nodes n 0) ≡ node_at L n) (λ hk hs ht hl hu ho.
            ap node_in here
            ∙ ap (λ (x : ℕ). node_of x (packed kd fr sn gd al lb up keeps / 16 % 65536) (packed kd fr sn gd al lb up keeps / 1048576 % 65536)) (kind_back kd fr sn gd al lb up keeps hk parts.first_small parts.second_small hs ht hl hu ho)
            ∙ ap₂ (node_of kd) (first_back kd fr sn gd al lb up keeps hk parts.first_small parts.second_small hs ht hl hu ho) (second_back kd fr sn gd al lb up keeps hk parts.first_small parts.second_small hs ht hl hu ho))

        set_read : set_in (get_or nodes n 0) ≡ get_or guards n 0
        set_read = fits (λ m. set_in (get_or nodes n 0) ≡ get_or guards n 0) (λ hk hs ht hl hu ho. ap set_in here ∙ set_back kd fr sn gd al lb up keeps hk parts.first_small parts.second_small hs ht hl hu ho)

        tests_read : tests_at nodes n ≡ is_test (tree_of L n)
        unfolding tests_at tests_in
        tests_read = fits (λ m. tests_at nodes n ≡ is_test (tree_of L n)) (λ hk hs ht hl hu ho.
            ap tests_in here
            ∙ ap (λ (x : ℕ). eqb x 1) (test_back kd fr sn gd al lb up keeps hk parts.first_small parts.second_small hs ht hl hu ho ∙ p.alone_is.flags n l)
            ∙ one_back (is_test (tree_of L n)))

        label_read : label_in (get_or nodes n 0) ≡ dups_below L (suc n)
        label_read = fits (λ m. label_in (get_or nodes n 0) ≡ dups_below L (suc n)) (λ hk hs ht hl hu ho. ap label_in here ∙ label_back kd fr sn gd al lb up keeps hk parts.first_small parts.second_small hs ht hl hu ho ∙ p.labels_are.labelled n l)

        up_read : up_at nodes n ≡ get_or ups n 0
        unfolding up_at
        up_read = fits (λ m. up_in (get_or nodes n 0) ≡ get_or ups n 0) (λ hk hs ht hl hu ho. ap up_in here ∙ up_back kd fr sn gd al lb up keeps hk parts.first_small parts.second_small hs ht hl hu ho)

        star_read : (c : ℕ) → node_at L n ≡ Star c → T (slot_in (get_or nodes n 0))
        unfolding slot_in
        star_read c e = fits (λ m. T (slot_in (get_or nodes n 0))) (λ hk hs ht hl hu ho.
            true_T (ap slot_in here ∙ ap (λ (x : ℕ). eqb x 1) (slot_back kd fr sn gd al lb up keeps hk parts.first_small parts.second_small hs ht hl hu ho ∙ parts.star c e)))

        guard_read : (α : ℕ) → guard_at nodes tests n α ≡ held (get_or guards n 0) α
        unfolding guard_at
        guard_read α = ap (λ (x : ℕ). held x α) set_read

        -- a test with a set may be entered
        only_tests : is_test (tree_of L n) ≡ true → 0 < get_or sets n 0 → OnlyTests sizes L nodes tests n
        only_tests e h = record {
          traces = λ α b t. subst (λ (x : Bool). Traces (numbered sizes) (tree_of L n) α t ↔ (T x × (t ≡ α ∷ []))) (sym (same α b)) (test_traces (numbered sizes) (tree_of L n) e α t);
          dupless = test_dupless (tree_of L n) e;
        }
          where
            same : (α : ℕ) → α < product sizes → guard_at nodes tests n α ≡ passes (numbered sizes) (tree_of L n) α
            same α b = guard_read α ∙ ap (λ (x : ℕ). held x α) (flag_some n l e) ∙ test_held n α b h

        enterable : (is_test (tree_of L n) ≡ true → 0 < get_or sets n 0) → Enterable sizes L nodes tests n
        unfolding Enterable
        enterable h t = let e = sym tests_read ∙ T_true (tests_at nodes n) t in only_tests e (h e)

        guarded : Guarded sizes L nodes tests n
        guarded = record {
          passing = λ α b t r. subst T (sym (guard_read α)) (alive_held (suc n) n (omega arith) l α b (has_trace t r));
          reaching = λ α b i γ r. subst T (sym (guard_read α)) (alive_held (suc n) n (omega arith) l α b (has_dup i γ r));
        }

      -- the ways up
      rise_of : (n : ℕ) (l : n < node_count L) → Rises L (way_from ups) (λ m. is_test (tree_of L m)) n → Rises L (up_at nodes) (tests_at nodes) n
      rise_of n l (ends e) = ends (up_read n l ∙ e)
      rise_of n l (rises a b c) =
          rises (subst (λ (x : ℕ). n < x) (sym (up_read n l)) a) (subst (λ (x : ℕ). x < node_count L) (sym (up_read n l)) b)
          (subst (λ (x : ℕ). tests_at nodes x ≡ false) (sym (up_read n l)) (tests_read (get_or ups n 0) b ∙ c))

      module _ (n : ℕ) (l : n < node_count L) (z : is_test (tree_of L n) ≡ false) where
        moves_of : Moves (node_at L n)
        unfolding Moves grow is_test
        moves_of = go (node_at L n) refl
          where
            never : (d : Node) → node_at L n ≡ d → is_test (grow (tree_of L) (dups_below L (suc n)) d) ≡ true → ⊥
            never d e h = true≢false (sym h ∙ sym (ap is_test (tree_of_lem L f n l d e)) ∙ z)

            go : (d : Node) → node_at L n ≡ d → Moves d
            go Drop e = never Drop e refl
            go Id e = never Id e refl
            go (Field (Equals a v)) e = never (Field (Equals a v)) e refl
            go (Field (Differs a v)) e = never (Field (Differs a v)) e refl
            go (Field (Set a v)) e = tt
            go Dup e = tt
            go (Sum x y) e = tt
            go (Seq x y) e = tt
            go (Star x) e = tt
            go (Neg x) e = never (Neg x) e (negated_test f.legal.well_formed n x l e)

        linked_of : Linked (up_at nodes) n (node_at L n)
        unfolding Linked children Each
        linked_of = go (node_at L n) (each_child L (below L f) (λ c. up_at nodes c ≡ get_or ups c 0) n l (λ c h. up_read c (omega arith))) (p.ways.linked n l z)
          where
            go : (d : Node) → Each (λ c. up_at nodes c ≡ get_or ups c 0) (children d) → Linked (way_from ups) n d → Linked (up_at nodes) n d
            go Drop h e = tt
            go Id h e = tt
            go (Field a) h e = tt
            go Dup h e = tt
            go (Sum x y) h e = (h.0 ∙ e.0 ∙ sym (up_read n l), h.1.0 ∙ e.1 ∙ sym (up_read n l))
            go (Seq x y) h e = (h.0 ∙ e.0, h.1.0 ∙ e.1 ∙ sym (up_read n l))
            go (Star x) h e = h.0 ∙ e
            go (Neg x) h e = tt

        slotted_of : KeepsSlot nodes n (node_at L n)
        unfolding KeepsSlot
        slotted_of = go (node_at L n) refl
          where
            go : (d : Node) → node_at L n ≡ d → KeepsSlot nodes n d
            go Drop e = tt
            go Id e = tt
            go (Field a) e = tt
            go Dup e = tt
            go (Sum x y) e = tt
            go (Seq x y) e = tt
            go (Star x) e = star_read n l x e
            go (Neg x) e = tt

        enters_of : Enters sizes L nodes tests (node_at L n)
        unfolding Enters children Each
        enters_of = go (node_at L n) (both_each (children (node_at L n)) (below L f n l) (q.given n l z))
          where
            both_each : (cs : List ℕ) → Each (λ c. c < n) cs → Each (λ c. is_test (tree_of L c) ≡ true → 0 < get_or sets c 0) cs → Each (Enterable sizes L nodes tests) cs
            both_each [] a b = tt
            both_each (c ∷ cs) a b = (enterable c (let h = a.0 in omega arith) b.0, both_each cs a.1 b.1)

            go : (d : Node) → Each (Enterable sizes L nodes tests) (children d) → Enters sizes L nodes tests d
            go Drop h = tt
            go Id h = tt
            go (Field a) h = tt
            go Dup h = tt
            go (Sum x y) h = (h.0, h.1.0)
            go (Seq x y) h = (h.0, h.1.0)
            go (Star x) h = h.0
            go (Neg x) h = tt

      pub loaded : Loaded sizes L nodes tests
      unfolding place_at
      loaded = record {
        node = node_read;
        small = λ n l. let h = guard_small n l in omega (arith, set_read n l);
        moving = λ n l e.
            let z = sym (tests_read n l) ∙ e in
            record {
              moves = moves_of n l z;
              linked = linked_of n l z;
              slotted = slotted_of n l z;
              enters = enters_of n l z;
              guarded = guarded n l;
              label = λ o. label_read n l;
            };
        rise = λ n l. rise_of n l (p.ways.rise n l);
        root = enterable (pred (node_count L)) last_node q.root;
        last = up_read (pred (node_count L)) last_node ∙ p.ways.last;
        whole = j.after 0 (omega arith) ∙ p.places_are.whole;
        placed = λ i a b. dup_at i a b;
        absent = λ i a b. j.after i b ∙ p.places_are.none i a b;
      }
        where
          last_node : pred (node_count L) < node_count L
          last_node = let h = some L f in omega arith

          dup_at : (i : ℕ) → 0 < i → i ≤ dups_below L (node_count L) → DupAt L i (get_or nodes (512 + i) 0)
          dup_at i a b =
              let few-of = few_dups L f (node_count L) (omega arith) in
              subst (DupAt L i) (sym (j.after i (omega arith))) (p.places_are.dups i a b)
