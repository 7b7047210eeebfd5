-- The nodes of a tree: as many as the tree has, they read back as the tree up to labels, and only causes 6, 19 and 9 may hold of them.
use Prim.Native.Nat.{ℕ, suc, pred, ◌+◌, ◌<◌, ◌≤◌}
use mathlib.Core.Bool.{true, false}
use mathlib.Core.List.{List, [], ◌∷◌, ◌++◌}
use mathlib.Core.Path.{◌≡◌, refl, ap, ◌∙◌, subst, subst₂}
use native.Mathlib.Nat.{zero-add}
use native.Mathlib.Omega.{arith}
use lib.Dec.{ltb}
use lib.ListN.{length, get_or, length-append, length-map, get_or-map}
use lib.Seq.{get_or-append_seam, append_snoc}
use borrow.Author.Tests.{le-ltb}
use Rattle.policy.specs.declared.FieldAction.{FieldAction}
use Rattle.policy.specs.declared.FieldAction.TheVariants.{Equals, Differs, Set}
use Rattle.policy.specs.declared.Node.{Node}
use Rattle.policy.specs.declared.Node.TheVariants.{Field}
use Rattle.policy.specs.Tree.{Policy, drop, id, field, dup, sum, seq, star, neg}
use Rattle.policy.specs.NodeLists.{node_count, node_of, node_at, children, dups_below, policy_of}
use Rattle.policy.specs.NodesOfTree.{NodeEntry, node_entry, action_entry, tree_size, entries_from, lists_of, nodes_of, unlabelled}
use Rattle.policy.specs.Legality.{bad_lengths, bad_kind, bad_child, not_once, bad_negation, times_child, max_dups, Legal}
use Rattle.policy.specs.Tests.{negates_tests}
use Rattle.policy.specs.Legality.{InFields, bad_entries, wrong_entries, used, bad_field, field_of, value_of}
use Rattle.policy.specs.InnerEach.{Each}
use Rattle.policy.specs.Visits.{labels}
use Rattle.policy.specs.InnerTransport.{EachAction}
use Rattle.policy.proofs.EachLaws.{each_append, each_at, below_each}
use Rattle.policy.proofs.LegalityLaws.{Lengths, lengths}
use Rattle.policy.proofs.Numbered.{each_action}
use Rattle.policy.proofs.Postfix.{size_positive, Stands, here, reads_back, inside, inside_in, inside_le, counts, stands_below, stands_negations, stands_dups}

one_more : (xs : List NodeEntry) (e : NodeEntry) → length (xs ++ e ∷ []) ≡ length xs + 1
one_more xs e = length-append xs (e ∷ [])

two_more : {m n : ℕ} (xs ys : List NodeEntry) (e : NodeEntry) → length xs ≡ m → length ys ≡ n → length (xs ++ ys ++ e ∷ []) ≡ m + n + 1
two_more xs ys e h k = omega (arith, one_more (xs ++ ys) e, length-append xs ys)

-- a tree has as many nodes as entries
pub entries_length : (base : ℕ) (p : Policy) → length (entries_from base p) ≡ tree_size p
unfolding entries_from tree_size
entries_length base drop = refl
entries_length base id = refl
entries_length base (field a) = refl
entries_length base (dup i) = refl
entries_length base (sum p q) = two_more (entries_from base p) _ _ (entries_length base p) (entries_length (base + tree_size p) q)
entries_length base (seq p q) = two_more (entries_from base p) _ _ (entries_length base p) (entries_length (base + tree_size p) q)
entries_length base (star p) = one_more (entries_from base p) _ ∙ ap (λ (n : ℕ). n + 1) (entries_length base p)
entries_length base (neg p) = one_more (entries_from base p) _ ∙ ap (λ (n : ℕ). n + 1) (entries_length base p)

-- what is read past the end of the entries
absent : NodeEntry
absent = record { kind = 0; first = 0; second = 0 }

entry_node : NodeEntry → Node
entry_node e = node_of e.kind e.first e.second

action_node : (a : FieldAction) → entry_node (action_entry a) ≡ Field a
unfolding entry_node action_entry node_entry node_of
action_node (Equals f v) = refl
action_node (Differs f v) = refl
action_node (Set f v) = refl

module _ (es : List NodeEntry) where
  -- the three lists read at i are the entry read at i
  read_at : {X : Type 0} (f : ℕ → ℕ → ℕ → X) (i : ℕ)
      → f (get_or (lists_of es).kind i 0) (get_or (lists_of es).first i 0) (get_or (lists_of es).second i 0)
      ≡ f (get_or es i absent).kind (get_or es i absent).first (get_or es i absent).second
  unfolding lists_of absent
  read_at f i =
      λ k.
      f (get_or-map (λ (e : NodeEntry). e.kind) es i absent k) (get_or-map (λ (e : NodeEntry). e.first) es i absent k)
      (get_or-map (λ (e : NodeEntry). e.second) es i absent k)

  node_at_lem : (n : ℕ) (x : NodeEntry) → get_or es n absent ≡ x → node_at (lists_of es) n ≡ entry_node x
  unfolding node_at entry_node
  node_at_lem n x e = read_at node_of n ∙ ap entry_node e

  -- the entries from base on
  Holds : ℕ → List NodeEntry → Type 0
  Holds base [] = Unit
  Holds base (x ∷ xs) = (get_or es base absent ≡ x) × Holds (suc base) xs

  holds_append : (base : ℕ) (xs ys : List NodeEntry) → Holds base (xs ++ ys) → Holds base xs × Holds (base + length xs) ys
  unfolding Holds
  holds_append base [] ys h = (tt, subst (λ (k : ℕ). Holds k ys) (omega arith) h)
  holds_append base (x ∷ xs) ys h =
      let r = holds_append (suc base) xs ys h.1 in
      ((h.0, r.0), subst (λ (k : ℕ). Holds k ys) (omega arith) r.1)

  -- the entries of one tree, and of two, with the entry over them
  holds_one : (base : ℕ) (p : Policy) (x : NodeEntry) → Holds base (entries_from base p ++ x ∷ [])
      → Holds base (entries_from base p) × (node_at (lists_of es) (base + tree_size p) ≡ entry_node x)
  unfolding Holds
  holds_one base p x h =
      let r = holds_append base (entries_from base p) (x ∷ []) h in
      (r.0, here (lists_of es) _ _ (entry_node x) (ap (λ (n : ℕ). base + n) (entries_length base p)) (node_at_lem _ x r.1.0))

  holds_two : (base : ℕ) (p q : Policy) (x : NodeEntry) → Holds base (entries_from base p ++ entries_from (base + tree_size p) q ++ x ∷ [])
      → Holds base (entries_from base p)
      × Holds (base + tree_size p) (entries_from (base + tree_size p) q)
      × (node_at (lists_of es) (base + tree_size p + tree_size q) ≡ entry_node x)
  unfolding Holds
  holds_two base p q x h =
      let a = entries_from base p in
      let b = entries_from (base + tree_size p) q in
      let r = holds_append base (a ++ b) (x ∷ []) h in
      let s = holds_append base a b r.0 in (
        s.0,
        subst (λ (n : ℕ). Holds (base + n) b) (entries_length base p) s.1,
        here (lists_of es) _ _ (entry_node x)
            (omega (arith, length-append a b, entries_length base p, entries_length (base + tree_size p) q)) (node_at_lem _ x r.1.0),
      )

  stands : (base : ℕ) (p : Policy) → Holds base (entries_from base p) → Stands (lists_of es) base p
  unfolding Stands entries_from Holds entry_node node_entry node_of
  stands base drop h = node_at_lem base _ h.0
  stands base id h = node_at_lem base _ h.0
  stands base (field a) h = node_at_lem base _ h.0 ∙ action_node a
  stands base (dup i) h = node_at_lem base _ h.0
  stands base (sum p q) h = let r = holds_two base p q _ h in (stands base p r.0, stands (base + tree_size p) q r.1, r.2)
  stands base (seq p q) h = let r = holds_two base p q _ h in (stands base p r.0, stands (base + tree_size p) q r.1, r.2)
  stands base (star p) h = let r = holds_one base p _ h in (stands base p r.0, r.1)
  stands base (neg p) h = let r = holds_one base p _ h in (stands base p r.0, r.1)

holds_all : (before es : List NodeEntry) → Holds (before ++ es) (length before) es
unfolding Holds
holds_all before [] = tt
holds_all before (x ∷ xs) = (
  get_or-append_seam before x xs absent,
  subst₂ (λ (l : List NodeEntry) (k : ℕ). Holds l k xs) (append_snoc before x xs) (omega (arith, one_more before x))
      (holds_all (before ++ (x ∷ [])) xs),
)

pub nodes_count : (p : Policy) → node_count (nodes_of p) ≡ tree_size p
unfolding node_count nodes_of lists_of
nodes_count p = length-map (entries_from 0 p) (λ (e : NodeEntry). e.kind) ∙ entries_length 0 p

nodes_stand : (p : Policy) → Stands (nodes_of p) 0 p
unfolding nodes_of
nodes_stand p = stands (entries_from 0 p) 0 p (holds_all [] (entries_from 0 p))

-- the nodes of a tree read back as the tree, up to labels
pub nodes_read_back : (p : Policy) → unlabelled (policy_of (nodes_of p)) ≡ unlabelled p
unfolding policy_of
nodes_read_back p =
    let n = nodes_count p in
    let s = size_positive p in
    reads_back (nodes_of p) 0 p (nodes_stand p) _ _ (omega arith) (omega arith)

-- cause 4 does not hold of the nodes of a tree of at most 512 nodes
pub nodes_lengths : (p : Policy) → tree_size p ≤ 512 → bad_lengths (nodes_of p) ≡ false
nodes_lengths p h =
    (lengths (nodes_of p)).1
    (record {
      first = unfold nodes_of lists_of node_count in simp length-map;
      second = unfold nodes_of lists_of node_count in simp length-map;
      some = omega (arith, nodes_count p, size_positive p);
      few = omega (arith, nodes_count p);
    })

-- what holds of each kind of entry that a tree may have, tests and changes apart
record EachKind (P : NodeEntry → Type 0) : Type 0 where
  drop : P (node_entry 0 0 0)
  id : P (node_entry 1 0 0)
  dup : P (node_entry 5 0 0)
  sum : (l r : ℕ) → P (node_entry 6 l r)
  seq : (l r : ℕ) → P (node_entry 7 l r)
  star : (c : ℕ) → P (node_entry 8 c 0)
  neg : (c : ℕ) → P (node_entry 9 c 0)

every_action : (H : FieldAction → Type 0) → ((a : FieldAction) → H a) → (p : Policy) → EachAction H p
every_action H f drop = tt
every_action H f id = tt
every_action H f (field a) = f a
every_action H f (dup i) = tt
every_action H f (sum p q) = (every_action H f p, every_action H f q)
every_action H f (seq p q) = (every_action H f p, every_action H f q)
every_action H f (star p) = every_action H f p
every_action H f (neg p) = every_action H f p

each_two : (P : NodeEntry → Type 0) (xs ys : List NodeEntry) (x : NodeEntry) → Each P xs → Each P ys → P x → Each P (xs ++ ys ++ x ∷ [])
unfolding Each
each_two P xs ys x e f h = (each_append P (xs ++ ys) (x ∷ [])).1 ((each_append P xs ys).1 (e, f), (h, tt))

entries_each : (P : NodeEntry → Type 0) → EachKind P → (base : ℕ) (p : Policy) → EachAction (λ a. P (action_entry a)) p
    → Each P (entries_from base p)
unfolding Each entries_from
entries_each P k base drop h = (k.drop, tt)
entries_each P k base id h = (k.id, tt)
entries_each P k base (field a) h = (h, tt)
entries_each P k base (dup i) h = (k.dup, tt)
entries_each P k base (sum p q) h =
    each_two P (entries_from base p) (entries_from (base + tree_size p) q) _ (entries_each P k base p h.0)
    (entries_each P k (base + tree_size p) q h.1) (k.sum _ _)
entries_each P k base (seq p q) h =
    each_two P (entries_from base p) (entries_from (base + tree_size p) q) _ (entries_each P k base p h.0)
    (entries_each P k (base + tree_size p) q h.1) (k.seq _ _)
entries_each P k base (star p) h = (each_append P (entries_from base p) _).1 (entries_each P k base p h, (k.star _, tt))
entries_each P k base (neg p) h = (each_append P (entries_from base p) _).1 (entries_each P k base p h, (k.neg _, tt))

-- nor cause 5
pub nodes_kinds : (p : Policy) (i : ℕ) → bad_kind (nodes_of p) i ≡ false
unfolding bad_kind nodes_of absent node_entry action_entry
nodes_kinds p i =
    let known = entries_each Known kinds 0 p (every_action _ actions p) in
    read_at (entries_from 0 p) (λ k a b. ltb 9 k) i ∙ le-ltb 9 _ (each_at Known (entries_from 0 p) absent (omega arith) known i)
  where
    Known : NodeEntry → Type 0
    Known e = e.kind ≤ 9

    kinds : EachKind Known
    kinds = omega arith

    actions : (a : FieldAction) → Known (action_entry a)
    actions (Equals f v) = omega arith
    actions (Differs f v) = omega arith
    actions (Set f v) = omega arith

-- nor cause 7
pub nodes_below : (p : Policy) (i : ℕ) → i < node_count (nodes_of p) → bad_child (nodes_of p) i ≡ false
unfolding bad_child
nodes_below p i h =
    (below_each i (children (node_at (nodes_of p) i))).1
    (stands_below (nodes_of p) 0 p (nodes_stand p) i (omega arith) (omega (arith, nodes_count p)))

nodes_times : (p : Policy) (j : ℕ) → times_child (nodes_of p) j (node_count (nodes_of p)) ≡ inside 0 (pred (node_count (nodes_of p))) j
unfolding times_child
nodes_times p j =
    let e : 0 + tree_size p ≡ node_count (nodes_of p) = omega (arith, nodes_count p) in
    subst (λ (n : ℕ). times_child (nodes_of p) j n ≡ inside 0 (pred n) j) e (counts (nodes_of p) 0 p (nodes_stand p) j ∙ zero-add _)

-- nor cause 8
pub nodes_once : (p : Policy) (j : ℕ) → j < pred (node_count (nodes_of p)) → not_once (nodes_of p) j ≡ false
unfolding not_once
nodes_once p j h = rw (nodes_times p j ∙ inside_in 0 _ j (omega arith) h)

-- nor cause 6 where each test and change names a field and a value of it
pub nodes_entries : (sizes : List ℕ) (p : Policy) → InFields sizes p → (i : ℕ) → bad_entries sizes (nodes_of p) i ≡ false
unfolding bad_entries nodes_of absent node_entry action_entry wrong_entries used field_of value_of
nodes_entries sizes p h i =
    let right = entries_each Right kinds 0 p (each_action sizes (λ a. Right (action_entry a)) actions p h) in
    read_at (entries_from 0 p) (wrong_entries sizes) i ∙ each_at Right (entries_from 0 p) absent refl right i
  where
    Right : NodeEntry → Type 0
    Right e = wrong_entries sizes e.kind e.first e.second ≡ false

    kinds : EachKind Right
    kinds = record { drop = refl; id = refl; dup = refl; sum = λ l r. refl; seq = λ l r. refl; star = λ c. refl; neg = λ c. refl }

    actions : (a : FieldAction) → bad_field sizes (field_of a) (value_of a) ≡ false → Right (action_entry a)
    actions (Equals f v) e = e
    actions (Differs f v) e = e
    actions (Set f v) e = e

-- nor cause 19 where negations stand over tests alone
pub nodes_negations : (p : Policy) → negates_tests p ≡ true → (i : ℕ) → i < node_count (nodes_of p) → bad_negation (nodes_of p) i ≡ false
unfolding bad_negation
nodes_negations p h i l = stands_negations (nodes_of p) 0 p (nodes_stand p) h i (omega arith) (omega (arith, nodes_count p))

-- there are as many dups among the nodes as in the tree
pub nodes_dups : (p : Policy) → dups_below (nodes_of p) (node_count (nodes_of p)) ≡ length (labels p)
unfolding dups_below
nodes_dups p =
    let e : 0 + tree_size p ≡ node_count (nodes_of p) = omega (arith, nodes_count p) in
    subst (λ (n : ℕ). dups_below (nodes_of p) n ≡ length (labels p)) e (stands_dups (nodes_of p) 0 p (nodes_stand p) ∙ zero-add _)

-- the nodes of a tree are legal where it has at most 512 nodes, its fields are declared, it negates tests alone and it has at most 63 dups
pub nodes_legal : (sizes : List ℕ) (p : Policy) → tree_size p ≤ 512 → InFields sizes p → negates_tests p ≡ true → length (labels p) ≤ max_dups
    → Legal sizes (nodes_of p)
nodes_legal sizes p few fields negates dups =
    record {
      well_formed = record {
        firsts = n.first;
        seconds = n.second;
        few = n.few;
        kinds = λ i l. nodes_kinds p i;
        entries = λ i l. nodes_entries sizes p fields i;
        below = nodes_below p;
        once = λ j. omega (arith, nodes_times p j, inside_le 0 (pred (node_count (nodes_of p))) j);
        negations = nodes_negations p negates;
        dups = omega (arith, nodes_dups p);
      };
      some = n.some;
      children = λ j l. nodes_times p j ∙ inside_in 0 (pred (node_count (nodes_of p))) j (omega arith) l;
    }
  where
    n : Lengths (nodes_of p)
    n = (lengths (nodes_of p)).0 (nodes_lengths p few)
