-- How the answers on one and on two policies come from the causes.
use Prim.Native.Nat.{ℕ, pred, ◌<◌, ◌≤◌}
use mathlib.Core.Bool.{Bool}
use mathlib.Core.List.{List, [], ◌∷◌, map}
use Rattle.std.specs.Prelude.{Option, None, Some}
use mathlib.Core.Path.{◌≡◌, refl, sym, ap, ap₂, subst, ◌∙◌}
use native.Mathlib.Omega.{arith}
use lib.ListN.{length, take}
use lib.Seq.{length-take-le}
use borrow.Author.Tests.{lt-ltb, le-ltb}
use Rattle.packet.specs.Lowest.{or_at, lowest}
use Rattle.packet.specs.Refusals.{refusal, refused_at, at_place, at_zero, first_refused}
use Rattle.packet.specs.Sizes.{product, fields_stage, product_stage, counted, packet_count, LegalSizes}
use Rattle.packet.specs.declared.Refusal.{Refusal}
use Rattle.packet.specs.Refusals.{Tested}
use Rattle.std.specs.Prelude.{Result, Ok, Err}
use Rattle.packet.proofs.Legal.{fields_legal, sizes_legal}
use Rattle.packet.proofs.Lowest.{lowest_none}
use Rattle.packet.proofs.Stages.{first_refused_last, first_refused_refused, first_refused_next, first_refused_nested, first_refused_append, first_refused_passed, refused_at_passed, at_place_none, refused≢passed}
use Rattle.fields.specs.Tables.{Table, joint_sizes, tables_stage}
use Rattle.fields.specs.declared.JointFields.{JointFields}
use Rattle.fields.specs.Inner.{JointOf}
use Rattle.legality.specs.declared.LegalCall.{LegalCall}
use Rattle.mentions.specs.Noting.{CoreSizesOf}
use Rattle.packet.proofs.Sizes.{counted_refused, counted_passed}
use Rattle.policy.specs.InnerEach.{Each}
use Rattle.policy.specs.NodeLists.{NodeLists, node_count, node_of, node_at, children, one, is_dup, dups_below}
use Rattle.policy.specs.Legality.{bad_lengths, bad_kind, used, wrong_entries, bad_entries, some_not_below, bad_child, not_once, negates_other, bad_negation, too_many_dups, Legal}
use Rattle.policy.specs.Mentions.{is_of_field, mentioned_below, mentioned, core_sizes}
use Rattle.policy.specs.Order.{order, in_order, Cause, causes, Sided, sided, cause, policies_stage, pair_core, stages_of, policy_tests, pair_tests, one_or, place_among, cause_place}
use Rattle.node_causes.specs.Lengths.{SameLengths}
use Rattle.tree_causes.specs.Counting.{CountableChildren}
use Rattle.legality.specs.Answers.{pair_answer, policy_legality, pair_legality, nodes_stage, tree_stage, earlier_if, earlier, earlier_of, both_legal, drop_nodes, front_tests, Told, FrontOf}
use Rattle.policy.proofs.LegalityLaws.{Lengths, lengths, stage_passes}
use Rattle.policy.proofs.MentionLaws.{core_same}
use Rattle.policy.proofs.OrderLaws.{all_passing, tables_refused}

-- ---- orders of tests within orders

-- the first of two tests
and_then : Tested → Tested → Tested
and_then (Ok _) u = u
and_then (Err r) u = Err r

first_refused_more : (t : Tested) (ts : List Tested) → first_refused (t ∷ ts) ≡ and_then t (first_refused ts)
unfolding first_refused and_then
first_refused_more (Ok _) ts = refl
first_refused_more (Err r) ts = refl

first_refused_two : (t u : Tested) → first_refused (t ∷ u ∷ []) ≡ and_then t u
first_refused_two t u = first_refused_more t (u ∷ []) ∙ ap (and_then t) (first_refused_last u)

-- ---- causes on one policy and on two

-- the causes of one policy
alone : ℕ → NodeLists → List Cause → List Tested
alone side L cs = map (λ (c : Cause). refused_at c.0 side (c.1 L)) cs

-- the causes of all policies
together : List Sided → List Cause → List Tested
together ps cs = map (λ (c : Cause). cause c.0 c.1 ps) cs

one_policy : (side : ℕ) (L : NodeLists) (cs : List Cause) → first_refused (together (sided side L ∷ []) cs) ≡ first_refused (alone side L cs)
unfolding together alone cause
one_policy side L [] = refl
one_policy side L (c ∷ cs) =
    let t = refused_at c.0 side (c.1 L) in
    first_refused_more _ _ ∙ ap₂ and_then (first_refused_last t) (one_policy side L cs) ∙ sym (first_refused_more t _)

-- causes in the order of their places, all after place n
Rising : ℕ → List Cause → Type 0
Rising n [] = Unit
Rising n (c ∷ cs) = (n < cause_place c.0) × Rising (cause_place c.0) cs

number_of : Tested → ℕ
number_of (Ok _) = 0
number_of (Err r) = r.number

zero≢one : ◌≡◌ {A = ℕ} 0 1 → ⊥
zero≢one z = omega arith

-- a refusal comes from one of the causes
later : (n : ℕ) (cs : List Cause) (side : ℕ) (L : NodeLists) → Rising n cs → (r : Refusal) → first_refused (alone side L cs) ≡ Err r → n < cause_place r.number
unfolding alone Rising first_refused refused_at refusal number_of
later n [] side L h r e = absurd (refused≢passed (sym e))
later n (c ∷ cs) side L h r e = go (c.1 L) e (later (cause_place c.0) cs side L h.1 r)
  where
    go : (o : Option ℕ) → first_refused (refused_at c.0 side o ∷ alone side L cs) ≡ Err r → (first_refused (alone side L cs) ≡ Err r → cause_place c.0 < cause_place r.number)
        → n < cause_place r.number
    go None f rec = omega (arith, rec f, h.0)
    go (Some i) f rec = let same : cause_place c.0 ≡ cause_place r.number = ap (λ (t : Tested). cause_place (number_of t)) f in omega (arith, same, h.0)

module _ (n a b : ℕ) where
  -- it refuses after the cause n or not at all
  After : Tested → Type 0
  After t = (r : Refusal) → t ≡ Err r → cause_place n < cause_place r.number

  left_first : (i : ℕ) (v : Tested) → After v → Err (refusal n a i) ≡ earlier_of (Err (refusal n a i)) v
  unfolding earlier_of earlier earlier_if refusal After
  left_first i (Ok _) h = refl
  left_first i (Err q) h = rw (le-ltb (cause_place q.number) (cause_place n) (omega (arith, h q refl)))

  right_first : (j : ℕ) (u : Tested) → After u → Err (refusal n b j) ≡ earlier_of u (Err (refusal n b j))
  unfolding earlier_of earlier earlier_if refusal After
  right_first j (Ok _) h = refl
  right_first j (Err p) h = rw (lt-ltb (cause_place n) (cause_place p.number) (h p refl))

  same_cause : (i j : ℕ) → Err (refusal n a i) ≡ earlier_of (Err (refusal n a i)) (Err (refusal n b j))
  unfolding earlier_of earlier earlier_if refusal
  same_cause i j = rw (le-ltb (cause_place n) (cause_place n) (omega arith))

  -- one cause before others
  step : (x y : Option ℕ) (u v : Tested) → After u → After v
      → and_then (and_then (refused_at n a x) (refused_at n b y)) (earlier_of u v) ≡ earlier_of (and_then (refused_at n a x) u) (and_then (refused_at n b y) v)
  unfolding and_then refused_at earlier_of
  step None None u v h k = refl
  step None (Some j) u v h k = right_first j u h
  step (Some i) None u v h k = left_first i v k
  step (Some i) (Some j) u v h k = same_cause i j

two_policies : (n a b : ℕ) (L R : NodeLists) (cs : List Cause) → Rising n cs
    → first_refused (together (sided a L ∷ sided b R ∷ []) cs) ≡ earlier_of (first_refused (alone a L cs)) (first_refused (alone b R cs))
unfolding together alone Rising cause earlier_of first_refused After
two_policies n a b L R [] h = refl
two_policies n a b L R (c ∷ cs) h =
    let t = refused_at c.0 a (c.1 L) in
    let u = refused_at c.0 b (c.1 R) in
    let ts = alone a L cs in
    let us = alone b R cs in
    first_refused_more (first_refused (t ∷ u ∷ [])) (together (sided a L ∷ sided b R ∷ []) cs)
    ∙ ap₂ and_then (first_refused_two t u) (two_policies (cause_place c.0) a b L R cs h.1)
    ∙ step c.0 a b (c.1 L) (c.1 R) (first_refused ts) (first_refused us) (later (cause_place c.0) cs a L h.1) (later (cause_place c.0) cs b R h.1)
    ∙ ap₂ earlier_of (sym (first_refused_more t ts)) (sym (first_refused_more u us))

stage_together : (sizes : List ℕ) (ps : List Sided) → policies_stage sizes ps ≡ first_refused (together ps (causes sizes))
unfolding policies_stage together
stage_together sizes ps = refl

rising : (sizes : List ℕ) → Rising 0 (causes sizes)
unfolding Rising causes cause_place place_among one_or
rising sizes = (omega arith, (omega arith, (omega arith, (omega arith, (omega arith, (omega arith, (omega arith, tt)))))))

stage_two : (sizes : List ℕ) (a b : ℕ) (L R : NodeLists)
    → policies_stage sizes (sided a L ∷ sided b R ∷ []) ≡ earlier_of (policies_stage sizes (sided a L ∷ [])) (policies_stage sizes (sided b R ∷ []))
stage_two sizes a b L R =
    stage_together sizes _
    ∙ two_policies 0 a b L R (causes sizes) (rising sizes)
    ∙ sym (ap₂ earlier_of (stage_together sizes _ ∙ one_policy a L (causes sizes)) (stage_together sizes _ ∙ one_policy b R (causes sizes)))

-- ---- one policy, by causes that need the ones before

module _ (side : ℕ) (L : NodeLists) where
  abbrev lengths_test : Tested
  lengths_test = refused_at 4 side (at_zero (bad_lengths L))

  lengths_known : lengths_test ≡ Ok tt → Lengths L
  lengths_known e = (lengths L).0 (at_place_none 0 (bad_lengths L) (refused_at_passed 4 side _ e))

  pub same_lengths : lengths_test ≡ Ok tt → SameLengths L
  same_lengths e = let n = lengths_known e in record { firsts = n.first; seconds = n.second }

  -- cause 4 as it was tested
  pub lengths_tested : {t u : Tested} {x : Option ℕ} → t ≡ refused_at 4 side x → x ≡ at_zero (bad_lengths L) → t ≡ u → lengths_test ≡ u
  lengths_tested e f g = sym (e ∙ ap (refused_at 4 side) f) ∙ g

module _ (sizes : List ℕ) (side : ℕ) (L : NodeLists) where
  stage_parts : policies_stage sizes (sided side L ∷ []) ≡ first_refused (lengths_test side L ∷ first_refused (nodes_stage sizes side L ∷ tree_stage side L ∷ []) ∷ [])
  unfolding alone causes nodes_stage tree_stage
  stage_parts =
      stage_together sizes _
      ∙ one_policy side L (causes sizes)
      ∙ sym (first_refused_nested _ _ ∙ first_refused_more _ _ ∙ ap (and_then (lengths_test side L)) (first_refused_nested _ _ ∙ sym (first_refused_append _ _)) ∙ sym (first_refused_more _ _))

  pub lengths_refused : (r : Refusal) → lengths_test side L ≡ Err r → policies_stage sizes (sided side L ∷ []) ≡ Err r
  lengths_refused r e = stage_parts ∙ first_refused_refused _ _ r e

  pub nodes_refused : (r : Refusal) → lengths_test side L ≡ Ok tt → nodes_stage sizes side L ≡ Err r → policies_stage sizes (sided side L ∷ []) ≡ Err r
  nodes_refused r e f = stage_parts ∙ first_refused_next _ _ e ∙ first_refused_last _ ∙ first_refused_refused _ _ r f

  pub nodes_passed : lengths_test side L ≡ Ok tt → nodes_stage sizes side L ≡ Ok tt → policies_stage sizes (sided side L ∷ []) ≡ tree_stage side L
  nodes_passed e f = stage_parts ∙ first_refused_next _ _ e ∙ first_refused_last _ ∙ first_refused_next _ _ f ∙ first_refused_last _

  pub countable_children : lengths_test side L ≡ Ok tt → nodes_stage sizes side L ≡ Ok tt → CountableChildren L
  unfolding nodes_stage
  countable_children e f = record {
    firsts = (lengths_known side L e).first;
    seconds = (lengths_known side L e).second;
    few = (lengths_known side L e).few;
    below = lowest_none (bad_child L) (node_count L)
        (refused_at_passed 7 side _ (first_refused_passed _ _ (first_refused_passed _ _ (first_refused_passed _ _ f).1).1).0);
  }

-- the refusal that comes first
pub right_earlier : (p q : Refusal) {m n : ℕ} → m ≡ cause_place q.number → n ≡ cause_place p.number → m < n → q ≡ earlier p q
unfolding earlier earlier_if
right_earlier p q a b h = sym (ap (λ (x : Bool). earlier_if x p q) (lt-ltb (cause_place q.number) (cause_place p.number) (omega (arith, a, b, h))))

pub left_earlier : (p q : Refusal) {m n : ℕ} → m ≡ cause_place q.number → n ≡ cause_place p.number → n ≤ m → p ≡ earlier p q
unfolding earlier earlier_if
left_earlier p q a b h = sym (ap (λ (x : Bool). earlier_if x p q) (le-ltb (cause_place q.number) (cause_place p.number) (omega (arith, a, b, h))))

-- ---- causes 8, 19 and 9, where 8 and 19 pass

module _ (side : ℕ) (L : NodeLists) (once : refused_at 8 side (lowest (not_once L) (pred (node_count L))) ≡ Ok tt) (negation : refused_at 19 side (lowest (bad_negation L) (node_count L)) ≡ Ok tt) where
  tree_nine : tree_stage side L ≡ refused_at 9 side (lowest (too_many_dups L) (node_count L))
  unfolding tree_stage
  tree_nine = first_refused_next _ _ once ∙ first_refused_next _ _ negation ∙ first_refused_last _

  pub tree_passes : {n : ℕ} → lowest (too_many_dups L) (node_count L) ≡ None → n ≡ dups_below L (node_count L) → Ok n ≡ counted (tree_stage side L) (dups_below L (node_count L))
  unfolding counted refused_at
  tree_passes e f = ap Ok f ∙ sym (ap (λ (t : Tested). counted t (dups_below L (node_count L))) (tree_nine ∙ ap (refused_at 9 side) e))

  pub tree_refused : {i : ℕ} → lowest (too_many_dups L) (node_count L) ≡ Some i → Err (refusal 9 side i) ≡ counted (tree_stage side L) (dups_below L (node_count L))
  unfolding counted refused_at
  tree_refused e = sym (ap (λ (t : Tested). counted t (dups_below L (node_count L))) (tree_nine ∙ ap (refused_at 9 side) e))

-- ---- what both policies say

-- what two policies' tests say together, with so many dups each
abbrev pub BothSay : Tested → Tested → ℕ → ℕ → Result (ℕ × ℕ) Refusal → Type 0
BothSay t u m n (Ok d) = (earlier_of t u ≡ Ok tt) × ((d.0 ≡ m) × (d.1 ≡ n))
BothSay t u m n (Err q) = earlier_of t u ≡ Err q

both_say : (t u : Tested) (m n : ℕ) → BothSay t u m n (both_legal (counted t m) (counted u n))
unfolding both_legal counted earlier_of
both_say (Ok _) (Ok _) m n = (refl, (refl, refl))
both_say (Ok _) (Err q) m n = refl
both_say (Err p) (Ok _) m n = refl
both_say (Err p) (Err q) m n = refl

pub both_said : (t u : Tested) (m n : ℕ) {l r : Result ℕ Refusal} {p : Result (ℕ × ℕ) Refusal} → l ≡ counted t m → r ≡ counted u n → p ≡ both_legal l r → (v : Result (ℕ × ℕ) Refusal) → p ≡ v → BothSay t u m n v
both_said t u m n e f g v h = subst (BothSay t u m n) (sym (ap₂ both_legal e f) ∙ sym g ∙ h) (both_say t u m n)

-- ---- the calls

-- the tests of a call, stage by stage
module _ (ts : List Table) (side : ℕ) (L R : NodeLists) (lists : Tested) where
  abbrev policies : List Sided
  policies = sided side L ∷ sided 2 R ∷ []

  -- both policies' causes over the joint sizes
  pub joined_stage : {sizes : List ℕ} → sizes ≡ joint_sizes ts → earlier_of (policies_stage sizes (sided side L ∷ [])) (policies_stage sizes (sided 2 R ∷ [])) ≡ policies_stage (joint_sizes ts) (sided side L ∷ sided 2 R ∷ [])
  joined_stage e = ap (λ (s : List ℕ). earlier_of (policies_stage s (sided side L ∷ [])) (policies_stage s (sided 2 R ∷ []))) e ∙ sym (stage_two (joint_sizes ts) side 2 L R)

  pub fields_refused : {r : Refusal} → tables_stage ts ≡ Err r → front_tests ts side L R lists ≡ Err r
  fields_refused e = tables_refused ts (Ok tt) policies lists (Ok tt) e

  module _ (e : tables_stage ts ≡ Ok tt) where
    pub policies_refused : {r : Refusal} → policies_stage (joint_sizes ts) (sided side L ∷ sided 2 R ∷ []) ≡ Err r → front_tests ts side L R lists ≡ Err r
    unfolding in_order order stages_of
    policies_refused f = first_refused_next _ _ e ∙ first_refused_next _ _ refl ∙ first_refused_refused _ _ _ f

    module _ (f : policies_stage (joint_sizes ts) (sided side L ∷ sided 2 R ∷ []) ≡ Ok tt) where
      pub product_refused : {r : Refusal} → product_stage (pair_core ts L R) ≡ Err r → front_tests ts side L R lists ≡ Err r
      unfolding in_order order stages_of
      product_refused g = first_refused_next _ _ e ∙ first_refused_next _ _ refl ∙ first_refused_next _ _ f ∙ first_refused_refused _ _ _ g

      module _ (g : product_stage (pair_core ts L R) ≡ Ok tt) where
        pub lists_refused : {r : Refusal} → lists ≡ Err r → front_tests ts side L R lists ≡ Err r
        unfolding in_order order stages_of
        lists_refused h = first_refused_next _ _ e ∙ first_refused_next _ _ refl ∙ first_refused_next _ _ f ∙ first_refused_next _ _ g ∙ first_refused_refused _ _ _ h

        pub none_refuses : lists ≡ Ok tt → front_tests ts side L R lists ≡ Ok tt
        none_refuses h =
            all_passing ts (Ok tt) policies lists (Ok tt) (record { fields = e; texts_pass = refl; policies_pass = f; product = g; lists_pass = h; packets_pass = refl })

-- the front as it is worked out: the joint fields, what each policy's causes say over them, and the core sizes
module _ (ts : List Table) (side : ℕ) (L R : NodeLists) (lists : Tested) (J : JointFields) (joint : JointOf ts (Ok J)) {l r : Result ℕ Refusal} {p : Result (ℕ × ℕ) Refusal}
    (left : l ≡ counted (policies_stage (take J.count J.sizes) (sided side L ∷ [])) (dups_below L (node_count L)))
    (right : r ≡ counted (policies_stage (take J.count J.sizes) (sided 2 R ∷ [])) (dups_below R (node_count R)))
    (both : p ≡ both_legal l r) where
  pub few_taken : length (take J.count J.sizes) ≤ 8
  few_taken = omega (arith, length-take-le J.count J.sizes (omega (arith, joint.1.few, joint.1.space)), joint.1.few)

  pub front_policies : {q : Refusal} → p ≡ Err q → front_tests ts side L R lists ≡ Err q
  front_policies {q} e =
      policies_refused ts side L R lists joint.0
      (sym (joined_stage ts side L R lists joint.1.sized) ∙ both_said _ _ (dups_below L (node_count L)) (dups_below R (node_count R)) left right both (Err q) e)

  module _ (d : ℕ × ℕ) (e : p ≡ Ok d) where
    said : (earlier_of (policies_stage (take J.count J.sizes) (sided side L ∷ [])) (policies_stage (take J.count J.sizes) (sided 2 R ∷ [])) ≡ Ok tt)
        × ((d.0 ≡ dups_below L (node_count L)) × (d.1 ≡ dups_below R (node_count R)))
    said = both_said _ _ _ _ left right both (Ok d) e

    passed : policies_stage (joint_sizes ts) (sided side L ∷ sided 2 R ∷ []) ≡ Ok tt
    passed = sym (joined_stage ts side L R lists joint.1.sized) ∙ said.0

    module _ {core : List ℕ} (worked : CoreSizesOf (take J.count J.sizes) L R core) where
      core_is : take J.count core ≡ pair_core ts L R
      unfolding Each node_count
      core_is =
          let g = (stage_passes (joint_sizes ts) (sided side L ∷ sided 2 R ∷ [])).0 passed in
          let long : length (take J.count J.sizes) ≡ J.count = length-take-le J.count J.sizes (omega (arith, joint.1.few, joint.1.space)) in
          ap (λ n. take n core) (sym long) ∙ worked.sizes_of_core g.0.well_formed.firsts g.1.0.well_formed.firsts L.second R.second ∙ ap (core_sizes (L ∷ R ∷ [])) joint.1.sized

      module _ {n : Result ℕ Refusal} (counts : n ≡ packet_count (take J.count core)) where
        pub front_product : {q : Refusal} → n ≡ Err q → front_tests ts side L R lists ≡ Err q
        unfolding packet_count
        front_product f = product_refused ts side L R lists joint.0 passed (ap product_stage (sym core_is) ∙ counted_refused _ _ (sym counts ∙ f))

        module _ (N : ℕ) (f : n ≡ Ok N) where
          product_passes : (product_stage (take J.count core) ≡ Ok tt) × (N ≡ product (take J.count core))
          unfolding packet_count
          product_passes = counted_passed _ (sym counts ∙ f)

          pub front_lists : {q : Refusal} → lists ≡ Err q → front_tests ts side L R lists ≡ Err q
          front_lists g = lists_refused ts side L R lists joint.0 passed (ap product_stage (sym core_is) ∙ product_passes.0) g

          pub front_told : lists ≡ Ok tt → (front_tests ts side L R lists ≡ Ok tt) × Told ts L R (record { count = J.count; sizes = J.sizes; core = core; packets = N; left_dups = d.0; right_dups = d.1 })
          front_told g = (
            none_refuses ts side L R lists joint.0 passed (ap product_stage (sym core_is) ∙ product_passes.0) g,
            record {
              few = (omega (arith, joint.1.few, joint.1.space), omega (arith, joint.1.few, worked.room));
              joint = joint.1.sized;
              core = core_is;
              packets = product_passes.1 ∙ ap product core_is;
              left_dups = said.1.0;
              right_dups = said.1.1;
            },
          )

-- an answer that refuses
pub front_refused : (ts : List Table) (side : ℕ) (L R : NodeLists) (lists : Tested) {q : Refusal} (a : Result LegalCall Refusal) → a ≡ Err q → front_tests ts side L R lists ≡ Err q → FrontOf ts side L R lists a
front_refused ts side L R lists a e f = subst (FrontOf ts side L R lists) (sym e) f

-- ---- drop for a policy that a call lacks

drop_passes : (sizes : List ℕ) (side : ℕ) → policies_stage sizes (sided side drop_nodes ∷ []) ≡ Ok tt
unfolding policies_stage causes cause first_refused refused_at at_place lowest bad_lengths bad_kind bad_entries wrong_entries used bad_child some_not_below children node_at node_of node_count not_once bad_negation too_many_dups or_at negates_other dups_below one is_dup
drop_passes sizes side = refl

earlier_passed : (t : Tested) → earlier_of t (Ok tt) ≡ t
unfolding earlier_of
earlier_passed (Ok _) = refl
earlier_passed (Err r) = refl

with_drop : (sizes : List ℕ) (side : ℕ) (L : NodeLists) → policies_stage sizes (sided side L ∷ sided 2 drop_nodes ∷ []) ≡ policies_stage sizes (sided side L ∷ [])
with_drop sizes side L = stage_two sizes side 2 L drop_nodes ∙ ap (earlier_of (policies_stage sizes (sided side L ∷ []))) (drop_passes sizes 2) ∙ earlier_passed _

core_with_drop : (sizes : List ℕ) (L : NodeLists) → core_sizes (L ∷ drop_nodes ∷ []) sizes ≡ core_sizes (L ∷ []) sizes
unfolding mentioned mentioned_below is_of_field node_at node_of node_count
core_with_drop sizes L = core_same (L ∷ drop_nodes ∷ []) (L ∷ []) (λ f. refl) sizes

-- drop is legal and mentions nothing
one_policy_only : (ts : List Table) (texts lists packets : Tested) (side : ℕ) (L : NodeLists) → in_order (stages_of ts texts (sided side L ∷ sided 2 drop_nodes ∷ []) lists packets) ≡ in_order (stages_of ts texts (sided side L ∷ []) lists packets)
unfolding stages_of
one_policy_only ts texts lists packets side L =
    ap₂ (λ (p q : Tested). in_order (record { fields = tables_stage ts; texts = texts; policies = p; product = q; lists = lists; packets = packets }))
    (with_drop (joint_sizes ts) side L) (ap product_stage (core_with_drop (joint_sizes ts) L))

-- ---- the answers

module _ (ts : List Table) (L : NodeLists) where
  policy_as : {t : Tested} → front_tests ts 0 L drop_nodes (Ok tt) ≡ t → policy_tests ts L ≡ t
  unfolding policy_tests
  policy_as e = sym (one_policy_only ts (Ok tt) (Ok tt) (Ok tt) 0 L) ∙ e

  pub policy_refused : {r : Refusal} → front_tests ts 0 L drop_nodes (Ok tt) ≡ Err r → Err r ≡ policy_legality ts L
  unfolding policy_legality counted
  policy_refused e = sym (ap (λ (u : Tested). counted u (dups_below L (node_count L))) (policy_as e))

  pub policy_passed : {n : ℕ} → front_tests ts 0 L drop_nodes (Ok tt) ≡ Ok tt → n ≡ dups_below L (node_count L) → Ok n ≡ policy_legality ts L
  unfolding policy_legality counted
  policy_passed e f = ap Ok f ∙ sym (ap (λ (u : Tested). counted u (dups_below L (node_count L))) (policy_as e))

module _ (ts : List Table) (L R : NodeLists) where
  pub pair_refused : {r : Refusal} → front_tests ts 1 L R (Ok tt) ≡ Err r → Err r ≡ pair_legality ts L R
  unfolding pair_legality pair_answer pair_tests
  pair_refused e = sym (ap (λ (u : Tested). pair_answer u (dups_below L (node_count L)) (dups_below R (node_count R))) e)

  pub pair_passed : {m n : ℕ} → front_tests ts 1 L R (Ok tt) ≡ Ok tt → m ≡ dups_below L (node_count L) → n ≡ dups_below R (node_count R) → Ok (m, n) ≡ pair_legality ts L R
  unfolding pair_legality pair_answer pair_tests
  pair_passed e f g =
      ap₂ (λ (m n : ℕ). Ok (m, n)) f g ∙ sym (ap (λ (u : Tested). pair_answer u (dups_below L (node_count L)) (dups_below R (node_count R))) e)

-- ---- sizes and one policy over them, without tables

pub stages_legal : (sizes : List ℕ) (side : ℕ) (L : NodeLists) → fields_stage sizes ≡ Ok tt → product_stage sizes ≡ Ok tt → policies_stage sizes (sided side L ∷ []) ≡ Ok tt → LegalSizes sizes × Legal sizes L
unfolding Each
stages_legal sizes side L fields product policies = (sizes_legal sizes (fields_legal sizes fields) product, ((stage_passes sizes _).0 policies).0)
