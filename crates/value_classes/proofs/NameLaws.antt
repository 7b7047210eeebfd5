-- The keys of two policies, in order, hold the named values of each field. Assumes nothing.
use Prim.Native.Nat.{ℕ, zero, suc, ◌<◌, ◌≤◌}
use native.Mathlib.Omega.{arith}
use native.Mathlib.Decide.{dec_lt}
use mathlib.Core.Bool.{Bool, true, false, cond}
use mathlib.Core.List.{List, [], ◌∷◌, ◌++◌, map}
use mathlib.Core.Logic.{◌⊎◌, inl, inr, ⊎_elim, ◌↔◌}
use mathlib.Core.Path.{◌≡◌, refl, sym, ap, ◌∙◌, subst}
use lib.Dec.{eqb}
use lib.ListN.{length, get_or, take, drop, replicate, length-map, length-take, length-replicate, get_or-eq_default}
use lib.Seq.{slice, take-take, length-slice}
use borrow.Author.Tests.{eqb-true, eqb-false}
use Rattle.policy.specs.declared.Node.{Node}
use Rattle.policy.specs.declared.Node.TheVariants.{Drop, Id, Field, Dup, Sum, Seq, Star, Neg}
use Rattle.policy.specs.InnerEach.{Each}
use Rattle.policy.specs.InnerAscending.{Ascending, Among}
use Rattle.policy.specs.Legality.{field_of, value_of}
use Rattle.policy.specs.NodeLists.{NodeLists, node_at, node_count}
use Rattle.policy.specs.NamedValues.{insert, with_node, named_below, named_values}
use Rattle.policy.proofs.Ascending.{insert_among, insert_each}
use Rattle.policy.proofs.NamedLaws.{named_ascending}
use Rattle.policy.proofs.Trees.{OfAction}
use Rattle.ascending.specs.Sorting.{sorted, count_below, SortedInto}
use Rattle.ascending.proofs.RankLaws.{count_below_few}
use Rattle.ascending.proofs.SortLaws.{sorted_ascending, sorted_among, among_append}
use Rattle.value_classes.specs.Names.{key_of, node_keys, keys_below, KeysAdded, FieldNames, Listed, NamesOf, StartsOf}
use Rattle.value_classes.proofs.NodeLaws.{value_small, keys_below_few}
use Rattle.value_classes.proofs.PartLaws.{field_part, rank_rises}

-- ---- one node

module _ (f : ℕ) where
  node_small : (x : Node) (vs : List ℕ) → OfAction (λ a. value_of a < 65536) x → Each (λ v. v < 65536) vs → Each (λ v. v < 65536) (with_node f x vs)
  unfolding with_node OfAction
  node_small Drop vs h e = e
  node_small Id vs h e = e
  node_small (Field a) vs h e = go (eqb (field_of a) f)
    where
      go : (b : Bool) → Each (λ v. v < 65536) (cond b (insert (value_of a) vs) vs)
      go true = insert_each (λ v. v < 65536) (value_of a) vs h e
      go false = e
  node_small Dup vs h e = e
  node_small (Sum l r) vs h e = e
  node_small (Seq l r) vs h e = e
  node_small (Star c) vs h e = e
  node_small (Neg c) vs h e = e

  module _ (v : ℕ) (small : v < 65536) where
    unnamed_node : (vs : List ℕ) → Among v vs ↔ (⊥ ⊎ Among v vs)
    unnamed_node vs = (λ m. inr m, λ m. ⊎_elim (λ n. absurd n) (λ k. k) m)

    -- the value is named by the node where its key is
    node_among : (x : Node) (vs : List ℕ) → OfAction (λ a. value_of a < 65536) x → Among v (with_node f x vs) ↔ (Among (key_of f v) (node_keys x) ⊎ Among v vs)
    unfolding with_node OfAction node_keys Among
    node_among Drop vs h = unnamed_node vs
    node_among Id vs h = unnamed_node vs
    node_among (Field a) vs h = go (eqb (field_of a) f) refl
      where
        go : (b : Bool) → eqb (field_of a) f ≡ b → Among v (cond b (insert (value_of a) vs) vs) ↔ (((key_of f v ≡ key_of (field_of a) (value_of a)) ⊎ ⊥) ⊎ Among v vs)
        go true e =
            let same : field_of a ≡ f = eqb-true (field_of a) f e in (
              λ m. ⊎_elim (λ (s : v ≡ value_of a). inl (inl (omega arith))) (λ k. inr k) ((insert_among (value_of a) vs v).0 m),
              λ m. (insert_among (value_of a) vs v).1 (⊎_elim (λ k. ⊎_elim (λ (s : key_of f v ≡ key_of (field_of a) (value_of a)). inl (omega arith)) (λ n. absurd n) k) (λ k. inr k) m),
            )
        go false e = (
          λ m. inr m,
          λ m. ⊎_elim (λ k. ⊎_elim (λ (s : key_of f v ≡ key_of (field_of a) (value_of a)). absurd (eqb-false (field_of a) f e (omega arith))) (λ n. absurd n) k) (λ k. k) m,
        )
    node_among Dup vs h = unnamed_node vs
    node_among (Sum l r) vs h = unnamed_node vs
    node_among (Seq l r) vs h = unnamed_node vs
    node_among (Star c) vs h = unnamed_node vs
    node_among (Neg c) vs h = unnamed_node vs

-- ---- a policy whose second entries are below 65,536

abbrev pub Small : NodeLists → Type 0
Small L = (i : ℕ) → get_or L.second i 0 < 65536

-- past their end lists read as 0
pub small_lists : {L : NodeLists} → Listed L → ((i : ℕ) → i < length L.kind → get_or L.second i 0 < 65536) → Small L
unfolding node_count
small_lists {L} h small i = go (dec_lt i (length L.kind))
  where
    go : Dec (i < length L.kind) → get_or L.second i 0 < 65536
    go (yes l) = small i l
    go (no d) = omega (arith, get_or-eq_default L.second 0 {n = i} (omega (arith, h.seconds)))

module _ (L : NodeLists) (small : Small L) (f : ℕ) where
  at_small : (i : ℕ) → OfAction (λ a. value_of a < 65536) (node_at L i)
  unfolding node_at
  at_small i = value_small _ _ _ (small i)

  policy_small : (n : ℕ) (vs : List ℕ) → Each (λ v. v < 65536) vs → Each (λ v. v < 65536) (named_below L f n vs)
  unfolding named_below
  policy_small zero vs e = e
  policy_small (suc n) vs e = node_small f (node_at L n) _ (at_small n) (policy_small n vs e)

  policy_among : (v : ℕ) → v < 65536 → (n : ℕ) (vs : List ℕ) → Among v (named_below L f n vs) ↔ (Among (key_of f v) (keys_below L n) ⊎ Among v vs)
  unfolding named_below keys_below Among
  policy_among v h zero vs = (λ m. inr m, λ m. ⊎_elim (λ n. absurd n) (λ k. k) m)
  policy_among v h (suc n) vs =
      let here = node_among f v h (node_at L n) (named_below L f n vs) (at_small n) in
      let before = policy_among v h n vs in
      let both = among_append (keys_below L n) (node_keys (node_at L n)) (key_of f v) in (
        λ m. ⊎_elim (λ k. inl (both.1 (inr k))) (λ k. ⊎_elim (λ l. inl (both.1 (inl l))) (λ l. inr l) (before.0 k)) (here.0 m),
        λ m. here.1 (⊎_elim (λ k. ⊎_elim (λ l. inr (before.1 (inl l))) (λ l. inl l) (both.0 k)) (λ k. inr (before.1 (inr k))) m),
      )

-- ---- two policies

abbrev pub both_keys : NodeLists → NodeLists → List ℕ
both_keys L R = keys_below L (length L.kind) ++ keys_below R (length R.kind)

module _ (L R : NodeLists) (left-small : Small L) (right-small : Small R) where
  both_small : (f : ℕ) → Each (λ v. v < 65536) (named_values (L ∷ R ∷ []) f)
  unfolding named_values Each
  both_small f = policy_small L left-small f (node_count L) _ (policy_small R right-small f (node_count R) [] tt)

  both_among : (f v : ℕ) → v < 65536 → Among (key_of f v) (sorted (both_keys L R)) ↔ Among v (named_values (L ∷ R ∷ []) f)
  unfolding named_values node_count Among
  both_among f v h =
      let left = policy_among L left-small f v h (length L.kind) (named_below R f (length R.kind) []) in
      let right = policy_among R right-small f v h (length R.kind) [] in
      let both = among_append (keys_below L (length L.kind)) (keys_below R (length R.kind)) (key_of f v) in
      let order = sorted_among (both_keys L R) (key_of f v) in (
        λ m. left.1 (⊎_elim (λ k. inl k) (λ k. inr (right.1 (inl k))) (both.0 (order.0 m))),
        λ m. order.1 (both.1 (⊎_elim (λ k. inl k) (λ k. inr (⊎_elim (λ l. l) (λ l. absurd l) (right.0 k))) (left.0 m))),
      )

  names_found : (keys starts : List ℕ) (n : ℕ) → length keys ≡ 1024 → n ≤ 1024 → take n keys ≡ sorted (both_keys L R) → StartsOf (take n keys) starts
      → NamesOf (L ∷ R ∷ []) keys starts
  names_found keys starts n room few same at = record { room = room; nine = at.nine; each = field }
    where
      order : Ascending (take n keys)
      order = subst Ascending (sym same) (sorted_ascending (both_keys L R))

      long : length (take n keys) ≡ n
      long = omega (arith, length-take n keys)

      field : (f : ℕ) → f < 8 → FieldNames f (named_values (L ∷ R ∷ []) f) keys (get_or starts f 0) (get_or starts (suc f) 0)
      field f l =
          rw (at.each f (omega arith), at.each (suc f) (omega arith))
          (record {
            order = rank_rises _ _ _ order (omega arith);
            inside = omega (arith, to_few);
            part = record { ascending = named_ascending (L ∷ R ∷ []) f; small = both_small f; few = names_few; same = part };
          })
        where
          names : List ℕ
          names = named_values (L ∷ R ∷ []) f

          to_few : count_below (key_of (suc f) 0) (take n keys) ≤ n
          to_few = omega (arith, count_below_few (key_of (suc f) 0) (take n keys), long)

          part : slice (count_below (key_of f 0) (take n keys)) (count_below (key_of (suc f) 0) (take n keys)) keys ≡ map (key_of f) names
          part =
              ap (drop (count_below (key_of f 0) (take n keys))) (sym (take-take (count_below (key_of (suc f) 0) (take n keys)) n keys to_few))
              ∙ field_part f (take n keys) names order (named_ascending (L ∷ R ∷ []) f) (both_small f)
              (λ v h. subst (λ (ks : List ℕ). Among (key_of f v) ks ↔ Among v names) (sym same) (both_among f v h))

          names_few : length names ≤ 1024
          names_few =
              omega
              (arith, to_few, ap length part, length-map names (key_of f), length-slice (count_below (key_of f 0) (take n keys)) (count_below (key_of (suc f) 0) (take n keys)) keys (omega (arith, to_few)))

-- ---- gathered, sorted

-- the first n keys are those of two policies
pub record Gathered (L R : NodeLists) (found : List ℕ) (n : ℕ) : Type 0 where
  pub room : length found ≡ 1024
  pub few : n ≤ 1024
  pub all : take n found ≡ both_keys L R

pub left_few : {L : NodeLists} {keys found : List ℕ} {n : ℕ} → Listed L → KeysAdded (keys_below L (length L.kind)) keys 0 found n → n ≤ 512
unfolding node_count
left_few {L} h left = omega (arith, keys_below_few L (length L.kind), left.few, h.few)

module _ {L R : NodeLists} where
  pub gathered : {middle found : List ℕ} {m n : ℕ} → Listed L → Listed R → KeysAdded (keys_below L (length L.kind)) (replicate 1024 0) 0 middle m
      → KeysAdded (keys_below R (length R.kind)) middle m found n → Gathered L R found n
  unfolding node_count
  gathered h k left right = record {
    room = right.long ∙ left.long ∙ length-replicate {A = ℕ} 1024 0;
    few = omega (arith, left_few h left, keys_below_few R (length R.kind), right.few, k.few);
    all = right.added ∙ ap (λ (ks : List ℕ). ks ++ keys_below R (length R.kind)) left.added;
  }

  module _ {found : List ℕ} {n : ℕ} (g : Gathered L R found n) where
    pub found_long : length (take n found) ≡ n
    found_long = omega (arith, length-take n found, g.few, g.room)

    module _ {out : List ℕ} {m : ℕ} (s : SortedInto (take n found) out m) where
      sorted_few : m ≤ 1024
      sorted_few = omega (arith, s.few, found_long, g.few)

      pub sorted_long : length out ≡ 1024 → length (take m out) ≡ m
      sorted_long h = omega (arith, length-take m out, sorted_few)

      pub sorted_order : Ascending (take m out)
      sorted_order = subst Ascending (sym s.same) (sorted_ascending (take n found))

  pub names_sorted : {middle found out starts : List ℕ} {m n count : ℕ} → Listed L × Listed R
      → KeysAdded (keys_below L (length L.kind)) (replicate 1024 0) 0 middle m × ((i : ℕ) → i < length L.kind → get_or L.second i 0 < 65536)
      → KeysAdded (keys_below R (length R.kind)) middle m found n × ((i : ℕ) → i < length R.kind → get_or R.second i 0 < 65536)
      → SortedInto (take n found) out count → length out ≡ 1024 → StartsOf (take count out) starts → NamesOf (L ∷ R ∷ []) out starts
  names_sorted listed left right s long at =
      let g = gathered listed.0 listed.1 left.0 right.0 in
      names_found L R (small_lists listed.0 left.1) (small_lists listed.1 right.1) _ _ _ long (sorted_few g s) (s.same ∙ ap sorted g.all) at
