-- The counts of causes 8 and 9 as they grow.
use Prim.Native.Nat.{ℕ, zero, suc, ◌+◌, ◌<◌, ◌≤◌}
use mathlib.Core.Bool.{Bool, true, false}
use mathlib.Core.List.{List, [], ◌∷◌}
use mathlib.Core.Logic.{◌≢◌, by_cases}
use Rattle.std.specs.Prelude.{None, Ok, Err}
use mathlib.Core.Path.{◌≡◌, refl, sym, ap, ap₂, subst, ◌∙◌}
use native.Mathlib.Decide.{dec_lt, ℕ_discrete}
use native.Mathlib.Omega.{arith}
use lib.ListN.{length, get_or, set, replicate, length-set, length-replicate, get_or-replicate, get_or-eq_default}
use lib.Seq.{get_or-set_same, get_or-set_other}
use borrow.Author.Tests.{lt-ltb, le-ltb, eq-eqb, ne_eqb}
use lib.Dec.{eqb}
use mir.Val.{bool_byte}
use Rattle.packet.specs.Lowest.{lowest}
use Rattle.packet.proofs.Lowest.{lowest_more, lowest_found}
use Rattle.policy.specs.declared.Node.{Node}
use Rattle.policy.specs.declared.Node.TheVariants.{Drop, Id, Field, Dup, Sum, Seq, Star, Neg}
use Rattle.policy.specs.AsLists.{as_lists}
use Rattle.policy.specs.InnerEach.{Each}
use Rattle.policy.specs.NodeLists.{NodeLists, node_count, node_of, node_at, children, one, is_dup, dups_below}
use Rattle.policy.specs.Legality.{bad_child, occurrences, times_child, not_once, too_many_dups, max_dups}
use Rattle.tree_causes.specs.Counting.{CountableChildren, with_child, with_children, Countable, ChildCounts, DupCountOf}
use Rattle.policy.proofs.EachLaws.{each_map, below_each, one_same, one_other}

-- ---- one more child

pub with_child_length : (counts : List ℕ) (c : ℕ) → length (with_child counts c) ≡ length counts
unfolding with_child
with_child_length counts c = length-set counts c _

with_child_at : (counts : List ℕ) (c j : ℕ) → c < length counts → get_or (with_child counts c) j 0 ≡ get_or counts j 0 + one (eqb c j)
unfolding with_child
with_child_at counts c j h = go (ℕ_discrete c j)
  where
    go : Dec (c ≡ j) → get_or (set counts c (get_or counts c 0 + 1)) j 0 ≡ get_or counts j 0 + one (eqb c j)
    go (yes e) =
        subst (λ (m : ℕ). get_or (set counts c (get_or counts c 0 + 1)) m 0 ≡ get_or counts m 0 + one (eqb c m)) e
        (get_or-set_same counts c _ 0 h ∙ ap (λ (m : ℕ). get_or counts c 0 + m) (sym (one_same c c refl)))
    go (no d) =
        let other : j ≢ c = λ e. d (sym e) in
        omega (arith, get_or-set_other counts c j (get_or counts c 0 + 1) 0 other, one_other c j d)

-- however the list, at most one more anywhere
pub with_child_most : (counts : List ℕ) (c j : ℕ) → get_or (with_child counts c) j 0 ≤ get_or counts j 0 + 1
unfolding with_child
with_child_most counts c j = go (ℕ_discrete c j) (dec_lt c (length counts))
  where
    go : Dec (c ≡ j) → Dec (c < length counts) → get_or (set counts c (get_or counts c 0 + 1)) j 0 ≤ get_or counts j 0 + 1
    go (yes e) (yes h) =
        subst (λ (m : ℕ). get_or (set counts c (get_or counts c 0 + 1)) m 0 ≤ get_or counts m 0 + 1) e (omega (arith, get_or-set_same counts c (get_or counts c 0 + 1) 0 h))
    go (yes e) (no h) =
        subst (λ (m : ℕ). get_or (set counts c (get_or counts c 0 + 1)) m 0 ≤ get_or counts m 0 + 1) e
        (omega (arith, get_or-eq_default (set counts c (get_or counts c 0 + 1)) 0 {n = c} (omega (arith, length-set counts c (get_or counts c 0 + 1)))))
    go (no d) h =
        let other : j ≢ c = λ e. d (sym e) in
        omega (arith, get_or-set_other counts c j (get_or counts c 0 + 1) 0 other)

pub with_children_length : (cs counts : List ℕ) → length (with_children counts cs) ≡ length counts
unfolding with_children
with_children_length [] counts = refl
with_children_length (c ∷ cs) counts = with_children_length cs (with_child counts c) ∙ with_child_length counts c

with_children_at : (cs counts : List ℕ) (j : ℕ) → Each (λ c. c < length counts) cs → get_or (with_children counts cs) j 0 ≡ get_or counts j 0 + occurrences j cs
unfolding with_children Each occurrences
with_children_at [] counts j e = omega arith
with_children_at (c ∷ cs) counts j e =
    let rest : Each (λ d. d < length (with_child counts c)) cs =
    each_map (λ d. d < length counts) (λ d. d < length (with_child counts c)) cs (λ d h. omega (arith, with_child_length counts c)) e.1 in
    omega (arith, with_children_at cs (with_child counts c) j rest, with_child_at counts c j e.0)

-- ---- all nodes

two_children : (n : Node) → length (children n) ≤ 2
unfolding children
two_children Drop = omega arith
two_children Id = omega arith
two_children (Field a) = omega arith
two_children Dup = omega arith
two_children (Sum l r) = omega arith
two_children (Seq l r) = omega arith
two_children (Star c) = omega arith
two_children (Neg c) = omega arith

one_most : (b : Bool) → one b ≤ 1
unfolding one
one_most true = omega arith
one_most false = omega arith

occurrences_most : (j : ℕ) (cs : List ℕ) → occurrences j cs ≤ length cs
unfolding occurrences
occurrences_most j [] = omega arith
occurrences_most j (c ∷ cs) = omega (arith, one_most (eqb c j), occurrences_most j cs)

module _ (L : NodeLists) where
  times_most : (j n : ℕ) → times_child L j n ≤ n + n
  unfolding times_child
  times_most j zero = omega arith
  times_most j (suc n) = omega (arith, times_most j n, occurrences_most j (children (node_at L n)), two_children (node_at L n))

  pub none_passed : (counts : List ℕ) → counts ≡ replicate 512 0 → ChildCounts L counts 0
  unfolding times_child
  none_passed counts e = record {
    long = ap (λ (m : List ℕ). length m) e ∙ length-replicate {A = ℕ} 512 0;
    each = λ j h. ap (λ (m : List ℕ). get_or m j 0) e ∙ get_or-replicate {A = ℕ} 512 j 0 0 h;
  }

  countable : CountableChildren L → (counts : List ℕ) (i : ℕ) → i < node_count L → ChildCounts L counts i → Countable counts (children (node_at L i))
  unfolding bad_child
  countable h counts i k cc = record { small = small; room = room }
    where
      small : Each (λ c. c < length counts) (children (node_at L i))
      small = each_map (λ c. c < i) (λ c. c < length counts) (children (node_at L i)) (λ c l. omega (arith, h.few, cc.long)) ((below_each i (children (node_at L i))).0 (h.below i k))

      room : (j : ℕ) → get_or counts j 0 + length (children (node_at L i)) ≤ 65535
      room j = go (dec_lt j 512)
        where
          go : Dec (j < 512) → get_or counts j 0 + length (children (node_at L i)) ≤ 65535
          go (yes l) = omega (arith, cc.each j l, times_most j i, two_children (node_at L i), h.few)
          go (no d) = omega (arith, get_or-eq_default counts 0 {n = j} (omega (arith, cc.long)), two_children (node_at L i))

  one_passed : CountableChildren L → (counts more : List ℕ) (i : ℕ) → i < node_count L → ChildCounts L counts i
      → more ≡ with_children counts (children (node_at L i)) → ChildCounts L more (suc i)
  unfolding times_child
  one_passed h counts more i k cc e = subst (λ (m : List ℕ). ChildCounts L m (suc i)) (sym e) record {
    long = with_children_length (children (node_at L i)) counts ∙ cc.long;
    each = λ j l. with_children_at (children (node_at L i)) counts j (countable h counts i k cc).small ∙ ap (λ (m : ℕ). m + occurrences j (children (node_at L i))) (cc.each j l);
  }

  pub node_countable : CountableChildren L → (counts : List ℕ) (i : ℕ) {n : Node} → n ≡ node_at L i → i < node_count L → ChildCounts L counts i → Countable counts (children n)
  node_countable h counts i e k cc = subst (λ (n : Node). Countable counts (children n)) (sym e) (countable h counts i k cc)

  pub node_passed : CountableChildren L → (counts more : List ℕ) (i : ℕ) {n : Node} → n ≡ node_at L i → i < node_count L → ChildCounts L counts i
      → more ≡ with_children counts (children n) → ChildCounts L more (suc i)
  node_passed h counts more i e k cc f = one_passed h counts more i k cc (f ∙ ap (λ (n : Node). with_children counts (children n)) e)

  -- the count of node i, once all are passed
  pub is_once : (counts : List ℕ) (i : ℕ) → ChildCounts L counts (node_count L) → i < 512 → get_or counts i 0 ≡ 1 → not_once L i ≡ false
  unfolding not_once
  is_once counts i cc h e = rw (eq-eqb (times_child L i (node_count L)) 1 (sym (cc.each i h) ∙ e))

  pub isn't_once : (counts : List ℕ) (i : ℕ) → ChildCounts L counts (node_count L) → i < 512 → (get_or counts i 0 ≡ 1 → ⊥) → not_once L i ≡ true
  unfolding not_once
  isn't_once counts i cc h d = rw (ne_eqb (times_child L i (node_count L)) 1 (λ e. d (cc.each i h ∙ e)))

-- ---- dups

other_kind : (k a b : ℕ) → (k ≡ 5 → ⊥) → is_dup (node_of k a b) ≡ false
unfolding is_dup node_of
other_kind zero a b h = refl
other_kind (suc zero) a b h = refl
other_kind (suc (suc zero)) a b h = refl
other_kind (suc (suc (suc zero))) a b h = refl
other_kind (suc (suc (suc (suc zero)))) a b h = refl
other_kind (suc (suc (suc (suc (suc zero))))) a b h = absurd (h refl)
other_kind (suc (suc (suc (suc (suc (suc zero)))))) a b h = refl
other_kind (suc (suc (suc (suc (suc (suc (suc zero))))))) a b h = refl
other_kind (suc (suc (suc (suc (suc (suc (suc (suc zero)))))))) a b h = refl
other_kind (suc (suc (suc (suc (suc (suc (suc (suc (suc zero))))))))) a b h = refl
other_kind (suc (suc (suc (suc (suc (suc (suc (suc (suc (suc k)))))))))) a b h = refl

-- 1 for a node of the kind dup, else 0
unfoldable pub DupWeight : ℕ → ℕ → Type 0
DupWeight kind weight = (a b : ℕ) → weight ≡ one (is_dup (node_of kind a b))

byte_one : (b : Bool) → bool_byte b ≡ one b
unfolding one
byte_one true = refl
byte_one false = refl

pub weight_is : (k w : ℕ) → w ≡ bool_byte (eqb k 5) → DupWeight k w
unfolding is_dup node_of DupWeight
weight_is k w q = by_cases (ℕ_discrete k 5) dup other
  where
    e : w ≡ one (eqb k 5)
    e = q ∙ byte_one (eqb k 5)

    dup : k ≡ 5 → (a b : ℕ) → w ≡ one (is_dup (node_of k a b))
    dup q a b = e ∙ ap one (eq-eqb k 5 q) ∙ sym (ap (λ (m : ℕ). one (is_dup (node_of m a b))) q)

    other : (k ≡ 5 → ⊥) → (a b : ℕ) → w ≡ one (is_dup (node_of k a b))
    other n a b = e ∙ ap one (ne_eqb k 5 n ∙ sym (other_kind k a b n))

-- the dups of the first i nodes, which are not too many
pub record DupsSoFar (kind : List ℕ) (d i : ℕ) : Type 0 where
  pub few : d ≤ max_dups
  pub count : (first second : List ℕ) → d ≡ dups_below (as_lists kind first second) i
  pub place : (first second : List ℕ) → lowest (too_many_dups (as_lists kind first second)) i ≡ None

module _ (kind : List ℕ) where
  pub dups_none : DupsSoFar kind 0 0
  unfolding dups_below lowest
  dups_none = record { few = omega arith; count = λ f s. refl; place = λ f s. refl }

  module _ (d w i : ℕ) (so_far : DupsSoFar kind d i) (weight : DupWeight (get_or kind i 0) w) where
    count_next : (first second : List ℕ) → d + w ≡ dups_below (as_lists kind first second) (suc i)
    unfolding dups_below node_at DupWeight
    count_next f s = ap₂ (λ (m n : ℕ). m + n) (so_far.count f s) (weight (get_or f i 0) (get_or s i 0))

    pub dups_next : d + w ≤ max_dups → DupsSoFar kind (d + w) (suc i)
    unfolding too_many_dups
    dups_next h = record {
      few = h;
      count = count_next;
      place = λ f s. lowest_more (too_many_dups (as_lists kind f s)) i (so_far.place f s) (le-ltb max_dups _ (subst (λ (m : ℕ). m ≤ max_dups) (count_next f s) h));
    }

    pub dups_over : max_dups < d + w → i < length kind → DupCountOf kind (Err i)
    unfolding too_many_dups
    dups_over h l f s = lowest_found (too_many_dups (as_lists kind f s)) i (length kind) (so_far.place f s) (lt-ltb max_dups _ (subst (λ (m : ℕ). max_dups < m) (count_next f s) h)) l

  pub dups_whole : (d : ℕ) → DupsSoFar kind d (length kind) → DupCountOf kind (Ok d)
  dups_whole d h f s = (h.place f s, h.count f s)
