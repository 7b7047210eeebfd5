-- The ways up, told from the root down: each node tells its children, and no node is told twice.
use Prim.Native.Nat.{ℕ, zero, suc, pred, ◌≤◌, ◌<◌}
use mathlib.Core.Bool.{Bool, true, false, true≢false}
use mathlib.Core.List.{List, [], ◌∷◌}
use mathlib.Core.Path.{◌≡◌, refl, sym, ap, ap₂, ◌∙◌, subst}
use native.Mathlib.Decide.{ℕ_discrete}
use native.Mathlib.Omega.{arith}
use lib.ListN.{length, get_or, set, replicate, length-set, get_or-replicate}
use lib.Seq.{get_or-set_same, get_or-set_other}
use Rattle.policy.specs.declared.Node.{Node}
use Rattle.policy.specs.declared.Node.TheVariants.{Drop, Id, Field, Dup, Sum, Seq, Star, Neg}
use Rattle.policy.specs.InnerEach.{Each}
use Rattle.policy.specs.Legality.{occurrences}
use Rattle.policy.specs.NodeLists.{NodeLists, node_count, node_at, children, one, tree_of}
use Rattle.policy.proofs.EachLaws.{each_map}
use Rattle.policy.proofs.Trees.{two_below, one_below}
use Rattle.policy.proofs.VisitLaws.{no_child}
use Rattle.loaded.specs.Loaded.{Linked, Rises, ends, rises}
use Rattle.loaded.specs.Loading.{Formed, ways_told, way_from, Ways}
use Rattle.tree_causes.specs.Alone.{Alone}
use Rattle.policy.specs.Tests.{is_test}
use Rattle.loaded.proofs.Children.{apart, not_first, not_rest, two_differ}
use Rattle.loaded.proofs.Trees.{below, few, some}

-- ---- one node

pub told_flag : (f n : ℕ) (ups : List ℕ) (node : Node) → (f ≡ 0 → ⊥) → ups ≡ ways_told f n ups node
unfolding ways_told
told_flag zero n ups node h = absurd (h refl)
told_flag (suc f) n ups node h = refl

pub told_is : (f n : ℕ) (ups : List ℕ) (node d : Node) → f ≡ 0 → node ≡ d → ways_told 0 n ups d ≡ ways_told f n ups node
told_is f n ups node d z e = sym (ap₂ (λ (f : ℕ) (x : Node). ways_told f n ups x) z e)

-- of a node that is no sum, no sequence and no star
pub told_none : (f n : ℕ) (ups : List ℕ) (node : Node) → f ≡ 0 → ((l r : ℕ) → node ≡ Sum l r → ⊥) → ((l r : ℕ) → node ≡ Seq l r → ⊥) → ((c : ℕ) → node ≡ Star c → ⊥) → ups ≡ ways_told f n ups node
unfolding ways_told
told_none (suc f) n ups node z a b h = absurd (omega arith)
told_none zero n ups Drop z a b h = refl
told_none zero n ups Id z a b h = refl
told_none zero n ups (Field x) z a b h = refl
told_none zero n ups Dup z a b h = refl
told_none zero n ups (Sum x y) z a b h = absurd (a x y refl)
told_none zero n ups (Seq x y) z a b h = absurd (b x y refl)
told_none zero n ups (Star x) z a b h = absurd (h x refl)
told_none zero n ups (Neg x) z a b h = refl

-- entries that are no children stay
told_other : (n : ℕ) (ups : List ℕ) (d : Node) (c : ℕ) → occurrences c (children d) ≡ 0 → get_or (ways_told 0 n ups d) c 0 ≡ get_or ups c 0
unfolding ways_told children
told_other n ups Drop c h = refl
told_other n ups Id c h = refl
told_other n ups (Field a) c h = refl
told_other n ups Dup c h = refl
told_other n ups (Sum x y) c h =
    get_or-set_other (set ups x (get_or ups n 0)) y c (get_or ups n 0) 0 (not_first c y [] (not_rest c x (y ∷ []) h))
    ∙ get_or-set_other ups x c (get_or ups n 0) 0 (not_first c x (y ∷ []) h)
told_other n ups (Seq x y) c h =
    get_or-set_other (set ups x n) y c (get_or ups n 0) 0 (not_first c y [] (not_rest c x (y ∷ []) h))
    ∙ get_or-set_other ups x c n 0 (not_first c x (y ∷ []) h)
told_other n ups (Star x) c h = get_or-set_other ups x c n 0 (not_first c x [] h)
told_other n ups (Neg x) c h = refl

told_length : (n : ℕ) (ups : List ℕ) (d : Node) → length (ways_told 0 n ups d) ≡ length ups
unfolding ways_told
told_length n ups Drop = refl
told_length n ups Id = refl
told_length n ups (Field a) = refl
told_length n ups Dup = refl
told_length n ups (Sum x y) = length-set (set ups x (get_or ups n 0)) y (get_or ups n 0) ∙ length-set ups x (get_or ups n 0)
told_length n ups (Seq x y) = length-set (set ups x n) y (get_or ups n 0) ∙ length-set ups x n
told_length n ups (Star x) = length-set ups x n
told_length n ups (Neg x) = refl

-- what a node hears: nothing new, the way of the node above, or that node itself
data Heard (ups ups' : List ℕ) (n j : ℕ) : Type 0 where
  nothing : get_or ups' j 0 ≡ get_or ups j 0 → Heard ups ups' n j
  its_way : j < n → get_or ups' j 0 ≡ get_or ups n 0 → Heard ups ups' n j
  itself : j < n → get_or ups' j 0 ≡ n → Heard ups ups' n j

set_at : (ups : List ℕ) (x j v : ℕ) → j ≡ x → x < length ups → get_or (set ups x v) j 0 ≡ v
set_at ups x j v e h = subst (λ (k : ℕ). get_or (set ups x v) k 0 ≡ v) (sym e) (get_or-set_same ups x v 0 h)

-- where the links keep their entries, they hold
linked_kept : (ups ups' : List ℕ) (m : ℕ) (d : Node) → Each (λ c. get_or ups' c 0 ≡ get_or ups c 0) (children d) → get_or ups' m 0 ≡ get_or ups m 0
    → Linked (way_from ups) m d → Linked (way_from ups') m d
unfolding Linked children Each
linked_kept ups ups' m Drop h e j = tt
linked_kept ups ups' m Id h e j = tt
linked_kept ups ups' m (Field a) h e j = tt
linked_kept ups ups' m Dup h e j = tt
linked_kept ups ups' m (Sum x y) h e j = (h.0 ∙ j.0 ∙ sym e, h.1.0 ∙ j.1 ∙ sym e)
linked_kept ups ups' m (Seq x y) h e j = (h.0 ∙ j.0, h.1.0 ∙ j.1 ∙ sym e)
linked_kept ups ups' m (Star x) h e j = h.0 ∙ j
linked_kept ups ups' m (Neg x) h e j = tt

-- ---- all nodes

-- the nodes from n on have told their children
pub record Telling (L : NodeLists) (ups : List ℕ) (n : ℕ) : Type 0 where
  pub at : n ≤ node_count L
  pub long : length ups ≡ 512
  pub linked : (m : ℕ) → n ≤ m → m < node_count L → is_test (tree_of L m) ≡ false → Linked (way_from ups) m (node_at L m)
  pub rise : (j : ℕ) → j < node_count L → Rises L (way_from ups) (λ k. is_test (tree_of L k)) j
  pub last : get_or ups (pred (node_count L)) 0 ≡ 512

module _ (L : NodeLists) (f : Formed L) where
  pub telling_start : (ups : List ℕ) → ups ≡ replicate 512 512 → (n : ℕ) → n ≡ node_count L → Telling L ups n
  telling_start ups e n en = record {
    at = omega arith;
    long = ap length e;
    linked = λ m a l. absurd (omega arith);
    rise = λ j l. ends (start j l);
    last = start (pred (node_count L)) (let h = some L f in omega arith);
  }
    where
      start : (j : ℕ) → j < node_count L → get_or ups j 0 ≡ 512
      start j l = ap (λ (x : List ℕ). get_or x j 0) e ∙ get_or-replicate 512 j 512 0 (let h = few L f in omega arith)

  module _ (ups : List ℕ) (k : ℕ) (t : Telling L ups k) (n : ℕ) (step : k ≡ suc n) where
    within : n < node_count L
    within = let h = t.at in omega arith

    module _ (moves : is_test (tree_of L n) ≡ false) where
      abbrev told_list : List ℕ
      told_list = ways_told 0 n ups (node_at L n)

      short : (x : ℕ) → x < n → x < length ups
      short x l = let h = few L f in let w = within in omega (arith, t.long)

      -- its own children
      own : Linked (way_from told_list) n (node_at L n)
      unfolding Linked ways_told children
      own = go (node_at L n) refl
        where
          self : (d : Node) → node_at L n ≡ d → get_or (ways_told 0 n ups d) n 0 ≡ get_or ups n 0
          self d e = told_other n ups d n (subst (λ (x : Node). occurrences n (children x) ≡ 0) e (no_child_here))
            where
              no_child_here : occurrences n (children (node_at L n)) ≡ 0
              no_child_here = no_child L (below L f) n n within (omega arith)

          go : (d : Node) → node_at L n ≡ d → Linked (way_from (ways_told 0 n ups d)) n d
          go Drop e = tt
          go Id e = tt
          go (Field a) e = tt
          go Dup e = tt
          go (Sum x y) e =
              let b = two_below L (below L f) n x y within (ap children e) in
              let differ = two_differ L f n x y within (ap children e) in (
                get_or-set_other (set ups x (get_or ups n 0)) y x (get_or ups n 0) 0 differ ∙ get_or-set_same ups x (get_or ups n 0) 0 (short x b.0) ∙ sym (self (Sum x y) e),
                get_or-set_same (set ups x (get_or ups n 0)) y (get_or ups n 0) 0 (subst (λ (m : ℕ). y < m) (sym (length-set ups x (get_or ups n 0))) (short y b.1)) ∙ sym (self (Sum x y) e),
              )
          go (Seq x y) e =
              let b = two_below L (below L f) n x y within (ap children e) in
              let differ = two_differ L f n x y within (ap children e) in (
                get_or-set_other (set ups x n) y x (get_or ups n 0) 0 differ ∙ get_or-set_same ups x n 0 (short x b.0),
                get_or-set_same (set ups x n) y (get_or ups n 0) 0 (subst (λ (m : ℕ). y < m) (sym (length-set ups x n)) (short y b.1)) ∙ sym (self (Seq x y) e),
              )
          go (Star x) e = get_or-set_same ups x n 0 (short x (one_below L (below L f) n x within (ap children e)))
          go (Neg x) e = tt

      heard : (j : ℕ) → Heard ups told_list n j
      unfolding ways_told children
      heard j = go (node_at L n) refl
        where
          go : (d : Node) → node_at L n ≡ d → Heard ups (ways_told 0 n ups d) n j
          go Drop e = nothing refl
          go Id e = nothing refl
          go (Field a) e = nothing refl
          go Dup e = nothing refl
          go (Sum x y) e = second (ℕ_discrete j y)
            where
              b : (x < n) × (y < n)
              b = two_below L (below L f) n x y within (ap children e)

              first : Dec (j ≡ x) → (j ≡ y → ⊥) → Heard ups (ways_told 0 n ups (Sum x y)) n j
              first (yes q) o = its_way (let h = b.0 in omega arith) (get_or-set_other (set ups x (get_or ups n 0)) y j (get_or ups n 0) 0 o ∙ set_at ups x j (get_or ups n 0) q (short x b.0))
              first (no q) o = nothing (get_or-set_other (set ups x (get_or ups n 0)) y j (get_or ups n 0) 0 o ∙ get_or-set_other ups x j (get_or ups n 0) 0 q)

              second : Dec (j ≡ y) → Heard ups (ways_told 0 n ups (Sum x y)) n j
              second (yes q) = its_way (let h = b.1 in omega arith) (set_at (set ups x (get_or ups n 0)) y j (get_or ups n 0) q (subst (λ (m : ℕ). y < m) (sym (length-set ups x (get_or ups n 0))) (short y b.1)))
              second (no q) = first (ℕ_discrete j x) q
          go (Seq x y) e = second (ℕ_discrete j y)
            where
              b : (x < n) × (y < n)
              b = two_below L (below L f) n x y within (ap children e)

              first : Dec (j ≡ x) → (j ≡ y → ⊥) → Heard ups (ways_told 0 n ups (Seq x y)) n j
              first (yes q) o = itself (let h = b.0 in omega arith) (get_or-set_other (set ups x n) y j (get_or ups n 0) 0 o ∙ set_at ups x j n q (short x b.0))
              first (no q) o = nothing (get_or-set_other (set ups x n) y j (get_or ups n 0) 0 o ∙ get_or-set_other ups x j n 0 q)

              second : Dec (j ≡ y) → Heard ups (ways_told 0 n ups (Seq x y)) n j
              second (yes q) = its_way (let h = b.1 in omega arith) (set_at (set ups x n) y j (get_or ups n 0) q (subst (λ (m : ℕ). y < m) (sym (length-set ups x n)) (short y b.1)))
              second (no q) = first (ℕ_discrete j x) q
          go (Star x) e = first (ℕ_discrete j x)
            where
              b : x < n
              b = one_below L (below L f) n x within (ap children e)

              first : Dec (j ≡ x) → Heard ups (ways_told 0 n ups (Star x)) n j
              first (yes q) = itself (let h = b in omega arith) (set_at ups x j n q (short x b))
              first (no q) = nothing (get_or-set_other ups x j n 0 q)
          go (Neg x) e = nothing refl

      rise_told : (j : ℕ) → j < node_count L → Rises L (way_from told_list) (λ k. is_test (tree_of L k)) j
      rise_told j l = go (heard j)
        where
          -- the same entry as at i, which is no lower
          from : (v i : ℕ) → get_or told_list j 0 ≡ v → v ≡ get_or ups i 0 → j ≤ i → Rises L (way_from ups) (λ k. is_test (tree_of L k)) i → Rises L (way_from told_list) (λ k. is_test (tree_of L k)) j
          from v i e q h (ends w) = ends (e ∙ q ∙ w)
          from v i e q h (rises a b z) =
              let r : get_or told_list j 0 ≡ get_or ups i 0 = e ∙ q in
              rises (omega arith) (omega arith) (subst (λ (x : ℕ). is_test (tree_of L x) ≡ false) (sym r) z)

          go : Heard ups told_list n j → Rises L (way_from told_list) (λ k. is_test (tree_of L k)) j
          go (nothing e) = from (get_or ups j 0) j e refl (omega arith) (t.rise j l)
          go (its_way h e) = from (get_or ups n 0) n e refl (omega arith) (t.rise n within)
          go (itself h e) = rises (omega arith) (let w = within in omega arith) (subst (λ (x : ℕ). is_test (tree_of L x) ≡ false) (sym e) moves)

      not_told : (m : ℕ) → n ≤ m → m < node_count L → get_or told_list m 0 ≡ get_or ups m 0
      not_told m a l = told_other n ups (node_at L n) m (no_child L (below L f) m n within a)

      told_turn : Telling L told_list n
      told_turn = record {
        at = let h = within in omega arith;
        long = told_length n ups (node_at L n) ∙ t.long;
        linked = λ m a l z. split m a l z (ℕ_discrete m n);
        rise = rise_told;
        last = let h = within in not_told (pred (node_count L)) (omega arith) (omega arith) ∙ t.last;
      }
        where
          split : (m : ℕ) → n ≤ m → m < node_count L → is_test (tree_of L m) ≡ false → Dec (m ≡ n) → Linked (way_from told_list) m (node_at L m)
          split m a l z (yes e) = subst (λ (x : ℕ). Linked (way_from told_list) x (node_at L x)) (sym e) own
          split m a l z (no e) =
              linked_kept ups told_list m (node_at L m)
              (each_map (λ c. occurrences c (children (node_at L n)) ≡ 0) (λ c. get_or told_list c 0 ≡ get_or ups c 0) (children (node_at L m))
              (λ c h. told_other n ups (node_at L n) c h) (apart L f m n (omega arith) l))
              (not_told m a l)
              (t.linked m (omega arith) l z)

    same_turn : is_test (tree_of L n) ≡ true → Telling L ups n
    same_turn still = record {
      at = let h = within in omega arith;
      long = t.long;
      linked = λ m a l z. split m a l z (ℕ_discrete m n);
      rise = t.rise;
      last = t.last;
    }
      where
        split : (m : ℕ) → n ≤ m → m < node_count L → is_test (tree_of L m) ≡ false → Dec (m ≡ n) → Linked (way_from ups) m (node_at L m)
        split m a l z (yes e) = absurd (true≢false (sym still ∙ subst (λ (x : ℕ). is_test (tree_of L x) ≡ false) e z))
        split m a l z (no e) = t.linked m (omega arith) l z

    pub telling_turn : (alone : List ℕ) → Alone L alone → (node : Node) → node ≡ node_at L n → (ups' : List ℕ) → ups' ≡ ways_told (get_or alone n 0) n ups node → Telling L ups' n
    unfolding one
    telling_turn alone a node en ups' eu = go (is_test (tree_of L n)) refl
      where
        go : (b : Bool) → is_test (tree_of L n) ≡ b → Telling L ups' n
        go true e = subst (λ (x : List ℕ). Telling L x n) (told_flag (get_or alone n 0) n ups node (let q = a.flags n within ∙ ap one e in omega arith) ∙ sym eu) (same_turn e)
        go false e = subst (λ (x : List ℕ). Telling L x n) (told_is (get_or alone n 0) n ups node (node_at L n) (a.flags n within ∙ ap one e) en ∙ sym eu) (told_turn e)

  pub telling_end : (ups : List ℕ) (n : ℕ) → Telling L ups n → n ≤ 0 → Ways L ups
  telling_end ups n t h = record { linked = λ m l z. t.linked m (omega arith) l z; rise = t.rise; last = t.last }
