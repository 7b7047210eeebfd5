-- Each node is a child at most once: two nodes have no child in common, and the two children of a node differ.
use Prim.Native.Nat.{ℕ, zero, suc, ◌+◌, ◌≤◌, ◌<◌}
use mathlib.Core.List.{List, [], ◌∷◌}
use mathlib.Core.Logic.{by_cases}
use mathlib.Core.Path.{◌≡◌, refl, sym, ap, subst}
use native.Mathlib.Decide.{ℕ_discrete}
use native.Mathlib.Omega.{arith}
use Rattle.policy.specs.InnerEach.{Each}
use Rattle.policy.specs.Legality.{occurrences, times_child}
use Rattle.policy.specs.NodeLists.{NodeLists, node_count, node_at, children}
use Rattle.policy.proofs.EachLaws.{each_map, one_same}
use Rattle.loaded.specs.Loading.{Formed}

-- each element of a list stands in it
each_occurs : (cs : List ℕ) → Each (λ c. 0 < occurrences c cs) cs
unfolding Each occurrences
each_occurs [] = tt
each_occurs (c ∷ cs) = (omega (arith, one_same c c refl), each_map (λ x. 0 < occurrences x cs) (λ x. 0 < occurrences x (c ∷ cs)) cs (λ x h. omega arith) (each_occurs cs))

-- a number that does not stand in a list is not its first, and does not stand in the rest
pub not_first : (x c : ℕ) (cs : List ℕ) → occurrences x (c ∷ cs) ≡ 0 → x ≡ c → ⊥
unfolding occurrences
not_first x c cs h e = omega (arith, one_same c x (sym e))

pub not_rest : (x c : ℕ) (cs : List ℕ) → occurrences x (c ∷ cs) ≡ 0 → occurrences x cs ≡ 0
unfolding occurrences
not_rest x c cs h = omega arith

module _ (L : NodeLists) where
  abbrev at : ℕ → ℕ → ℕ
  at c n = occurrences c (children (node_at L n))

  times_one : (c k n : ℕ) → n < k → at c n ≤ times_child L c k
  unfolding times_child
  times_one c zero n l = absurd (omega arith)
  times_one c (suc k) n l =
      by_cases (ℕ_discrete n k) (λ e. subst (λ (x : ℕ). at c x ≤ times_child L c k + at c k) (sym e) (omega arith))
      (λ e. let h = times_one c k n (omega arith) in omega arith)

  times_two : (c k m n : ℕ) → m < n → n < k → at c m + at c n ≤ times_child L c k
  unfolding times_child
  times_two c zero m n a l = absurd (omega arith)
  times_two c (suc k) m n a l =
      by_cases (ℕ_discrete n k) (λ e. subst (λ (x : ℕ). at c m + at c x ≤ times_child L c k + at c k) (sym e) (let h = times_one c k m (omega arith) in omega arith))
      (λ e. let h = times_two c k m n a (omega arith) in omega arith)

  module _ (f : Formed L) where
    -- no child of m is a child of a lower node n
    pub apart : (m n : ℕ) → n < m → m < node_count L → Each (λ c. at c n ≡ 0) (children (node_at L m))
    apart m n a l =
        each_map (λ c. 0 < at c m) (λ c. at c n ≡ 0) (children (node_at L m))
        (λ c h. let k = times_two c (node_count L) n m a l in let o = f.legal.well_formed.once c in omega arith)
        (each_occurs (children (node_at L m)))

    -- the two children of a node differ
    pub two_differ : (n x y : ℕ) → n < node_count L → children (node_at L n) ≡ x ∷ y ∷ [] → x ≡ y → ⊥
    unfolding occurrences
    two_differ n x y l e q =
        let k = times_one x (node_count L) n l in
        let o = f.legal.well_formed.once x in
        let h = ap (occurrences x) e in
        omega (arith, one_same x x refl, one_same y x (sym q))
