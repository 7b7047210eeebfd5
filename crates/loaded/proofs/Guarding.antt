-- The guards of the nodes, and the flags of second parts.
use Prim.Native.Nat.{ℕ, zero, suc, ◌+◌, ◌≤◌, ◌<◌}
use mathlib.Core.List.{List}
use mathlib.Core.Path.{◌≡◌, refl, sym, ap, ap₂, ◌∙◌, subst}
use native.Mathlib.Decide.{ℕ_discrete}
use native.Mathlib.Omega.{arith}
use lib.ListN.{length, get_or, set, replicate, length-set}
use lib.Seq.{get_or-set_same, get_or-set_other}
use Rattle.policy.specs.declared.Node.{Node}
use Rattle.policy.specs.declared.Node.TheVariants.{Drop, Id, Field, Dup, Sum, Seq, Star, Neg}
use Rattle.policy.specs.InnerEach.{Each}
use Rattle.policy.specs.NodeLists.{NodeLists, node_count, node_at, children}
use Rattle.policy.proofs.EachLaws.{each_map}
use Rattle.loaded.specs.Loading.{Formed, guard_of, Flags, seconded}
use Rattle.loaded.proofs.Bounds.{replicate_le, set_le}
use Rattle.loaded.proofs.Trees.{below, small}

-- ---- guards

pub guard_flag : (guards : List ℕ) (f k : ℕ) (node : Node) → (f ≡ 0 → ⊥) → k ≡ guard_of guards f k node
unfolding guard_of
guard_flag guards zero k node h = absurd (h refl)
guard_flag guards (suc f) k node h = refl

pub guard_is : (guards : List ℕ) (f k : ℕ) (node d : Node) → f ≡ 0 → node ≡ d → guard_of guards 0 k d ≡ guard_of guards f k node
guard_is guards f k node d z e = sym (ap₂ (λ (f : ℕ) (x : Node). guard_of guards f k x) z e)

-- of a node that is no sequence
pub guard_none : (guards : List ℕ) (f k : ℕ) (node : Node) → f ≡ 0 → ((l r : ℕ) → node ≡ Seq l r → ⊥) → 0 ≡ guard_of guards f k node
unfolding guard_of
guard_none guards (suc f) k node z h = absurd (omega arith)
guard_none guards zero k Drop z h = refl
guard_none guards zero k Id z h = refl
guard_none guards zero k (Field a) z h = refl
guard_none guards zero k Dup z h = refl
guard_none guards zero k (Sum x y) z h = refl
guard_none guards zero k (Seq x y) z h = absurd (h x y refl)
guard_none guards zero k (Star x) z h = refl
guard_none guards zero k (Neg x) z h = refl

-- a guard reads no entry but those of children
guard_kept : (guards : List ℕ) (n v f k : ℕ) (d : Node) → Each (λ c. c < n) (children d) → guard_of (set guards n v) f k d ≡ guard_of guards f k d
unfolding guard_of children Each
guard_kept guards n v (suc f) k d h = refl
guard_kept guards n v zero k Drop h = refl
guard_kept guards n v zero k Id h = refl
guard_kept guards n v zero k (Field a) h = refl
guard_kept guards n v zero k Dup h = refl
guard_kept guards n v zero k (Sum x y) h = refl
guard_kept guards n v zero k (Seq x y) h = get_or-set_other guards n x v 0 (let b = h.0 in omega arith)
guard_kept guards n v zero k (Star x) h = refl
guard_kept guards n v zero k (Neg x) h = refl

-- the guards of the first n nodes are known
pub record Guarding (L : NodeLists) (alone sets guards : List ℕ) (n : ℕ) : Type 0 where
  pub at : n ≤ node_count L
  pub long : length guards ≡ 512
  pub done : (j : ℕ) → j < n → get_or guards j 0 ≡ guard_of guards (get_or alone j 0) (get_or sets j 0) (node_at L j)

module _ (L : NodeLists) (f : Formed L) (alone sets : List ℕ) where
  pub guarding_start : (guards : List ℕ) → length guards ≡ 512 → Guarding L alone sets guards 0
  guarding_start guards l = record { at = omega arith; long = l; done = λ j h. absurd (omega arith) }

  module _ (guards : List ℕ) (n : ℕ) (m : Guarding L alone sets guards n) where
    pub guarding_turn : n < node_count L → (node : Node) → node ≡ node_at L n → (v : ℕ) → v ≡ guard_of guards (get_or alone n 0) (get_or sets n 0) node → Guarding L alone sets (set guards n v) (n + 1)
    guarding_turn l node en v ev = record {
      at = omega arith;
      long = length-set guards n v ∙ m.long;
      done = λ j h. split j h (ℕ_discrete j n);
    }
      where
        kept : (j : ℕ) → j ≤ n → guard_of (set guards n v) (get_or alone j 0) (get_or sets j 0) (node_at L j) ≡ guard_of guards (get_or alone j 0) (get_or sets j 0) (node_at L j)
        kept j h = guard_kept guards n v (get_or alone j 0) (get_or sets j 0) (node_at L j) (each_map (λ c. c < j) (λ c. c < n) (children (node_at L j)) (λ c q. omega arith) (below L f j (omega arith)))

        split : (j : ℕ) → j < n + 1 → Dec (j ≡ n) → get_or (set guards n v) j 0 ≡ guard_of (set guards n v) (get_or alone j 0) (get_or sets j 0) (node_at L j)
        split j h (yes e) =
            subst (λ (x : ℕ). get_or (set guards n v) x 0 ≡ guard_of (set guards n v) (get_or alone x 0) (get_or sets x 0) (node_at L x)) (sym e)
            (get_or-set_same guards n v 0 (let q = small L f n l in omega (arith, m.long)) ∙ ev ∙ ap (guard_of guards (get_or alone n 0) (get_or sets n 0)) en ∙ sym (kept n (omega arith)))
        split j h (no e) = get_or-set_other guards n j v 0 e ∙ m.done j (omega arith) ∙ sym (kept j (omega arith))

-- ---- second parts

pub seconded_is : (parts : List ℕ) (node d : Node) → node ≡ d → seconded parts d ≡ seconded parts node
seconded_is parts node d e = sym (ap (seconded parts) e)

-- a node that is no sequence flags none
pub seconded_none : (parts : List ℕ) (node : Node) → ((l r : ℕ) → node ≡ Seq l r → ⊥) → parts ≡ seconded parts node
unfolding seconded
seconded_none parts Drop h = refl
seconded_none parts Id h = refl
seconded_none parts (Field a) h = refl
seconded_none parts Dup h = refl
seconded_none parts (Sum x y) h = refl
seconded_none parts (Seq x y) h = absurd (h x y refl)
seconded_none parts (Star x) h = refl
seconded_none parts (Neg x) h = refl

pub no_seconds : (parts : List ℕ) → parts ≡ replicate 512 0 → Flags parts
unfolding Flags
no_seconds parts e n = let h = replicate_le 512 n 0 in subst (λ (x : List ℕ). get_or x n 0 ≤ 1) (sym e) (omega arith)

pub more_seconds : (parts : List ℕ) (node : Node) → Flags parts → (parts' : List ℕ) → parts' ≡ seconded parts node → Flags parts'
unfolding Flags seconded
more_seconds parts node h parts' e = subst (λ (x : List ℕ). (n : ℕ) → get_or x n 0 ≤ 1) (sym e) (go node)
  where
    go : (d : Node) → (n : ℕ) → get_or (seconded parts d) n 0 ≤ 1
    go Drop = h
    go Id = h
    go (Field a) = h
    go Dup = h
    go (Sum x y) = h
    go (Seq x y) = set_le parts y 1 1 (omega arith) h
    go (Star x) = h
    go (Neg x) = h
