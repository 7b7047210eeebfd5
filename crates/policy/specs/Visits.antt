-- The nodes that stand in the tree of a node, and the labels of a tree's dups.
use Rattle.std.specs.Prelude.{ℕ, zero, suc, ◌<◌, ◌≤◌, List, [], ◌∷◌, ◌++◌}
use Rattle.policy.specs.Tree.{Policy, drop, id, field, dup, sum, seq, star, neg}
use Rattle.policy.specs.NodeLists.{NodeLists, node_at, children}
use Rattle.policy.specs.Legality.{occurrences}

-- the lists of all the elements, joined
unfoldable pub joined : (ℕ → List ℕ) → List ℕ → List ℕ
joined f [] = []
joined f (c ∷ cs) = f c ++ joined f cs

-- the nodes met on a walk through the tree of node n: the node, then the walks through its children. Fuel as for `tree_at`
unfoldable pub visit : NodeLists → ℕ → ℕ → List ℕ
visit L zero n = []
visit L (suc fuel) n = n ∷ joined (visit L fuel) (children (node_at L n))

-- how often node j stands in the tree of node n
unfoldable pub times_in : NodeLists → ℕ → ℕ → ℕ
times_in L n j = occurrences j (visit L (suc n) n)

-- node j stands in the tree of node n
unfoldable pub InTree : NodeLists → ℕ → ℕ → Type 0
InTree L n j = 0 < times_in L n j

-- the labels of the dups of a tree, from the left
unfoldable pub labels : Policy → List ℕ
labels drop = []
labels id = []
labels (field a) = []
labels (dup i) = i ∷ []
labels (sum p q) = labels p ++ labels q
labels (seq p q) = labels p ++ labels q
labels (star p) = labels p
labels (neg p) = labels p

-- dup i stands in the policy
abbrev pub HasDup : Policy → ℕ → Type 0
HasDup p i = 0 < occurrences i (labels p)

-- no two dups have the same label, and each label is between 1 and k
pub record Labelled (k : ℕ) (p : Policy) : Type 0 where
  pub distinct : (i : ℕ) → occurrences i (labels p) ≤ 1
  pub least : (i : ℕ) → HasDup p i → 1 ≤ i
  pub most : (i : ℕ) → HasDup p i → i ≤ k
