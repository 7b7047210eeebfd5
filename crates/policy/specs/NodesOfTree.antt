-- The nodes of a tree, numbered children first, left before right (document 01, "Text").
use Rattle.std.specs.Prelude.{ℕ, pred, ◌+◌, List, [], ◌∷◌, ◌++◌, map}
use Rattle.policy.specs.declared.FieldAction.{FieldAction}
use Rattle.policy.specs.declared.FieldAction.TheVariants.{Equals, Differs, Set}
use Rattle.policy.specs.Tree.{Policy, drop, id, field, dup, sum, seq, star, neg}
use Rattle.policy.specs.NodeLists.{NodeLists}

-- one node as its numbers
pub record NodeEntry : Type 0 where
  pub kind : ℕ
  pub first : ℕ
  pub second : ℕ

unfoldable pub node_entry : ℕ → ℕ → ℕ → NodeEntry
node_entry kind first second = record { kind = kind; first = first; second = second }

unfoldable pub action_entry : FieldAction → NodeEntry
action_entry (Equals f v) = node_entry 2 f v
action_entry (Differs f v) = node_entry 3 f v
action_entry (Set f v) = node_entry 4 f v

-- how many nodes a tree has
unfoldable pub tree_size : Policy → ℕ
tree_size drop = 1
tree_size id = 1
tree_size (field a) = 1
tree_size (dup i) = 1
tree_size (sum p q) = tree_size p + tree_size q + 1
tree_size (seq p q) = tree_size p + tree_size q + 1
tree_size (star p) = tree_size p + 1
tree_size (neg p) = tree_size p + 1

-- the nodes of a tree whose first node has the number base
unfoldable pub entries_from : ℕ → Policy → List NodeEntry
entries_from base drop = node_entry 0 0 0 ∷ []
entries_from base id = node_entry 1 0 0 ∷ []
entries_from base (field a) = action_entry a ∷ []
entries_from base (dup i) = node_entry 5 0 0 ∷ []
entries_from base (sum p q) =
    entries_from base p ++ entries_from (base + tree_size p) q ++ node_entry 6 (pred (base + tree_size p)) (pred (base + tree_size p + tree_size q)) ∷ []
entries_from base (seq p q) =
    entries_from base p ++ entries_from (base + tree_size p) q ++ node_entry 7 (pred (base + tree_size p)) (pred (base + tree_size p + tree_size q)) ∷ []
entries_from base (star p) = entries_from base p ++ node_entry 8 (pred (base + tree_size p)) 0 ∷ []
entries_from base (neg p) = entries_from base p ++ node_entry 9 (pred (base + tree_size p)) 0 ∷ []

unfoldable pub lists_of : List NodeEntry → NodeLists
lists_of es =
    record { kind = map (λ (e : NodeEntry). e.kind) es; first = map (λ (e : NodeEntry). e.first) es; second = map (λ (e : NodeEntry). e.second) es }

unfoldable pub nodes_of : Policy → NodeLists
nodes_of p = lists_of (entries_from 0 p)

-- the tree without its dups' numbers
unfoldable pub unlabelled : Policy → Policy
unlabelled drop = drop
unlabelled id = id
unlabelled (field a) = field a
unlabelled (dup i) = dup 0
unlabelled (sum p q) = sum (unlabelled p) (unlabelled q)
unlabelled (seq p q) = seq (unlabelled p) (unlabelled q)
unlabelled (star p) = star (unlabelled p)
unlabelled (neg p) = neg (unlabelled p)
