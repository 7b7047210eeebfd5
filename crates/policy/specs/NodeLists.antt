-- A policy as three lists, and the tree that they stand for (document 01, "Policies").
use Rattle.std.specs.Prelude.{ℕ, zero, suc, pred, ◌+◌, Bool, true, false, List, [], ◌∷◌, ◌≡◌, length, get_or}
use Rattle.policy.specs.declared.FieldAction.TheVariants.{Equals, Differs, Set}
use Rattle.policy.specs.declared.Node.{Node}
use Rattle.policy.specs.declared.Node.TheVariants.{Drop, Id, Field, Dup, Sum, Seq, Star, Neg}
use Rattle.policy.specs.Tree.{Policy, drop, id, field, dup, sum, seq, star, neg}

pub record NodeLists : Type 0 where
  pub kind : List ℕ
  pub first : List ℕ
  pub second : List ℕ

unfoldable pub node_count : NodeLists → ℕ
node_count L = length L.kind

-- a node from its kind and its two entries; a kind over 9, which no legal policy has, reads as ⊥
unfoldable pub node_of : ℕ → ℕ → ℕ → Node
node_of zero a b = Drop
node_of (suc zero) a b = Id
node_of (suc (suc zero)) a b = Field (Equals a b)
node_of (suc (suc (suc zero))) a b = Field (Differs a b)
node_of (suc (suc (suc (suc zero)))) a b = Field (Set a b)
node_of (suc (suc (suc (suc (suc zero))))) a b = Dup
node_of (suc (suc (suc (suc (suc (suc zero)))))) a b = Sum a b
node_of (suc (suc (suc (suc (suc (suc (suc zero))))))) a b = Seq a b
node_of (suc (suc (suc (suc (suc (suc (suc (suc zero)))))))) a b = Star a
node_of (suc (suc (suc (suc (suc (suc (suc (suc (suc zero))))))))) a b = Neg a
node_of (suc (suc (suc (suc (suc (suc (suc (suc (suc (suc k)))))))))) a b = Drop

unfoldable pub node_at : NodeLists → ℕ → Node
node_at L i = node_of (get_or L.kind i 0) (get_or L.first i 0) (get_or L.second i 0)

unfoldable pub children : Node → List ℕ
children Drop = []
children Id = []
children (Field a) = []
children Dup = []
children (Sum l r) = l ∷ r ∷ []
children (Seq l r) = l ∷ r ∷ []
children (Star c) = c ∷ []
children (Neg c) = c ∷ []

unfoldable pub one : Bool → ℕ
one true = 1
one false = 0

unfoldable pub is_dup : Node → Bool
is_dup Drop = false
is_dup Id = false
is_dup (Field a) = false
is_dup Dup = true
is_dup (Sum l r) = false
is_dup (Seq l r) = false
is_dup (Star c) = false
is_dup (Neg c) = false

-- how many of the first n nodes are dup
unfoldable pub dups_below : NodeLists → ℕ → ℕ
dups_below L zero = 0
dups_below L (suc n) = dups_below L n + one (is_dup (node_at L n))

-- the tree of a node, given the trees of its children and, of a dup node, its number
unfoldable pub grow : (ℕ → Policy) → ℕ → Node → Policy
grow tree label Drop = drop
grow tree label Id = id
grow tree label (Field a) = field a
grow tree label Dup = dup label
grow tree label (Sum l r) = sum (tree l) (tree r)
grow tree label (Seq l r) = seq (tree l) (tree r)
grow tree label (Star c) = star (tree c)
grow tree label (Neg c) = neg (tree c)

-- the tree of node n, going down at most as many levels as the fuel says: any fuel above n will do
unfoldable pub tree_at : NodeLists → ℕ → ℕ → Policy
tree_at L zero n = drop
tree_at L (suc fuel) n = grow (tree_at L fuel) (dups_below L (suc n)) (node_at L n)

-- the tree of node n
unfoldable pub tree_of : NodeLists → ℕ → Policy
tree_of L n = tree_at L (suc n) n

-- the policy of the lists: the last node is the policy
unfoldable pub policy_of : NodeLists → Policy
policy_of L = tree_at L (node_count L) (pred (node_count L))

-- p is a tree of node n
unfoldable pub TreeOf : NodeLists → ℕ → Policy → Type 0
TreeOf L n drop = node_at L n ≡ Drop
TreeOf L n id = node_at L n ≡ Id
TreeOf L n (field a) = node_at L n ≡ Field a
TreeOf L n (dup i) = (node_at L n ≡ Dup) × (i ≡ dups_below L (suc n))
TreeOf L n (sum p q) = (l : ℕ) × (r : ℕ) × (node_at L n ≡ Sum l r) × TreeOf L l p × TreeOf L r q
TreeOf L n (seq p q) = (l : ℕ) × (r : ℕ) × (node_at L n ≡ Seq l r) × TreeOf L l p × TreeOf L r q
TreeOf L n (star p) = (c : ℕ) × (node_at L n ≡ Star c) × TreeOf L c p
TreeOf L n (neg p) = (c : ℕ) × (node_at L n ≡ Neg c) × TreeOf L c p
