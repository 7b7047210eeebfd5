-- Which nodes have trees made of tests alone, as the flags of a list of 512.
use Rattle.std.specs.Prelude.{ℕ, zero, suc, ◌<◌, List, ◌≡◌, length, get_or}
use Rattle.policy.specs.declared.FieldAction.TheVariants.{Equals, Differs, Set}
use Rattle.policy.specs.declared.Node.{Node}
use Rattle.policy.specs.declared.Node.TheVariants.{Drop, Id, Field, Dup, Sum, Seq, Star, Neg}
use Rattle.policy.specs.InnerEach.{Each}
use Rattle.policy.specs.NodeLists.{NodeLists, node_count, children, one, tree_of}
use Rattle.policy.specs.Tests.{is_test}

-- the children of a node have a place in a list of 512
unfoldable pub ChildrenPlaced : Node → Type 0
ChildrenPlaced node = Each (λ c. c < 512) (children node)

-- 0 where the flag a is 0, and else b
unfoldable pub and_flag : ℕ → ℕ → ℕ
and_flag zero b = 0
and_flag (suc a) b = b

-- whether the tree of a node is made of tests alone, from the flags of its children
unfoldable pub alone_of : List ℕ → Node → ℕ
alone_of alone Drop = 1
alone_of alone Id = 1
alone_of alone (Field (Equals f v)) = 1
alone_of alone (Field (Differs f v)) = 1
alone_of alone (Field (Set f v)) = 0
alone_of alone Dup = 0
alone_of alone (Sum l r) = and_flag (get_or alone l 0) (get_or alone r 0)
alone_of alone (Seq l r) = and_flag (get_or alone l 0) (get_or alone r 0)
alone_of alone (Star c) = 0
alone_of alone (Neg c) = get_or alone c 0

-- the nodes whose trees are made of tests alone
pub record Alone (L : NodeLists) (alone : List ℕ) : Type 0 where
  pub long : length alone ≡ 512
  pub flags : (n : ℕ) → n < node_count L → get_or alone n 0 ≡ one (is_test (tree_of L n))
