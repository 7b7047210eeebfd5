-- Fields that nobody mentions (document 02, A.6), and the sizes over which packets are numbered.
use Rattle.std.specs.Prelude.{ℕ, zero, suc, Bool, false, cond, ◌||◌, List, [], ◌∷◌, eqb}
use Rattle.policy.specs.declared.Node.{Node}
use Rattle.policy.specs.declared.Node.TheVariants.{Drop, Id, Field, Dup, Sum, Seq, Star, Neg}
use Rattle.policy.specs.NodeLists.{NodeLists, node_count, node_at}
use Rattle.policy.specs.Legality.{field_of}

-- the node is a test or change of field f: kind 2, 3 or 4
unfoldable pub is_of_field : ℕ → Node → Bool
is_of_field f Drop = false
is_of_field f Id = false
is_of_field f (Field a) = eqb (field_of a) f
is_of_field f Dup = false
is_of_field f (Sum l r) = false
is_of_field f (Seq l r) = false
is_of_field f (Star c) = false
is_of_field f (Neg c) = false

-- a test or change of field f is among the first n nodes
unfoldable pub mentioned_below : NodeLists → ℕ → ℕ → Bool
mentioned_below L f zero = false
mentioned_below L f (suc n) = mentioned_below L f n || is_of_field f (node_at L n)

-- "a field is mentioned if a test or change of it stands in either policy": in one of the policies, however many there are
unfoldable pub mentioned : List NodeLists → ℕ → Bool
mentioned [] f = false
mentioned (L ∷ Ls) f = mentioned_below L f (node_count L) || mentioned Ls f

-- the sizes of the fields from f on, 1 for each that is not mentioned
unfoldable pub core_from : List NodeLists → ℕ → List ℕ → List ℕ
core_from Ls f [] = []
core_from Ls f (s ∷ ss) = cond (mentioned Ls f) s 1 ∷ core_from Ls (suc f) ss

-- The core sizes: their product is N, and rows and traces number packets over them. A field of size 1 counts for nothing, so that these are the
-- numbers over the mentioned fields in their order (`classes` `mentioned_count`, `mentioned_number`).
unfoldable pub core_sizes : List NodeLists → List ℕ → List ℕ
core_sizes Ls sizes = core_from Ls 0 sizes
