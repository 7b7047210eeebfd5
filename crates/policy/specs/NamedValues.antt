-- The values that policies name, and how many classes they make of each field's values (document 02, A.7). Nothing uses it yet: packets are numbered over
-- the core sizes of `Mentions`.
use Rattle.std.specs.Prelude.{ℕ, zero, suc, cond, List, [], ◌∷◌, eqb, ltb, length}
use Rattle.policy.specs.declared.Node.{Node}
use Rattle.policy.specs.declared.Node.TheVariants.{Drop, Id, Field, Dup, Sum, Seq, Star, Neg}
use Rattle.policy.specs.NodeLists.{NodeLists, node_count, node_at}
use Rattle.policy.specs.Legality.{field_of, value_of}

-- v in its place among ascending values, once
unfoldable pub insert : ℕ → List ℕ → List ℕ
insert v [] = v ∷ []
insert v (w ∷ ws) = cond (ltb v w) (v ∷ w ∷ ws) (cond (eqb v w) (w ∷ ws) (w ∷ insert v ws))

-- values of field f, with that of the node if it is a test or change of f: kind 2, 3 or 4
unfoldable pub with_node : ℕ → Node → List ℕ → List ℕ
with_node f Drop vs = vs
with_node f Id vs = vs
with_node f (Field a) vs = cond (eqb (field_of a) f) (insert (value_of a) vs) vs
with_node f Dup vs = vs
with_node f (Sum l r) vs = vs
with_node f (Seq l r) vs = vs
with_node f (Star c) vs = vs
with_node f (Neg c) vs = vs

-- values of field f, with those that the first n nodes name
unfoldable pub named_below : NodeLists → ℕ → ℕ → List ℕ → List ℕ
named_below L f zero vs = vs
named_below L f (suc n) vs = with_node f (node_at L n) (named_below L f n vs)

-- "the values named in either policy, ascending": in one of the policies, however many there are; none of a field that nobody mentions
unfoldable pub named_values : List NodeLists → ℕ → List ℕ
named_values [] f = []
named_values (L ∷ Ls) f = named_below L f (node_count L) (named_values Ls f)

-- the classes of a field with so many values: the named values "are classes of their own; all others together are one last class if any exist"
unfoldable pub class_count : ℕ → List ℕ → ℕ
class_count size names = cond (ltb (length names) size) (suc (length names)) (length names)

-- the class counts of the fields from f on, which have these sizes
unfoldable pub core_from : List NodeLists → ℕ → List ℕ → List ℕ
core_from Ls f [] = []
core_from Ls f (s ∷ ss) = class_count s (named_values Ls f) ∷ core_from Ls (suc f) ss

-- The core sizes by classes, which are the class counts: A.7 takes their product for N, and numbers packets over them. A field that nobody mentions has one class
-- and counts for nothing.
unfoldable pub core_sizes : List NodeLists → List ℕ → List ℕ
core_sizes Ls sizes = core_from Ls 0 sizes
