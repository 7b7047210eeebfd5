-- Policies made of tests alone (document 02, A.1): what may be negated.
use Rattle.std.specs.Prelude.{Bool, true, false, not, ◌&&◌, ◌||◌}
use Rattle.policy.specs.declared.FieldAction.TheVariants.{Equals, Differs, Set}
use Rattle.policy.specs.declared.Node.{Node}
use Rattle.policy.specs.declared.Node.TheVariants.{Drop, Id, Field, Dup, Sum, Seq, Star, Neg}
use Rattle.policy.specs.Tree.{Policy, drop, id, field, dup, sum, seq, star, neg}
use Rattle.policy.specs.Meaning.{Packets}

-- built from ⊥, ⊤, tests of fields, sums, sequences and negations only: kinds 0 to 3, 6, 7 and 9
unfoldable pub is_test : Policy → Bool
is_test drop = true
is_test id = true
is_test (field (Equals f v)) = true
is_test (field (Differs f v)) = true
is_test (field (Set f v)) = false
is_test (dup i) = false
is_test (sum p q) = is_test p && is_test q
is_test (seq p q) = is_test p && is_test q
is_test (star p) = false
is_test (neg p) = is_test p

-- a node of kind 4, 5 or 8: it stands in no test
unfoldable pub not_in_tests : Node → Bool
not_in_tests Drop = false
not_in_tests Id = false
not_in_tests (Field (Equals f v)) = false
not_in_tests (Field (Differs f v)) = false
not_in_tests (Field (Set f v)) = true
not_in_tests Dup = true
not_in_tests (Sum l r) = false
not_in_tests (Seq l r) = false
not_in_tests (Star c) = true
not_in_tests (Neg c) = false

-- what stands under a negation is made of tests alone
unfoldable pub negates_tests : Policy → Bool
negates_tests drop = true
negates_tests id = true
negates_tests (field a) = true
negates_tests (dup i) = true
negates_tests (sum p q) = negates_tests p && negates_tests q
negates_tests (seq p q) = negates_tests p && negates_tests q
negates_tests (star p) = negates_tests p
negates_tests (neg p) = is_test p

-- the packet passes the test; of a policy that is no test this says nothing
unfoldable pub passes : (P : Packets) → Policy → P.Packet → Bool
passes P drop α = false
passes P id α = true
passes P (field (Equals f v)) α = P.has f v α
passes P (field (Differs f v)) α = not (P.has f v α)
passes P (field (Set f v)) α = false
passes P (dup i) α = false
passes P (sum p q) α = passes P p α || passes P q α
passes P (seq p q) α = passes P p α && passes P q α
passes P (star p) α = false
passes P (neg p) α = not (passes P p α)
