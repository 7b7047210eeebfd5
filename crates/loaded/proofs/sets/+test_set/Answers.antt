-- `test_set` meets its contract, case by case. Assumes nothing.
use mathlib.Core.Path.{refl}
use native.Mathlib.Omega.{arith}
use Rattle.loaded.proofs.Trees.{in_lists}
use Rattle.loaded.proofs.Testing.{formed, empty_node, id_node, field_node, sum_node, seq_node, neg_node, action_declared, sum_parts, seq_parts, negated_part}
use Rattle.loaded.proofs.sets.+test_set.Goals as goal

pub node-requires : goal.node-requires
node-requires t c = in_lists _ (formed _ _ _ _ c.requires.0) _ c.requires.1.within

pub field_set-requires : goal.field_set-requires
field_set-requires t c = action_declared _ _ _ _ c.requires.0 _ c.requires.1 _ c.node.ensures _ c.in-Field.is

pub test_set-set-requires : goal.test_set-set-requires
test_set-set-requires t c = let h = sum_parts _ _ _ _ c.requires.0 _ c.requires.1 _ c.node.ensures _ _ c.in-Sum.is in (omega (arith, h.2, c.decreases), (c.requires.0, rw c.from.ensures h.0))

pub test_set-other-requires : goal.test_set-other-requires
test_set-other-requires t c = let h = sum_parts _ _ _ _ c.requires.0 _ c.requires.1 _ c.node.ensures _ _ c.in-Sum.is in (omega (arith, h.3, c.decreases), (c.requires.0, rw c.from-in-Sum.ensures h.1))

pub test_set-set-requires-in-Seq : goal.test_set-set-requires-in-Seq
test_set-set-requires-in-Seq t c = let h = seq_parts _ _ _ _ c.requires.0 _ c.requires.1 _ c.node.ensures _ _ c.in-Seq.is in (omega (arith, h.2, c.decreases), (c.requires.0, rw c.from-in-Seq.ensures h.0))

pub test_set-other-requires-in-Seq : goal.test_set-other-requires-in-Seq
test_set-other-requires-in-Seq t c = let h = seq_parts _ _ _ _ c.requires.0 _ c.requires.1 _ c.node.ensures _ _ c.in-Seq.is in (omega (arith, h.3, c.decreases), (c.requires.0, rw c.from-in-Seq-2.ensures h.1))

pub test_set-rest-requires : goal.test_set-rest-requires
test_set-rest-requires t c = let h = negated_part _ _ _ _ c.requires.0 _ c.requires.1 _ c.node.ensures _ c.in-Neg.is in (omega (arith, h.1, c.decreases), (c.requires.0, rw c.from-in-Neg.ensures h.0))

pub returns-in-Drop : goal.returns-in-Drop
returns-in-Drop t c = empty_node _ _ _ _ c.requires.0 _ c.requires.1 _ c.node.ensures _ c.in-Drop.is c.empty.ensures

pub returns-in-Id : goal.returns-in-Id
returns-in-Id t c = id_node _ _ _ _ c.requires.0 _ c.requires.1 _ c.node.ensures _ c.in-Id.is refl

pub returns-in-Field : goal.returns-in-Field
returns-in-Field t c = field_node _ _ _ _ c.requires.0 _ c.requires.1 _ c.node.ensures _ _ c.in-Field.is c.field_set.ensures

pub returns-in-Sum : goal.returns-in-Sum
returns-in-Sum t c = sum_node _ _ _ _ c.requires.0 _ c.requires.1 _ c.node.ensures _ _ _ _ _ (rw c.from.ensures at c.test_set-set.ensures) (rw c.from-in-Sum.ensures at c.test_set-other.ensures) c.in-Sum.is c.union.ensures

pub returns-in-Seq : goal.returns-in-Seq
returns-in-Seq t c = seq_node _ _ _ _ c.requires.0 _ c.requires.1 _ c.node.ensures _ _ _ _ _ (rw c.from-in-Seq.ensures at c.test_set-set-in-Seq.ensures) (rw c.from-in-Seq-2.ensures at c.test_set-other-in-Seq.ensures) c.in-Seq.is c.intersect.ensures

pub returns-in-Neg : goal.returns-in-Neg
returns-in-Neg t c = neg_node _ _ _ _ c.requires.0 _ c.requires.1 _ c.node.ensures _ _ _ (rw c.from-in-Neg.ensures at c.test_set-rest.ensures) c.in-Neg.is c.exclusive_or.ensures
