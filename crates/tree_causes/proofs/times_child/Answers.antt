-- `times_child` meets its contract: the counts are those of the nodes passed.
-- Assumes nothing.
use native.Mathlib.Omega.{arith}
use native.Mathlib.Numerals.{add-one}
use mathlib.Core.Path.{refl}
use Rattle.policy.specs.NodeLists.{node_count}
use Rattle.tree_causes.proofs.CountLaws.{none_passed, node_countable, node_passed}
use Rattle.tree_causes.proofs.times_child.Goals as goal

pub loop-i-init : goal.loop-i-init
loop-i-init c = none_passed _ _ refl

pub node-requires : goal.node-requires
unfolding node_count
node-requires c = (c.loop-i-test.true, omega (arith, c.loop-i-test.true, c.requires.firsts), omega (arith, c.loop-i-test.true, c.requires.seconds))

pub count_children-requires : goal.count_children-requires
unfolding node_count
count_children-requires c = node_countable _ c.requires _ _ c.node.ensures c.loop-i-test.true c.loop-i.invariant

pub loop-i-preserved : goal.loop-i-preserved
unfolding node_count
loop-i-preserved c = rw add-one (node_passed _ c.requires _ _ _ c.node.ensures c.loop-i-test.true c.loop-i.invariant c.count_children.ensures)
