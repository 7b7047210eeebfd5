-- `bad_child` meets its contract: below `i` each node's children are below it.
-- Assumes nothing.
use native.Mathlib.Omega.{arith}
use native.Mathlib.Numerals.{add-one}
use mathlib.Core.Path.{refl, sym}
use Rattle.packet.specs.Lowest.{lowest}
use Rattle.packet.proofs.Lowest.{lowest_more, lowest_found}
use Rattle.policy.specs.NodeLists.{node_count}
use Rattle.node_causes.proofs.CauseLaws.{bad_child_at}
use Rattle.node_causes.proofs.bad_child.Goals as goal

pub loop-i-init : goal.loop-i-init
unfolding lowest
loop-i-init c = refl

pub node-requires : goal.node-requires
unfolding node_count
node-requires c = (c.loop-i-test.true, omega (arith, c.loop-i-test.true, c.requires.firsts), omega (arith, c.loop-i-test.true, c.requires.seconds))

pub returns-then-child_not_below : goal.returns-then-child_not_below
returns-then-child_not_below c = sym (lowest_found _ _ _ c.loop-i.invariant (bad_child_at _ _ c.node.ensures c.child_not_below.ensures c.if-child_not_below.true) c.loop-i-test.true)

pub loop-i-preserved : goal.loop-i-preserved
loop-i-preserved c = rw add-one (lowest_more _ _ c.loop-i.invariant (bad_child_at _ _ c.node.ensures c.child_not_below.ensures c.if-child_not_below.false))
