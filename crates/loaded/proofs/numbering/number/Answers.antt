-- `number` meets its contract. Assumes nothing.
use mathlib.Core.Path.{refl}
use Rattle.policy.specs.NodeLists.{node_count}
use Rattle.loaded.proofs.Trees.{formed_alike, placed_read}
use Rattle.loaded.proofs.Testing.{formed}
use Rattle.loaded.proofs.Giving.{giving_start, give_ready, giving_turn, root_ready, giving_end}
use Rattle.loaded.proofs.numbering.number.Goals as goal

pub loop-n-init : goal.loop-n-init
loop-n-init c = (formed_alike (formed _ _ _ _ c.requires.0), giving_start _ _ (formed _ _ _ _ c.requires.0) _ _ refl c.requires.2)

pub test_under-node-requires : goal.test_under-node-requires
unfolding node_count
test_under-node-requires c = placed_read _ (formed _ _ _ _ c.requires.0) _ c.loop-n-test.true _ c.node.ensures

pub give-k-requires : goal.give-k-requires
unfolding node_count
give-k-requires c = (c.requires.0, c.loop-n.invariant.1.ready.room, give_ready _ _ (formed _ _ _ _ c.requires.0) _ _ _ _ c.loop-n.invariant.1 _ c.requires.1 c.loop-n-test.true _ c.node.ensures _ c.test_under-node.ensures)

pub loop-n-preserved : goal.loop-n-preserved
unfolding node_count
loop-n-preserved c = (c.loop-n.invariant.0, giving_turn _ _ (formed _ _ _ _ c.requires.0) _ _ _ _ c.loop-n.invariant.1 _ c.requires.1 c.loop-n-test.true _ c.node.ensures _ c.test_under-node.ensures _ _ _ c.give-k.ensures)

pub give-requires : goal.give-requires
unfolding node_count
give-requires c = (c.requires.0, c.loop-n.invariant.1.ready.room, root_ready _ _ (formed _ _ _ _ c.requires.0) _ _ _ _ c.loop-n.invariant.1 _ c.requires.1 c.loop-n-test.false _ refl _ c.pick_test-root.ensures)

pub returns : goal.returns
unfolding node_count
returns c = giving_end _ _ (formed _ _ _ _ c.requires.0) _ _ _ _ c.loop-n.invariant.1 _ c.requires.1 c.loop-n-test.false _ refl _ c.pick_test-root.ensures _ _ _ c.give.ensures
