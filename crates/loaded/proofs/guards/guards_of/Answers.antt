-- `guards_of` meets its contract. Assumes nothing.
use mathlib.Core.Path.{refl}
use Rattle.policy.specs.NodeLists.{node_count}
use Rattle.loaded.proofs.Trees.{formed_alike, placed_read}
use Rattle.loaded.proofs.Guarding.{guarding_start, guarding_turn}
use Rattle.loaded.proofs.guards.guards_of.Goals as goal

pub loop-n-init : goal.loop-n-init
loop-n-init c = (formed_alike c.requires, guarding_start _ c.requires _ _ _ refl)

pub guard_of-requires : goal.guard_of-requires
unfolding node_count
guard_of-requires c = placed_read _ c.requires _ c.loop-n-test.true _ c.node-node.ensures

pub loop-n-preserved : goal.loop-n-preserved
unfolding node_count
loop-n-preserved c = (c.loop-n.invariant.0, guarding_turn _ c.requires _ _ _ _ c.loop-n.invariant.1 c.loop-n-test.true _ c.node-node.ensures _ c.guard_of.ensures)
