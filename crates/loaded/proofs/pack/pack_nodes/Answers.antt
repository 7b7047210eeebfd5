-- `pack_nodes` meets its contract. Assumes nothing.
use native.Mathlib.Omega.{arith}
use Rattle.policy.specs.NodeLists.{node_count}
use Rattle.loaded.specs.Loading.{Flags}
use Rattle.loaded.proofs.Trees.{formed_alike}
use Rattle.loaded.proofs.Writing.{kind_small, star_keeps, writing_start, writing_turn}
use Rattle.loaded.proofs.pack.pack_nodes.Goals as goal

pub loop-n-init : goal.loop-n-init
loop-n-init c = (formed_alike c.requires.0.formed, writing_start _ _ _ _ _ _)

pub keeps_slot-keeps-requires : goal.keeps_slot-keeps-requires
unfolding Flags
keeps_slot-keeps-requires c = c.requires.0.seconds _

pub packed_node-requires : goal.packed_node-requires
unfolding node_count
packed_node-requires c = let k = kind_small _ c.requires.0.formed _ c.loop-n-test.true in (omega arith, c.requires.0.sets _ c.loop-n-test.true, c.requires.0.flags _ c.loop-n-test.true, c.requires.0.numbers _ c.loop-n-test.true, c.requires.0.ways _ c.loop-n-test.true, omega (arith, c.keeps_slot-keeps.ensures.0))

pub loop-n-preserved : goal.loop-n-preserved
unfolding node_count
loop-n-preserved c = (c.loop-n.invariant.0, writing_turn _ _ _ _ _ _ _ _ c.loop-n.invariant.1 c.requires.0.formed c.requires.1 c.loop-n-test.true _ c.keeps_slot-keeps.ensures.0 (star_keeps c.node-node.ensures c.keeps_slot-keeps.ensures.1) (omega arith) (omega arith) _ c.packed_node.ensures)
