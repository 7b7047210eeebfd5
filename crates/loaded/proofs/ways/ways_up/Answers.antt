-- `ways_up` meets its contract. Assumes nothing.
use mathlib.Core.Path.{refl}
use native.Mathlib.Omega.{arith}
use Rattle.policy.specs.NodeLists.{node_count}
use Rattle.loaded.proofs.Trees.{formed_alike, placed_read}
use Rattle.loaded.proofs.Upward.{telling_start, telling_turn, telling_end}
use Rattle.loaded.proofs.ways.ways_up.Goals as goal

pub loop-n-init : goal.loop-n-init
unfolding node_count
loop-n-init c = (formed_alike c.requires.0, telling_start _ c.requires.0 _ refl _ refl)

pub tell-requires : goal.tell-requires
unfolding node_count
tell-requires c = (placed_read _ c.requires.0 _ (omega arith) _ c.node.ensures, omega arith)

pub loop-n-preserved : goal.loop-n-preserved
unfolding node_count
loop-n-preserved c = (c.loop-n.invariant.0, telling_turn _ c.requires.0 _ _ c.loop-n.invariant.1 _ (omega (arith, c.loop-n-test.true)) _ c.requires.1 _ c.node.ensures _ c.tell.ensures)

pub returns : goal.returns
unfolding node_count
returns c = telling_end _ c.requires.0 _ _ c.loop-n.invariant.1 c.loop-n-test.false
