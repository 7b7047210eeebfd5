-- `tests_alone` meets its contract. Assumes nothing.
use mathlib.Core.Path.{refl}
use native.Mathlib.Omega.{arith}
use Rattle.policy.specs.NodeLists.{node_count}
use Rattle.tree_causes.proofs.Flags.{placed_read, flagging_start, flagging_turn, flagging_end}
use Rattle.tree_causes.proofs.alone.tests_alone.Goals as goal

pub loop-n-init : goal.loop-n-init
loop-n-init c = flagging_start _ c.requires _ refl

pub node-requires : goal.node-requires
unfolding node_count
node-requires c = (c.loop-n-test.true, omega (arith, c.loop-n-test.true, c.requires.firsts), omega (arith, c.loop-n-test.true, c.requires.seconds))

pub flag_of-requires : goal.flag_of-requires
unfolding node_count
flag_of-requires c = placed_read _ c.requires _ c.loop-n-test.true _ c.node.ensures

pub bounds-alone-n : goal.bounds-alone-n
unfolding node_count
bounds-alone-n c = omega (arith, c.requires.few, c.loop-n-test.true)

pub loop-n-preserved : goal.loop-n-preserved
unfolding node_count
loop-n-preserved c = flagging_turn _ c.requires _ _ c.loop-n.invariant c.loop-n-test.true _ c.node.ensures _ c.flag_of.ensures

pub returns : goal.returns
unfolding node_count
returns c = flagging_end _ c.requires _ _ c.loop-n.invariant (omega (arith, c.loop-n-test.false))
