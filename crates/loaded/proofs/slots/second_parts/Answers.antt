-- `second_parts` meets its contract. Assumes nothing.
use mathlib.Core.Path.{refl}
use Rattle.policy.specs.NodeLists.{node_count}
use Rattle.loaded.proofs.Trees.{formed_alike, placed_read}
use Rattle.loaded.proofs.Guarding.{no_seconds, more_seconds}
use Rattle.loaded.proofs.slots.second_parts.Goals as goal

pub loop-n-init : goal.loop-n-init
loop-n-init c = (formed_alike c.requires, no_seconds _ refl)

pub flag_second-requires : goal.flag_second-requires
unfolding node_count
flag_second-requires c = placed_read _ c.requires _ c.loop-n-test.true _ c.node.ensures

pub loop-n-preserved : goal.loop-n-preserved
loop-n-preserved c = (c.loop-n.invariant.0, more_seconds _ _ c.loop-n.invariant.1 _ c.flag_second.ensures)

pub returns : goal.returns
returns c = c.loop-n.invariant.1
