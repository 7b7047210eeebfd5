-- `labels_of` meets its contract. Assumes nothing.
use mathlib.Core.Path.{refl}
use Rattle.policy.specs.NodeLists.{node_count}
use Rattle.loaded.proofs.Trees.{formed_alike}
use Rattle.loaded.proofs.Labelling.{counting_start, count_small, counting_turn}
use Rattle.loaded.proofs.dups.labels_of.Goals as goal

pub loop-n-init : goal.loop-n-init
loop-n-init c = (formed_alike c.requires, counting_start _ c.requires _ refl)

pub label_after-d-requires : goal.label_after-d-requires
label_after-d-requires c = count_small _ c.requires _ _ _ c.loop-n.invariant.1

pub loop-n-preserved : goal.loop-n-preserved
unfolding node_count
loop-n-preserved c = (c.loop-n.invariant.0, counting_turn _ c.requires _ _ _ c.loop-n.invariant.1 c.loop-n-test.true _ c.node.ensures _ c.label_after-d.ensures)
