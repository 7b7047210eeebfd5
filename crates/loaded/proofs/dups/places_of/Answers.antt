-- `places_of` meets its contract. Assumes nothing.
use mathlib.Core.Path.{refl}
use native.Mathlib.Omega.{arith}
use Rattle.policy.specs.NodeLists.{node_count}
use Rattle.loaded.proofs.Trees.{formed_alike, some}
use Rattle.loaded.proofs.Labelling.{placing_start, placing_turn, label_fits}
use Rattle.loaded.proofs.dups.places_of.Goals as goal

pub overflow_sub-places : goal.overflow_sub-places
unfolding node_count
overflow_sub-places c = let h = some _ c.requires.0 in omega arith

pub overflow_cast-places : goal.overflow_cast-places
overflow_cast-places c = let h = formed_alike c.requires.0 in omega arith

pub loop-n-init : goal.loop-n-init
unfolding node_count
loop-n-init c = (formed_alike c.requires.0, placing_start _ c.requires.0 _ refl)

pub put-requires : goal.put-requires
unfolding node_count
put-requires c = (label_fits _ c.requires.0 _ _ c.loop-n.invariant.1 c.loop-n-test.true _ c.requires.1, omega arith)

pub loop-n-preserved : goal.loop-n-preserved
unfolding node_count
loop-n-preserved c = (c.loop-n.invariant.0, placing_turn _ c.requires.0 _ _ c.loop-n.invariant.1 c.loop-n-test.true _ c.requires.1 _ c.node.ensures _ c.put.ensures)
