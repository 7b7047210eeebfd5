-- `seconds_of` meets its contract: the entries of the first n nodes are there. Assumes nothing.
use native.Mathlib.Omega.{arith}
use Rattle.value_classes.proofs.Filling.{filled_none, filled_more}
use Rattle.value_classes.proofs.NodeLaws.{formed_alike, in_eight}
use Rattle.value_classes.proofs.ListLaws.{seconds_found}
use Rattle.value_classes.proofs.seconds_of.Goals as goal

pub loop-n-init : goal.loop-n-init
loop-n-init c = filled_none _ _ _ (omega arith)

pub bounds-seconds-n : goal.bounds-seconds-n
bounds-seconds-n c = omega (arith, formed_alike c.requires.0)

pub bounds-first-n : goal.bounds-first-n
bounds-first-n c = omega (arith, formed_alike c.requires.0)

pub bounds-second-n : goal.bounds-second-n
bounds-second-n c = omega (arith, formed_alike c.requires.0)

pub class_entry-requires : goal.class_entry-requires
class_entry-requires c = (c.requires.1, in_eight c.requires.0 _ (omega arith))

pub loop-n-preserved : goal.loop-n-preserved
loop-n-preserved c = filled_more _ _ _ _ _ (omega (arith, formed_alike c.requires.0)) c.loop-n.invariant c.class_entry.ensures

pub returns : goal.returns
returns c = seconds_found _ _ _ _ _ c.requires.0 (omega arith) c.loop-n.invariant
