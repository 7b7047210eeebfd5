-- `classes_of` meets its contract: the classes of the fields below f are there. Assumes nothing.
use native.Mathlib.Omega.{arith}
use Rattle.value_classes.proofs.Filling.{filled_none, filled_more}
use Rattle.value_classes.proofs.ListLaws.{classes_found}
use Rattle.value_classes.proofs.classes_of.Goals as goal

pub loop-f-init : goal.loop-f-init
loop-f-init c = filled_none _ _ _ (omega arith)

pub class_of-requires : goal.class_of-requires
class_of-requires c = (c.requires.0, omega arith)

pub loop-f-preserved : goal.loop-f-preserved
loop-f-preserved c = filled_more _ _ _ _ _ (omega arith) c.loop-f.invariant c.class_of.ensures

pub returns : goal.returns
returns c = classes_found _ _ _ _ _ c.requires.1 (omega arith) c.loop-f.invariant
