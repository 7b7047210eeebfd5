-- `classes_of` meets its contract: the classes of the fields below f are there. Assumes nothing.
use Rattle.value_classes.proofs.Filling.{Filled}
use Rattle.value_classes.proofs.ListLaws.{ClassAt}
use Rattle.value_classes.proofs.classes_of.Given as goal

abbrev pub invariant-loop-f : goal.invariant-loop-f
invariant-loop-f l = Filled (ClassAt l.keys l.starts l.values) 8 l.f l.classes
