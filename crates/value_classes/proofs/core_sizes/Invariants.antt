-- `core_sizes` meets its contract: the class counts of the fields below f are there. Assumes nothing.
use Rattle.value_classes.proofs.Filling.{Filled}
use Rattle.value_classes.proofs.FieldLaws.{CountAt}
use Rattle.value_classes.proofs.core_sizes.Given as goal

abbrev pub invariant-loop-f : goal.invariant-loop-f
invariant-loop-f l = Filled (CountAt l.sizes l.starts) 8 l.f l.core
