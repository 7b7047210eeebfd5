-- `show` meets its contract: the fields below f show their values, the others have their classes. Assumes nothing.
use lib.ListN.{length}
use Rattle.value_classes.proofs.Filling.{Filled, Kept}
use Rattle.value_classes.proofs.ListLaws.{ShownAt}
use Rattle.value_classes.proofs.show.Given as goal

abbrev pub invariant-loop-f : goal.invariant-loop-f
invariant-loop-f l = Filled (ShownAt l.keys l.starts l.initial.values) (length l.initial.values) l.f l.values × Kept l.f l.initial.values l.values
