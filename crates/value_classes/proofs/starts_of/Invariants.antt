-- `starts_of` meets its contract: the starts of the fields so far are there. Assumes nothing.
use Rattle.value_classes.proofs.Filling.{Filled}
use Rattle.value_classes.proofs.FieldLaws.{StartAt}
use Rattle.value_classes.proofs.starts_of.Given as goal

abbrev pub invariant-loop-field : goal.invariant-loop-field
invariant-loop-field l = Filled (StartAt l.keys) 9 l.field l.starts
