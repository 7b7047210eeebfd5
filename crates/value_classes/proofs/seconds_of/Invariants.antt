-- `seconds_of` meets its contract: the entries of the first n nodes are there. Assumes nothing.
use Rattle.policy.specs.AsLists.{as_lists}
use Rattle.value_classes.proofs.Filling.{Filled}
use Rattle.value_classes.proofs.ListLaws.{EntryAt}
use Rattle.value_classes.proofs.seconds_of.Given as goal

abbrev pub invariant-loop-n : goal.invariant-loop-n
invariant-loop-n l = Filled (EntryAt l.keys l.starts (as_lists l.kind l.first l.second)) 512 l.n l.seconds
