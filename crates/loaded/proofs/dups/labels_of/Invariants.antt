-- `labels_of` meets its contract. Assumes nothing.
use Rattle.policy.specs.AsLists.{lists_of}
use Rattle.loaded.proofs.Trees.{Alike}
use Rattle.loaded.proofs.Labelling.{Counting}
use Rattle.loaded.proofs.dups.labels_of.Given as goal

abbrev pub invariant-loop-n : goal.invariant-loop-n
invariant-loop-n l = Alike (lists_of l.policy) × Counting (lists_of l.policy) l.labels l.d l.n
