-- `places_of` meets its contract. Assumes nothing.
use Rattle.policy.specs.AsLists.{lists_of}
use Rattle.loaded.proofs.Trees.{Alike}
use Rattle.loaded.proofs.Labelling.{Placing}
use Rattle.loaded.proofs.dups.places_of.Given as goal

abbrev pub invariant-loop-n : goal.invariant-loop-n
invariant-loop-n l = Alike (lists_of l.policy) × Placing (lists_of l.policy) l.places l.n
