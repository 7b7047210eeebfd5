-- `guards_of` meets its contract. Assumes nothing.
use Rattle.policy.specs.AsLists.{lists_of}
use Rattle.loaded.proofs.Trees.{Alike}
use Rattle.loaded.proofs.Guarding.{Guarding}
use Rattle.loaded.proofs.guards.guards_of.Given as goal

abbrev pub invariant-loop-n : goal.invariant-loop-n
invariant-loop-n l = Alike (lists_of l.policy) × Guarding (lists_of l.policy) l.alone l.sets l.guards l.n
