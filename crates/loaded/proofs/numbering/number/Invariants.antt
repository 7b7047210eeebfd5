-- `number` meets its contract. Assumes nothing.
use Rattle.policy.specs.AsLists.{lists_of}
use Rattle.loaded.proofs.Trees.{Alike}
use Rattle.loaded.proofs.Giving.{Giving}
use Rattle.loaded.proofs.numbering.number.Given as goal

abbrev pub invariant-loop-n : goal.invariant-loop-n
invariant-loop-n l = Alike (lists_of l.policy) × Giving l.sizes (lists_of l.policy) l.sets l.tests l.k l.n
