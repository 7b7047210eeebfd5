-- `second_parts` meets its contract. Assumes nothing.
use Rattle.policy.specs.AsLists.{lists_of}
use Rattle.loaded.specs.Loading.{Flags}
use Rattle.loaded.proofs.Trees.{Alike}
use Rattle.loaded.proofs.slots.second_parts.Given as goal

abbrev pub invariant-loop-n : goal.invariant-loop-n
invariant-loop-n l = Alike (lists_of l.policy) × Flags l.parts
