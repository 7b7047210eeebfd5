-- `ways_up` meets its contract. Assumes nothing.
use Rattle.policy.specs.AsLists.{lists_of}
use Rattle.loaded.proofs.Trees.{Alike}
use Rattle.loaded.proofs.Upward.{Telling}
use Rattle.loaded.proofs.ways.ways_up.Given as goal

abbrev pub invariant-loop-n : goal.invariant-loop-n
invariant-loop-n l = Alike (lists_of l.policy) × Telling (lists_of l.policy) l.ups l.n
