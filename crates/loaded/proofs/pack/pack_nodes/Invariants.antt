-- `pack_nodes` meets its contract. Assumes nothing.
use Rattle.policy.specs.AsLists.{lists_of}
use Rattle.loaded.proofs.Trees.{Alike}
use Rattle.loaded.proofs.Writing.{Writing}
use Rattle.loaded.proofs.pack.pack_nodes.Given as goal

abbrev pub invariant-loop-n : goal.invariant-loop-n
invariant-loop-n l = Alike (lists_of l.policy) × Writing (lists_of l.policy) l.guards l.alone l.labels l.ups l.initial.nodes l.nodes l.n
