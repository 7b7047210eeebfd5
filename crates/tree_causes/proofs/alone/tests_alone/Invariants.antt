-- `tests_alone` meets its contract. Assumes nothing.
use Rattle.policy.specs.AsLists.{lists_of}
use Rattle.tree_causes.proofs.Flags.{Flagging}
use Rattle.tree_causes.proofs.alone.tests_alone.Given as goal

abbrev pub invariant-loop-n : goal.invariant-loop-n
invariant-loop-n l = Flagging (lists_of l.policy) l.alone l.n
