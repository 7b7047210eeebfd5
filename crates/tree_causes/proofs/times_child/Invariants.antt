-- `times_child` meets its contract: the counts are those of the nodes passed.
-- Assumes nothing.
use Rattle.policy.specs.AsLists.{lists_of}
use Rattle.tree_causes.specs.Counting.{ChildCounts}
use Rattle.tree_causes.proofs.times_child.Given as goal

abbrev pub invariant-loop-i : goal.invariant-loop-i
invariant-loop-i l = ChildCounts (lists_of l.policy) l.counts l.i
