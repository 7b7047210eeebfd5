-- `dups` meets its contract: the dups of the nodes passed are counted, and not too many.
-- Assumes nothing.
use Rattle.tree_causes.proofs.CountLaws.{DupsSoFar}
use Rattle.tree_causes.proofs.dups.Given as goal

abbrev pub invariant-loop-i : goal.invariant-loop-i
invariant-loop-i l = DupsSoFar l.kind l.count l.i
