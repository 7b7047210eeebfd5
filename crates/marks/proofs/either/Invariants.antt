-- `either` meets its contract: each turn of the loop joins one more word. Assumes nothing.
use Rattle.marks.proofs.Touched.{JoinedTo}
use Rattle.marks.proofs.either.Given as goal

abbrev pub invariant-loop-i : goal.invariant-loop-i
invariant-loop-i l = JoinedTo l.left l.right l.set l.i
