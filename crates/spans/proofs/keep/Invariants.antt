-- `keep` meets its contract: each turn of the loop does one more word. Assumes nothing.
use Rattle.spans.proofs.Sets.{Keeping}
use Rattle.spans.proofs.keep.Given as goal

abbrev pub invariant-loop-i : goal.invariant-loop-i
invariant-loop-i l = Keeping l.initial.set l.tests l.k l.set l.any l.i
