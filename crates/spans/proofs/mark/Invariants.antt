-- `mark` meets its contract: each turn of the loop does one more word of the set. Assumes nothing.
use Rattle.spans.proofs.Marks.{Spreading}
use Rattle.spans.proofs.mark.Given as goal

abbrev pub invariant-loop-i : goal.invariant-loop-i
invariant-loop-i l = Spreading l.set l.label l.initial.next l.next l.i
