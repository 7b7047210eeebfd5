-- `mark_word` meets its contract: each turn of the loop marks the lowest packet left. Assumes nothing.
use Rattle.spans.proofs.Marks.{Marking}
use Rattle.spans.proofs.mark_word.Given as goal

abbrev pub invariant-loop-rest : goal.invariant-loop-rest
invariant-loop-rest l = Marking l.initial.next l.label l.i l.word l.next l.rest

abbrev pub decreases-loop-rest : goal.decreases-loop-rest
decreases-loop-rest l = l.rest
