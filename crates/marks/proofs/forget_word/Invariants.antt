-- `forget_word` meets its contract: each turn of the loop clears the lowest bit that is left. Assumes nothing.
use Rattle.marks.proofs.Clearing.{ForgottenBut}
use Rattle.marks.proofs.forget_word.Given as goal

abbrev pub invariant-loop-rest : goal.invariant-loop-rest
invariant-loop-rest l = ForgottenBut l.start l.word l.rest l.initial.next l.next

abbrev pub decreases-loop-rest : goal.decreases-loop-rest
decreases-loop-rest l = l.rest
