-- `forget` meets its contract: each turn of the loop forgets one word. Assumes nothing.
use Rattle.marks.proofs.Clearing.{ForgottenTo}
use Rattle.marks.proofs.forget.Given as goal

abbrev pub invariant-loop-i : goal.invariant-loop-i
invariant-loop-i l = ForgottenTo l.initial.next l.next l.i
