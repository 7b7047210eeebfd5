-- `clear` meets its contract: each turn of the loop does one more word. Assumes nothing.
use Rattle.spans.proofs.Rewriting.{Doing}
use Rattle.spans.proofs.clear.Given as goal

abbrev pub invariant-loop-i : goal.invariant-loop-i
invariant-loop-i l = Doing (λ j. 0) l.initial.set l.set l.i
