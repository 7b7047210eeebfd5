-- `note` meets its contract: each turn of the loop takes one more word. Assumes nothing.
use Rattle.spans.proofs.Sets.{Noting}
use Rattle.spans.proofs.note.Given as goal

abbrev pub invariant-loop-i : goal.invariant-loop-i
invariant-loop-i l = Noting l.initial.work l.n l.initial.set l.work l.set l.any l.i
