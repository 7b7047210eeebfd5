-- `fill` meets its contract: each turn of the loop does one more word. Assumes nothing.
use Rattle.changes.specs.Folding.{Folded}
use Rattle.changes.proofs.fill.Given as goal

abbrev pub invariant-loop-i : goal.invariant-loop-i
invariant-loop-i l = Folded l.pad l.mask l.i l.at l.stride l.size l.initial.set l.set
