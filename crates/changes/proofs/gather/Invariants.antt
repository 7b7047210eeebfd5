-- `gather` meets its contract: each turn of the loop takes one more place. Assumes nothing.
use Rattle.changes.specs.Folding.{Gathered}
use Rattle.changes.proofs.gather.Given as goal

abbrev pub invariant-loop-u : goal.invariant-loop-u
invariant-loop-u l = Gathered l.pad l.at l.stride l.u l.word
