-- `turning::number_from` meets its contract: the classes of the fields passed are in the number.
-- Assumes nothing.
use Rattle.turning.specs.Turning.{classes_in}
use Rattle.turning.proofs.Loops.{Joined}
use Rattle.turning.proofs.number_from.Given as goal

abbrev pub invariant-loop-i : goal.invariant-loop-i
invariant-loop-i l = Joined l.core (classes_in l.core l.values) l.number l.i
