-- `printing::trace` meets its contract.
use Rattle.printing.proofs.PrintLaws.{TraceSoFar}
use Rattle.printing.proofs.trace.Given as goal

abbrev pub invariant-loop-i : goal.invariant-loop-i
invariant-loop-i l = TraceSoFar l.packets l.initial.out l.out l.from l.at l.i
