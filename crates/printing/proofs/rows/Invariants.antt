-- `printing::rows` meets its contract.
use Rattle.printing.proofs.PrintLaws.{RowsSoFar}
use Rattle.printing.proofs.rows.Given as goal

abbrev pub invariant-loop-i : goal.invariant-loop-i
invariant-loop-i l = RowsSoFar l.packets l.lefts l.rights l.initial.out l.out l.from l.at l.i
