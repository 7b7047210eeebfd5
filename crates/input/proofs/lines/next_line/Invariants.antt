-- `lines::next_line` meets its contract.
use Rattle.input.proofs.LineLaws.{Passed}
use Rattle.input.proofs.lines.next_line.Given as goal

abbrev pub invariant-loop-i : goal.invariant-loop-i
invariant-loop-i l = Passed l.input 0 l.i
