-- `tables::part_end` meets its contract.
use Rattle.input.proofs.PartLaws.{Sought}
use Rattle.input.proofs.tables.part_end.Given as goal

abbrev pub invariant-loop-at : goal.invariant-loop-at
invariant-loop-at l = Sought l.by l.w l.from l.at
