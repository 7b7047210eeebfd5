-- `turning::write_values` meets its contract: the values of the fields passed stand in the list, the rest of the number holds the others.
-- Assumes nothing.
use Rattle.turning.proofs.Loops.{Split}
use Rattle.turning.proofs.write_values.Given as goal

abbrev pub invariant-loop-i : goal.invariant-loop-i
invariant-loop-i l = Split l.sizes l.values l.number l.block l.rest l.i
