-- `insert_run` meets its contract. Assumes nothing.
use Rattle.loaded.proofs.Runs.{Inserting}
use Rattle.loaded.proofs.sets.insert_run.Given as goal

abbrev pub invariant-loop-packet : goal.invariant-loop-packet
invariant-loop-packet l = Inserting l.from l.to l.initial.set l.set l.packet
