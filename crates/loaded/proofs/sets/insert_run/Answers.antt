-- `insert_run` meets its contract. Assumes nothing.
use Rattle.loaded.proofs.Runs.{inserting_turn}
use Rattle.loaded.proofs.sets.insert_run.Goals as goal

pub loop-packet-preserved : goal.loop-packet-preserved
loop-packet-preserved c = inserting_turn _ _ _ _ _ c.loop-packet.invariant c.loop-packet-test.true c.requires.1 _ c.insert.ensures
