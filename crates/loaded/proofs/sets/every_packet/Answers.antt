-- `every_packet` meets its contract. Assumes nothing.
use Rattle.loaded.proofs.Runs.{every}
use Rattle.loaded.proofs.sets.every_packet.Goals as goal

pub returns : goal.returns
returns c = every _ _ _ c.requires.1 _ c.empty-set.ensures c.insert_run.ensures
