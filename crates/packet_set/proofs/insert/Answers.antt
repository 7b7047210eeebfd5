-- `insert` meets its contract. Assumes nothing.
use Rattle.packet_set.proofs.Words.{stored_packet}
use Rattle.packet_set.proofs.insert.Goals as goal

pub returns : goal.returns
returns c = rw c.from.ensures (stored_packet _ _)
