-- `is_marked` meets its contract. Assumes nothing.
use Rattle.packet_set.proofs.Digits.{shift_tests}
use Rattle.packet_set.proofs.is_marked.Goals as goal

pub returns : goal.returns
returns c = shift_tests _ _
