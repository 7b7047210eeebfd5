-- `in_range` meets its contract. Assumes nothing.
use Rattle.packet_set.proofs.Digits.{shift_range}
use Rattle.packet_set.proofs.in_range.Goals as goal

pub returns : goal.returns
returns c = shift_range _ _
