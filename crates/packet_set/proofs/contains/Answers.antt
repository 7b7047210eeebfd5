-- `contains` meets its contract. Assumes nothing.
use Rattle.packet_set.specs.InnerMembers.{member}
use Rattle.packet_set.proofs.Digits.{shift_tests}
use Rattle.packet_set.proofs.contains.Goals as goal

pub returns : goal.returns
unfolding member
returns c = rw c.from.ensures (shift_tests _ _)
