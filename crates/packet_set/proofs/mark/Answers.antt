-- `mark` meets its contract. Assumes nothing.
use Rattle.packet_set.specs.Bits.{mask_bits}
use Rattle.packet_set.proofs.Digits.{shift_marks}
use Rattle.packet_set.proofs.mark.Goals as goal

pub returns : goal.returns
returns c = shift_marks mask_bits _ _ c.requires
