-- `packet::packet_count` meets its contract: `product` is the running product of the fields passed, none of which is over 1,024.
-- Assumes nothing.
use Rattle.packet.proofs.Sizes.{Running}
use Rattle.packet.proofs.packet_count.Given as goal

abbrev pub invariant-loop-i : goal.invariant-loop-i
invariant-loop-i l = Running l.sizes l.i l.product
