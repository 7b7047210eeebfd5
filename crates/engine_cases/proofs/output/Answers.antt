-- `engine_cases::output` ends: it goes up from packet to packet.
-- Assumes nothing.
use native.Mathlib.Omega.{arith}
use Rattle.packet_set.proofs.Walk.{found_at}
use Rattle.engine_cases.proofs.output.Goals as goal

pub overflow_add-from : goal.overflow_add-from
overflow_add-from c = let h = found_at 32 _ _ _ c.next_member.ensures _ c.in-Some.is in omega (arith, h.below)

pub loop-packet-smaller : goal.loop-packet-smaller
loop-packet-smaller c = let h = found_at 32 _ _ _ c.next_member.ensures _ c.in-Some.is in omega (arith, h.below, h.above)
