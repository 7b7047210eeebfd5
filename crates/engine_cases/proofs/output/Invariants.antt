-- `engine_cases::output` ends: it goes up from packet to packet.
-- Assumes nothing.
use Prim.Native.Nat.{◌-◌}
use Rattle.engine_cases.proofs.output.Given as goal

abbrev pub decreases-loop-packet : goal.decreases-loop-packet
decreases-loop-packet l = 1024 - l.from
