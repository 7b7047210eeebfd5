-- `traces::lowest_bad` meets its contract: the entering packet and the first `i` of the trace are in range. Assumes nothing.
use Prim.Native.Nat.{suc}
use Rattle.std.specs.Prelude.{None}
use mathlib.Core.Path.{◌≡◌}
use Rattle.packet.specs.Lowest.{lowest}
use Rattle.traces.specs.Checking.{bad_packet}
use Rattle.traces.proofs.lowest_bad.Given as goal

abbrev pub invariant-loop-i : goal.invariant-loop-i
invariant-loop-i l = lowest (bad_packet l.count l.entering l.trace) (suc l.i) ≡ None
