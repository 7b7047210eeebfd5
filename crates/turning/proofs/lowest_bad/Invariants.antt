-- `turning::lowest_bad` meets its contract: below `i` no value is out of range. Assumes nothing.
use mathlib.Core.Path.{◌≡◌}
use Rattle.std.proofs.Common.{None}
use Rattle.packet.specs.Lowest.{lowest}
use Rattle.turning.specs.Turning.{bad_value}
use Rattle.turning.proofs.lowest_bad.Given as goal

abbrev pub invariant-loop-i : goal.invariant-loop-i
invariant-loop-i l = lowest (bad_value l.sizes l.values) l.i ≡ None
