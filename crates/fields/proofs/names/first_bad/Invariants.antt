-- `first_bad` meets its contract: no name below `i` is bad. Assumes nothing.
use mathlib.Core.Path.{◌≡◌}
use Rattle.std.proofs.Common.{None}
use Rattle.packet.specs.Lowest.{lowest}
use Rattle.fields.specs.Names.{names_in, bad_name}
use Rattle.fields.proofs.names.first_bad.Given as goal

abbrev pub invariant-loop-i : goal.invariant-loop-i
invariant-loop-i l = lowest (bad_name (names_in l.cells)) l.i ≡ None
