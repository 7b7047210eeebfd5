-- `bad_entries` meets its contract: below `i` no entry is wrong.
-- Assumes nothing.
use Rattle.std.specs.Prelude.{None}
use mathlib.Core.Path.{◌≡◌}
use Rattle.packet.specs.Lowest.{lowest}
use Rattle.policy.specs.AsLists.{lists_of}
use Rattle.policy.specs.Legality.{bad_entries}
use Rattle.node_causes.proofs.bad_entries.Given as goal

abbrev pub invariant-loop-i : goal.invariant-loop-i
invariant-loop-i l = lowest (bad_entries l.sizes (lists_of l.policy)) l.i ≡ None
