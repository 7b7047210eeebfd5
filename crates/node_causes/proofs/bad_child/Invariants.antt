-- `bad_child` meets its contract: below `i` each node's children are below it.
-- Assumes nothing.
use Rattle.std.specs.Prelude.{None}
use mathlib.Core.Path.{◌≡◌}
use Rattle.packet.specs.Lowest.{lowest}
use Rattle.policy.specs.AsLists.{lists_of}
use Rattle.policy.specs.Legality.{bad_child}
use Rattle.node_causes.proofs.bad_child.Given as goal

abbrev pub invariant-loop-i : goal.invariant-loop-i
invariant-loop-i l = lowest (bad_child (lists_of l.policy)) l.i ≡ None
