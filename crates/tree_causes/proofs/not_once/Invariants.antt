-- `not_once` meets its contract: below `i` each node is a child once.
-- Assumes nothing.
use Rattle.std.specs.Prelude.{None}
use mathlib.Core.Path.{◌≡◌}
use Rattle.packet.specs.Lowest.{lowest}
use Rattle.policy.specs.AsLists.{lists_of}
use Rattle.policy.specs.Legality.{not_once}
use Rattle.tree_causes.proofs.not_once.Given as goal

abbrev pub invariant-loop-i : goal.invariant-loop-i
invariant-loop-i l = lowest (not_once (lists_of l.policy)) l.i ≡ None
