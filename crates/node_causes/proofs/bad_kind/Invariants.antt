-- `bad_kind` meets its contract: below `i` no kind is over 9.
-- Assumes nothing.
use mathlib.Core.List.{[]}
use Rattle.std.specs.Prelude.{None}
use mathlib.Core.Path.{◌≡◌}
use Rattle.packet.specs.Lowest.{lowest}
use Rattle.policy.specs.AsLists.{as_lists}
use Rattle.policy.specs.Legality.{bad_kind}
use Rattle.node_causes.proofs.bad_kind.Given as goal

abbrev pub invariant-loop-i : goal.invariant-loop-i
invariant-loop-i l = lowest (bad_kind (as_lists l.kind [] [])) l.i ≡ None
