-- `bad_negation` meets its contract: below `i` no node negates anything but tests. Assumes nothing.
use Rattle.std.specs.Prelude.{None}
use mathlib.Core.Path.{◌≡◌}
use Rattle.packet.specs.Lowest.{lowest}
use Rattle.policy.specs.AsLists.{lists_of}
use Rattle.policy.specs.Legality.{bad_negation}
use Rattle.tree_causes.proofs.bad_negation.Given as goal

abbrev pub invariant-loop-i : goal.invariant-loop-i
invariant-loop-i l = lowest (bad_negation (lists_of l.policy)) l.i ≡ None
