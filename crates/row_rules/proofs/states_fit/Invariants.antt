-- `row_rules::states_fit` meets its contract: below `k` each state is in range. Assumes nothing.
use mathlib.Core.Bool.{true}
use mathlib.Core.Path.{◌≡◌}
use Rattle.row_rules.specs.Presence.{states_in_range}
use Rattle.row_rules.proofs.states_fit.Given as goal

abbrev pub invariant-loop-k : goal.invariant-loop-k
invariant-loop-k l = states_in_range l.k l.dups l.states ≡ true
