-- `row_rules::first_start_missing` meets its contract: below `alpha` no starting row is missing. Assumes nothing.
use Rattle.row_rules.specs.Presence.{start_missing}
use Rattle.row_rules.proofs.Looking.{Unbroken}
use Rattle.row_rules.proofs.first_start_missing.Given as goal

abbrev pub invariant-loop-alpha : goal.invariant-loop-alpha
invariant-loop-alpha l = Unbroken (start_missing l.columns.packets.now l.columns.left.now l.columns.right.now) l.count l.alpha
