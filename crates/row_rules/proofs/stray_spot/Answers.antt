-- `row_rules::stray_spot` meets its contract. Assumes nothing.
use Rattle.row_rules.proofs.Looking.{spot_before, spot_end}
use Rattle.row_rules.proofs.stray_spot.Goals as goal

pub returns-then-stray-end : goal.returns-then-stray-end
returns-then-stray-end c = spot_before _ _ c.if-stray-end.true

pub returns-else-stray-end : goal.returns-else-stray-end
returns-else-stray-end c = spot_end _ _ c.if-stray-end.false
