-- `row_rules::stray_after` meets its contract. Assumes nothing.
use Rattle.row_rules.proofs.Looking.{two_fit, stray_kept, stray_found, stray_first}
use Rattle.row_rules.proofs.stray_after.Goals as goal

pub row_fits-requires : goal.row_fits-requires
row_fits-requires c = two_fit c.requires.0 c.requires.1

pub returns-then-row_fits : goal.returns-then-row_fits
returns-then-row_fits c = stray_kept _ _ _ _ _ c.row_fits.ensures c.if-row_fits.true

pub returns-then-found-end : goal.returns-then-found-end
returns-then-found-end c = stray_found _ _ _ _ _ c.row_fits.ensures c.if-row_fits.false c.if-found-end.true

pub returns-else-found-end : goal.returns-else-found-end
returns-else-found-end c = stray_first _ _ _ _ _ c.row_fits.ensures c.if-row_fits.false c.if-found-end.false
