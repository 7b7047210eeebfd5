-- `row_rules::first_stray` meets its contract: below `i` no row breaks rule (a). Assumes nothing.
use Rattle.row_rules.proofs.Looking.{strays_at, unbroken_none, unbroken_more, broken_here, unbroken_all}
use Rattle.row_rules.proofs.first_stray.Goals as goal

pub loop-i-init : goal.loop-i-init
loop-i-init c = unbroken_none _ _

pub returns-then-not-row_fits : goal.returns-then-not-row_fits
returns-then-not-row_fits c = broken_here _ _ c.loop-i.invariant c.loop-i-test.true _ (strays_at _ _ _ _ _ _ _ c.row.ensures _ c.row_fits.ensures) c.if-not-row_fits.true-raw

pub loop-i-preserved : goal.loop-i-preserved
loop-i-preserved c = unbroken_more _ _ c.loop-i.invariant c.loop-i-test.true _ (strays_at _ _ _ _ _ _ _ c.row.ensures _ c.row_fits.ensures) c.if-not-row_fits.false-raw

pub returns : goal.returns
returns c = unbroken_all _ _ c.loop-i.invariant c.loop-i-test.false
