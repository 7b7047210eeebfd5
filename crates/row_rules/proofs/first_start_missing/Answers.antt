-- `row_rules::first_start_missing` meets its contract: below `alpha` no starting row is missing. Assumes nothing.
use Rattle.row_rules.proofs.Looking.{start_at, unbroken_none, unbroken_more, broken_here, unbroken_all}
use Rattle.row_rules.proofs.first_start_missing.Goals as goal

pub loop-alpha-init : goal.loop-alpha-init
loop-alpha-init c = unbroken_none _ _

pub returns-then-not-find : goal.returns-then-not-find
returns-then-not-find c = broken_here _ _ c.loop-alpha.invariant c.loop-alpha-test.true _ (start_at _ _ _ _ _ c.find.ensures) c.if-not-find.true-raw

pub loop-alpha-preserved : goal.loop-alpha-preserved
loop-alpha-preserved c = unbroken_more _ _ c.loop-alpha.invariant c.loop-alpha-test.true _ (start_at _ _ _ _ _ c.find.ensures) c.if-not-find.false-raw

pub returns : goal.returns
returns c = unbroken_all _ _ c.loop-alpha.invariant c.loop-alpha-test.false
