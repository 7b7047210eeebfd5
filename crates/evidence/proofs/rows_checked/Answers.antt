-- `rows_checked` meets its contract. Assumes nothing.
use Rattle.evidence.proofs.Rows.{rows_none, rows_ready, rows_repeat, rows_more, rows_outputs, rows_next, rows_all}
use Rattle.evidence.proofs.rows_checked.Goals as goal

pub loop-i-init : goal.loop-i-init
loop-i-init c = rows_none

pub loop-i-preserved-then-repeated : goal.loop-i-preserved-then-repeated
loop-i-preserved-then-repeated c = rows_repeat c.loop-i.invariant c.loop-i-test.true (c.repeated.ensures c.if-repeated.true)

pub row_checked-requires : goal.row_checked-requires
row_checked-requires c = record { table_ready = rows_ready c.loop-i.invariant c.requires; i_in_bounds = (c.loop-i-test.true, c.loop-i.invariant.blank) }

pub returns-in-Outputs : goal.returns-in-Outputs
returns-in-Outputs c = rows_outputs c.loop-i.invariant c.loop-i-test.true c.row_checked.ensures c.in-Outputs.is

pub returns-in-Next : goal.returns-in-Next
returns-in-Next c = rows_next c.loop-i.invariant c.loop-i-test.true c.row_checked.ensures _ c.in-Next.is

pub loop-i-preserved : goal.loop-i-preserved
loop-i-preserved c = rows_more c.loop-i.invariant c.loop-i-test.true c.row_checked.ensures c.in-Keeps.is

pub returns : goal.returns
returns c = rows_all c.loop-i.invariant c.loop-i-test.false
