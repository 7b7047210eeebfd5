-- `rows_checked` meets its contract. Assumes nothing.
use Rattle.evidence.proofs.Rows.{RowsTo}
use Rattle.evidence.proofs.rows_checked.Given as goal

abbrev pub invariant-loop-i : goal.invariant-loop-i
invariant-loop-i l = RowsTo l.policies.sizes.now l.policies.nodes.now l.policies.tests.now l.columns.packets.now l.columns.left.now l.columns.right.now l.initial.work l.work l.next l.i
