-- `row_checked` meets its contract. Assumes nothing.
use Rattle.evidence.proofs.Rows.{compare_ready, next_ready, forget_ready, outputs_apart, row_next, row_keeps}
use Rattle.evidence.proofs.row_checked.Goals as goal

pub compare-requires : goal.compare-requires
compare-requires c = compare_ready c.requires.table_ready c.requires.i_in_bounds.0 c.row.ensures c.requires.i_in_bounds.1

pub first_next_missing-requires : goal.first_next_missing-requires
first_next_missing-requires c =
    let both = next_ready c.requires.table_ready c.requires.i_in_bounds.0 c.row.ensures c.compare.ensures in
    record { indexed = both.0; marking = both.1 }

pub forget-requires : goal.forget-requires
forget-requires c = forget_ready c.requires.table_ready c.requires.i_in_bounds.0 c.row.ensures c.compare.ensures

pub returns-in-Left : goal.returns-in-Left
returns-in-Left c = outputs_apart c.requires.table_ready c.requires.i_in_bounds.0 c.row.ensures c.compare.ensures c.in-Left.is

pub returns-in-Some : goal.returns-in-Some
returns-in-Some c = row_next c.requires.table_ready c.requires.i_in_bounds.0 c.row.ensures c.compare.ensures c.in-Same.is c.first_next_missing.ensures _ c.in-Some.is

pub returns-in-None : goal.returns-in-None
returns-in-None c = row_keeps c.requires.table_ready c.requires.i_in_bounds.0 c.row.ensures c.compare.ensures c.in-Same.is c.first_next_missing.ensures c.in-None.is c.forget.ensures
