-- `handle` meets its contract. Assumes nothing.
use native.Mathlib.Omega.{arith}
use Rattle.pair.specs.Sides.{left, right}
use Rattle.index.proofs.Lent.{read_row}
use Rattle.row_handling.proofs.Stepping.{compare_ready, row_fits, next_ready, forget_ready, row_tells, row_fills, row_goes}
use Rattle.row_handling.proofs.handle.Goals as goal

pub compare-requires : goal.compare-requires
compare-requires c = compare_ready c.requires _ (read_row c.columns.result c.columns.ensures.packets c.columns.ensures.left c.columns.ensures.right _ _ c.row-row.ensures)

pub append_next-requires : goal.append_next-requires
append_next-requires c =
    let both = next_ready c.requires c.compare.ensures in
    record { indexed = both.0; parents_len = both.1.0; room_for = both.1.1.0; marking = both.1.1.1 }

pub returns-in_default-clause-step : goal.returns-in_default-clause-step
returns-in_default-clause-step c = row_fills c.requires (read_row c.columns.result c.columns.ensures.packets c.columns.ensures.left c.columns.ensures.right _ _ c.row-row.ensures) c.compare.ensures c.in-Same.is c.append_next.ensures.appends c.in_default.is

pub forget-requires : goal.forget-requires
forget-requires c = forget_ready c.requires c.compare.ensures

pub overflow_add-progress : goal.overflow_add-progress
overflow_add-progress c = let l = row_fits c.requires in omega (arith, l)

pub returns-in-Left-clause-step : goal.returns-in-Left-clause-step
returns-in-Left-clause-step c = row_tells c.requires (read_row c.columns.result c.columns.ensures.packets c.columns.ensures.left c.columns.ensures.right _ _ c.row-row.ensures) c.compare.ensures left _ c.in-Left.is

pub returns-in-Right-clause-step : goal.returns-in-Right-clause-step
returns-in-Right-clause-step c = row_tells c.requires (read_row c.columns.result c.columns.ensures.packets c.columns.ensures.left c.columns.ensures.right _ _ c.row-row.ensures) c.compare.ensures right _ c.in-Right.is

pub returns-in-Some-clause-step : goal.returns-in-Some-clause-step
returns-in-Some-clause-step c = row_goes c.requires (read_row c.columns.result c.columns.ensures.packets c.columns.ensures.left c.columns.ensures.right _ _ c.row-row.ensures) c.compare.ensures c.in-Same.is c.append_next.ensures.appends _ c.in-Some.is _ c.goes_on.ensures c.forget.ensures
