-- `asked` meets its contract.
use Rattle.printing.proofs.PrintLaws.{front_length}
use Rattle.input.proofs.AskedLaws.{asks_not_four, left_short, right_short, table_few, asks_no_left, asks_no_right, asks_search}
use Rattle.console.proofs.Printing.{answers_malformed, answers_searched}
use native.Mathlib.Omega.{arith}
use borrow.Author.Rules.{rules}
use Rattle.console.proofs.asked.Goals as goal

pub returns-in_default : goal.returns-in_default
returns-in_default c = answers_malformed (asks_not_four _ c.in_default.ensures c.requires.0) c.malformed.ensures

pub read-requires : goal.read-requires
read-requires c = (left_short _ c.in-Some.ensures c.requires.0, search rules, search rules)

pub returns-in_default-read : goal.returns-in_default-read
returns-in_default-read c = answers_malformed (asks_no_left _ c.in-Some.ensures c.requires.0 c.read.ensures c.in_default-read.is) c.malformed-in_default-read.ensures

pub read-requires-2 : goal.read-requires-2
read-requires-2 c = (right_short _ c.in-Some.ensures c.requires.0, search rules, search rules)

pub returns-in_default-read-2 : goal.returns-in_default-read-2
returns-in_default-read-2 c = answers_malformed (asks_no_right _ c.in-Some.ensures c.requires.0 c.read-2.ensures c.in_default-read-2.is) c.malformed-in_default-read-2.ensures

pub overflow_mul-left_end : goal.overflow_mul-left_end
overflow_mul-left_end c = omega (arith, table_few c.read.ensures _ c.in-Some-read.is)

pub overflow_mul-right_end : goal.overflow_mul-right_end
overflow_mul-right_end c = omega (arith, table_few c.read-2.ensures _ c.in-Some-read-2.is)

pub slice_bounds-left_names-end : goal.slice_bounds-left_names-end
slice_bounds-left_names-end c = omega (arith, table_few c.read.ensures _ c.in-Some-read.is, c.read.auto.cells)

pub slice_bounds-left-end : goal.slice_bounds-left-end
slice_bounds-left-end c = front_length _ _ (omega (arith, table_few c.read.ensures _ c.in-Some-read.is, c.read.auto.cells))

pub slice_bounds-left_sizes-end : goal.slice_bounds-left_sizes-end
slice_bounds-left_sizes-end c = omega (arith, table_few c.read.ensures _ c.in-Some-read.is, c.read.auto.sizes)

pub slice_bounds-left-end-2 : goal.slice_bounds-left-end-2
slice_bounds-left-end-2 c = front_length _ _ (omega (arith, table_few c.read.ensures _ c.in-Some-read.is, c.read.auto.sizes))

pub slice_bounds-right_names-end : goal.slice_bounds-right_names-end
slice_bounds-right_names-end c = omega (arith, table_few c.read-2.ensures _ c.in-Some-read-2.is, c.read-2.auto.cells)

pub slice_bounds-right-end : goal.slice_bounds-right-end
slice_bounds-right-end c = front_length _ _ (omega (arith, table_few c.read-2.ensures _ c.in-Some-read-2.is, c.read-2.auto.cells))

pub slice_bounds-right_sizes-end : goal.slice_bounds-right_sizes-end
slice_bounds-right_sizes-end c = omega (arith, table_few c.read-2.ensures _ c.in-Some-read-2.is, c.read-2.auto.sizes)

pub slice_bounds-right-end-2 : goal.slice_bounds-right-end-2
slice_bounds-right-end-2 c = front_length _ _ (omega (arith, table_few c.read-2.ensures _ c.in-Some-read-2.is, c.read-2.auto.sizes))

pub returns : goal.returns
returns c = answers_searched (asks_search _ c.in-Some.ensures c.requires.0 c.read.ensures _ c.in-Some-read.is c.read-2.ensures _ c.in-Some-read-2.is) c.searched.ensures
