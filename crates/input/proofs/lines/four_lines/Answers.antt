-- `lines::four_lines` meets its contract.
use mathlib.Core.Path.{◌≡◌, sym, ◌∙◌}
use lib.ListN.{length}
use native.Mathlib.Omega.{arith}
use borrow.Author.Tests.{eqb-true, eqb-false}
use Rattle.input.specs.Input.{asked_by_lines}
use Rattle.input.proofs.LineLaws.{lines_none, five_lines}
use Rattle.input.proofs.lines.four_lines.Goals as goal

pub returns-in_err-left_table : goal.returns-in_err-left_table
unfolding asked_by_lines
returns-in_err-left_table c = rw (c.from_residual.ensures, c.in_err-left_table.ensures)

pub returns-in_err-right_table : goal.returns-in_err-right_table
unfolding asked_by_lines
returns-in_err-right_table c = rw (c.from_residual-in_err-right_table.ensures, c.in_ok-left_table.ensures, c.in_err-right_table.ensures)

pub returns-in_err-left : goal.returns-in_err-left
unfolding asked_by_lines
returns-in_err-left c = rw (c.from_residual-in_err-left.ensures, c.in_ok-left_table.ensures, c.in_ok-right_table.ensures, c.in_err-left.ensures)

pub returns-in_err-right : goal.returns-in_err-right
unfolding asked_by_lines
returns-in_err-right c = rw (c.from_residual-in_err-right.ensures, c.in_ok-left_table.ensures, c.in_ok-right_table.ensures, c.in_ok-left.ensures, c.in_err-right.ensures)

pub returns-then-not-is_empty : goal.returns-then-not-is_empty
returns-then-not-is_empty c =
    let some : ¬ (length c.in_ok-right.rest.now ≡ 0) = eqb-false _ _ (sym c.is_empty.ensures ∙ c.if-not-is_empty.true) in
    rw (c.in_ok-left_table.ensures, c.in_ok-right_table.ensures, c.in_ok-left.ensures, c.in_ok-right.ensures) (five_lines _ _ _ _ _ (omega arith))

pub returns : goal.returns
returns c =
    let none = lines_none c.in_ok-right.rest.now (eqb-true _ _ (sym c.is_empty.ensures ∙ c.if-not-is_empty.false)) in
    rw (c.in_ok-left_table.ensures, c.in_ok-right_table.ensures, c.in_ok-left.ensures, c.in_ok-right.ensures, none)
