-- `tables::size_of` meets its contract.
use mathlib.Core.Path.{sym, ◌∙◌}
use borrow.Author.Tests.{eqb-true, eqb-false}
use Rattle.input.proofs.SizeLaws.{size_empty, size_zero, size_number}
use Rattle.input.proofs.tables.size_of.Goals as goal
use Rattle.input.proofs.tables.size_of.Goals.{then-is_empty-via-then-is_empty, then-is_empty-via-else-is_empty+then-leading_zero}

pub returns-then-is_empty : goal.returns-then-is_empty
returns-then-is_empty c =
    elim c.then-is_empty.branch [
      | then-is_empty-via-then-is_empty w ↦ size_empty _ (eqb-true _ _ (sym c.is_empty.ensures ∙ w.if-is_empty.true))
      | then-is_empty-via-else-is_empty+then-leading_zero w ↦ size_zero _ (sym w.leading_zero.ensures ∙ w.if-leading_zero.true)
    ]

pub returns : goal.returns
returns c = c.number_from.ensures ∙ size_number c.args.w.now (eqb-false _ _ (sym c.is_empty.ensures ∙ c.if-is_empty.false)) (sym c.leading_zero.ensures ∙ c.if-leading_zero.false)
