-- `rows_misfit` meets its contract: the lists that are left decide. Assumes nothing.
use native.Mathlib.Numerals.{add-one}
use mathlib.Core.Path.{sym, ap, ◌∙◌}
use lib.ListN.{drop}
use Rattle.lent_lists.specs.LentLists.{misfit, rows_misfit}
use Rattle.lent_lists.proofs.Testing.{no_rows, misfit_here, misfit_on, misfit_end}
use Rattle.lent_lists.proofs.rows_misfit.Goals as goal

pub returns-in_default : goal.returns-in_default
returns-in_default c = no_rows _ c.in_default.ensures.cases

pub returns-then-n-first : goal.returns-then-n-first
unfolding rows_misfit
returns-then-n-first c = sym (ap rows_misfit c.in-Some.ensures.cases.0 ∙ c.loop-n.invariant ∙ misfit_here _ _ _ c.loop-n-test.true c.if-n-first.true)

pub loop-n-preserved : goal.loop-n-preserved
loop-n-preserved c = c.loop-n.invariant ∙ misfit_on _ _ _ c.loop-n-test.true c.if-n-first.false ∙ ap (λ k. misfit c.in-Some.first.now (drop k c.in-Some.others.now)) (sym (add-one c.loop-n.n-index))

pub returns : goal.returns
unfolding rows_misfit
returns c = sym (ap rows_misfit c.in-Some.ensures.cases.0 ∙ c.loop-n.invariant ∙ misfit_end _ _ _ c.loop-n-test.false)
