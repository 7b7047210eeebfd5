-- `lists_stage` meets its contract. Assumes nothing.
use mathlib.Core.Path.{sym, ap, ◌∙◌}
use Rattle.std.proofs.Common.{Err}
use Rattle.lent_lists.proofs.Testing.{stage_misfit, stage_short, stage_passes}
use Rattle.lent_lists.proofs.lists_stage.Goals as goal
use Rattle.lent_lists.proofs.lists_stage.Goals.{then-rows_misfit-via-then-rows_misfit, then-rows_misfit-via-else-rows_misfit+then-work-lt16384}

pub returns-then-rows_misfit : goal.returns-then-rows_misfit
returns-then-rows_misfit c =
    ap Err c.unsided.ensures
    ∙ sym (elim c.then-rows_misfit.branch [
      | then-rows_misfit-via-then-rows_misfit w ↦ stage_misfit _ _ (sym c.rows_misfit.ensures ∙ w.if-rows_misfit.true)
      | then-rows_misfit-via-else-rows_misfit+then-work-lt16384 w ↦ stage_short _ _ (sym c.rows_misfit.ensures ∙ w.if-rows_misfit.false) w.if-work-lt16384.true
    ])

pub returns : goal.returns
returns c = sym (stage_passes _ _ (sym c.rows_misfit.ensures ∙ c.if-rows_misfit.false) c.if-work-lt16384.false)
