-- `turning::number_of` meets its contract: the tests as they were made. Assumes nothing.
use mathlib.Core.Path.{sym, ◌∙◌}
use lib.Seq.{length-take-le}
use Rattle.packet.proofs.Stages.{handed_on}
use Rattle.turning.proofs.Tests.{number_front, number_made, number_asks, number_is, call_refused, call_answered}
use Rattle.turning.proofs.number_of.Goals as goal

pub returns-in_err-found : goal.returns-in_err-found
returns-in_err-found c = handed_on _ c.from_residual.ensures.1 ∙ call_refused _ _ _ _ (number_front _ _ _ _ c.in_err-found.ensures)

pub slice_bounds-values_stage-end : goal.slice_bounds-values_stage-end
slice_bounds-values_stage-end c = sym (length-take-le _ _ c.in_ok-found.ensures.1.few.0)

pub returns-in_err-values_stage : goal.returns-in_err-values_stage
returns-in_err-values_stage c =
    handed_on _ c.from_residual-in_err-values_stage.ensures.1 ∙ call_refused _ _ _ _ (number_made _ _ _ c.in_ok-found.ensures _ c.values_stage.ensures ∙ c.in_err-values_stage.was)

pub slice_bounds-number_from-end : goal.slice_bounds-number_from-end
slice_bounds-number_from-end c = sym (length-take-le _ _ c.in_ok-found.ensures.1.few.1)

pub number_from-requires : goal.number_from-requires
number_from-requires c =
    let p = number_asks _ _ _ c.in_ok-found.ensures _ (number_made _ _ _ c.in_ok-found.ensures _ c.values_stage.ensures ∙ c.in_ok-values_stage.was) in
    record { legal_sizes = p.0; values_len = p.1; declared = p.2 }

pub returns : goal.returns
returns c =
    let tests = number_made _ _ _ c.in_ok-found.ensures _ c.values_stage.ensures ∙ c.in_ok-values_stage.was in
    call_answered _ _ _ _ tests (c.number_from.ensures ∙ number_is _ _ _ c.in_ok-found.ensures _ tests)
