-- `turning::values_of` meets its contract: the tests as they were made. Assumes nothing.
use mathlib.Core.Path.{sym, ◌∙◌}
use lib.Seq.{length-take-le}
use Rattle.packet.proofs.Stages.{handed_on}
use Rattle.turning.proofs.Tests.{values_front, values_made, values_passed, values_are, values_refused, values_written}
use Rattle.turning.proofs.values_of.Goals as goal

pub returns-in_err-found : goal.returns-in_err-found
returns-in_err-found c =
    let tests = values_front _ _ _ _ _ c.in_err-found.ensures in
    record { answer = handed_on _ c.from_residual.ensures.1 ∙ sym tests; list = values_refused _ _ _ _ _ tests }

pub returns-in_err-number_stage : goal.returns-in_err-number_stage
returns-in_err-number_stage c =
    let tests = values_made _ _ _ c.in_ok-found.ensures _ _ c.number_stage.ensures ∙ c.in_err-number_stage.was in
    record { answer = handed_on _ c.from_residual-in_err-number_stage.ensures.1 ∙ sym tests; list = values_refused _ _ _ _ _ tests }

pub slice_bounds-write_values-end : goal.slice_bounds-write_values-end
slice_bounds-write_values-end c = sym (length-take-le _ _ c.in_ok-found.ensures.1.few.1)

pub write_values-requires : goal.write_values-requires
write_values-requires c =
    let p = values_passed _ _ _ c.in_ok-found.ensures _ _ (values_made _ _ _ c.in_ok-found.ensures _ _ c.number_stage.ensures ∙ c.in_ok-number_stage.was) in
    record { legal_sizes = p.0; count_value = p.1; number_lt_count = p.2; values_len = p.3 }

pub returns : goal.returns
returns c =
    let tests = values_made _ _ _ c.in_ok-found.ensures _ _ c.number_stage.ensures ∙ c.in_ok-number_stage.was in
    record { answer = sym tests; list = values_written _ _ _ _ _ tests (c.write_values.ensures ∙ values_are _ _ _ c.in_ok-found.ensures _ _ tests) }
