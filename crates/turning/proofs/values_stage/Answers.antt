-- `turning::values_stage` meets its contract: the length, then the values. Assumes nothing.
use mathlib.Core.Path.{sym, ◌∙◌}
use Rattle.packet.proofs.Stages.{handed_on}
use Rattle.turning.proofs.Tests.{length_known, values_length, values_tested}
use Rattle.turning.proofs.values_stage.Goals as goal

pub returns-in_err-length_test : goal.returns-in_err-length_test
returns-in_err-length_test c = handed_on _ c.from_residual.ensures.1 ∙ sym (values_length _ _ (sym c.length_test.ensures ∙ c.in_err-length_test.was))

pub lowest_bad-requires : goal.lowest_bad-requires
lowest_bad-requires c = length_known _ _ (sym c.length_test.ensures ∙ c.in_ok-length_test.was)

pub returns : goal.returns
returns c = values_tested _ _ (sym c.length_test.ensures ∙ c.in_ok-length_test.was) c.refused_at.ensures c.lowest_bad.ensures
