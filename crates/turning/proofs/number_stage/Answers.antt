-- `turning::number_stage` meets its contract: the length, then the number. Assumes nothing.
use mathlib.Core.Path.{sym, ap, ◌∙◌}
use Rattle.std.proofs.Common.{Err}
use Rattle.packet.proofs.Stages.{handed_on}
use Rattle.turning.proofs.Tests.{number_length, number_refused, number_passed}
use Rattle.turning.proofs.number_stage.Goals as goal

pub returns-in_err-length_test : goal.returns-in_err-length_test
returns-in_err-length_test c = handed_on _ c.from_residual.ensures.1 ∙ sym (number_length _ _ _ _ (sym c.length_test.ensures ∙ c.in_err-length_test.was))

pub returns-then-count-number : goal.returns-then-count-number
returns-then-count-number c = ap Err c.unsided.ensures ∙ sym (number_refused _ _ _ _ (sym c.length_test.ensures ∙ c.in_ok-length_test.was) c.if-count-number.true)

pub returns : goal.returns
returns c = sym (number_passed _ _ _ _ (sym c.length_test.ensures ∙ c.in_ok-length_test.was) c.if-count-number.false)
