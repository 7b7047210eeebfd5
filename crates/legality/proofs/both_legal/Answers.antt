-- `both_legal` meets its contract: of two refusals by the places of their causes. Assumes nothing.
use mathlib.Core.Path.{sym, ap, ap₂, ◌∙◌}
use Rattle.std.proofs.Common.{Err}
use Rattle.legality.specs.Answers.{both_legal}
use Rattle.legality.proofs.AnswerLaws.{right_earlier, left_earlier}
use Rattle.legality.proofs.both_legal.Goals as goal

pub returns-then-cause_place : goal.returns-then-cause_place
unfolding both_legal
returns-then-cause_place c =
    ap Err (right_earlier c.in-Err-Err.p c.in-Err-Err.q c.cause_place.ensures c.cause_place-in-Err-Err.ensures c.if-cause_place.true) ∙ sym (ap₂ both_legal c.in-Err-Err.is-0 c.in-Err-Err.is-1)

pub returns-else-cause_place : goal.returns-else-cause_place
unfolding both_legal
returns-else-cause_place c =
    ap Err (left_earlier c.in-Err-Err.p c.in-Err-Err.q c.cause_place.ensures c.cause_place-in-Err-Err.ensures c.if-cause_place.false) ∙ sym (ap₂ both_legal c.in-Err-Err.is-0 c.in-Err-Err.is-1)
