-- `Reader::test` meets its contract.
use mathlib.Core.Path.{◌∙◌}
use Rattle.std.proofs.lemmas.Result.{err_from_is_err_and}
use Rattle.grammar.proofs.AnswerLaws.{first_refuses, second_refuses, rest_answers}
use Rattle.text.proofs.Reader.test.Goals as goal

pub returns-in_err-token_stage : goal.returns-in_err-token_stage
returns-in_err-token_stage c = let p = err_from_is_err_and c.from_residual.result c.from_residual.ensures.1 in rw (p.1, p.2) (first_refuses _ _ _ _ c.in_err-token_stage.ensures)

pub returns-in_err-depth_stage : goal.returns-in_err-depth_stage
returns-in_err-depth_stage c =
    let p = err_from_is_err_and c.from_residual-in_err-depth_stage.result c.from_residual-in_err-depth_stage.ensures.1 in
    rw (p.1, p.2) (second_refuses _ _ _ _ c.in_ok-token_stage.ensures c.in_err-depth_stage.ensures)

pub returns : goal.returns
returns c = c.size_stage.ensures ∙ rest_answers _ _ _ c.in_ok-token_stage.ensures c.in_ok-depth_stage.ensures
