-- `Reader::negations` meets its contract.
use borrow.Author.Rules.{rules}
use mathlib.Core.Path.{◌≡◌}
use Rattle.std.proofs.lemmas.Result.{err_from_is_err_and}
use Rattle.grammar.specs.declared.Token.TheVariants.{Exclamation}
use Rattle.text.proofs.StepLaws.{none_ends, marked_none, marked_more, marked_ends}
use Rattle.text.proofs.Reader.negations.Goals as goal

pub returns-in_err-token : goal.returns-in_err-token
returns-in_err-token c = let p = err_from_is_err_and c.from_residual.result c.from_residual.ensures.1 in rw (p.1, p.2) (none_ends _ _ _ c.in_err-token.ensures)

pub loop-count-init : goal.loop-count-init
loop-count-init c = marked_none _ _ c.in_ok-token.ensures

pub returns-in_err-token-2 : goal.returns-in_err-token-2
returns-in_err-token-2 c = let e : c.loop-count.token.token ≡ Exclamation = search rules in let p = err_from_is_err_and c.from_residual-in_err-token-2.result c.from_residual-in_err-token-2.ensures.1 in rw (p.1, p.2) (marked_ends _ _ c.loop-count.invariant e c.in_err-token-2.ensures)

pub loop-count-preserved : goal.loop-count-preserved
loop-count-preserved c = let e : c.loop-count.token.token ≡ Exclamation = search rules in marked_more _ _ c.loop-count.invariant e c.in_ok-token-2.ensures
