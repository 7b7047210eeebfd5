-- `words::field_or_number` meets its contract.
use mathlib.Core.Path.{◌∙◌, ap}
use native.Mathlib.Omega.{arith}
use Rattle.grammar.specs.Tokens.{field_token}
use Rattle.tokens.proofs.WordLaws.{field_few}
use Rattle.tokens.proofs.words.field_or_number.Goals as goal

pub overflow_cast-result : goal.overflow_cast-result
overflow_cast-result c = omega (arith, field_few _ _ _ c.requires c.in-Some.ensures)

pub returns-in-Some : goal.returns-in-Some
unfolding field_token
returns-in-Some c = ap (λ o. field_token o c.args.w.now) c.in-Some.ensures

pub returns-in-None : goal.returns-in-None
unfolding field_token
returns-in-None c = c.number.ensures ∙ ap (λ o. field_token o c.args.w.now) c.in-None.ensures
