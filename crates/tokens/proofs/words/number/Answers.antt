-- `words::number` meets its contract.
use mathlib.Core.Path.{sym, ◌∙◌}
use Rattle.tokens.proofs.WordLaws.{number_zero, number_is}
use Rattle.tokens.proofs.words.number.Goals as goal

pub returns-then-leading_zero : goal.returns-then-leading_zero
returns-then-leading_zero c = sym (number_zero _ (sym c.leading_zero.ensures ∙ c.if-leading_zero.true))

pub returns-in-Some : goal.returns-in-Some
returns-in-Some c = sym (number_is _ (sym c.leading_zero.ensures ∙ c.if-leading_zero.false) c.in-Some.ensures)

pub returns-in-None : goal.returns-in-None
returns-in-None c = sym (number_is _ (sym c.leading_zero.ensures ∙ c.if-leading_zero.false) c.in-None.ensures)
