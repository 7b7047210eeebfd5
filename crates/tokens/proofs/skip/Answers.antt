-- `skip` meets its contract.
use mathlib.Core.Path.{sym, ◌∙◌, ap}
use native.Mathlib.Numerals.{add-one}
use borrow.Author.Tests.{not-false}
use Rattle.grammar.specs.Tokens.{tokens_from}
use Rattle.tokens.proofs.TokenLaws.{from_blank}
use Rattle.tokens.proofs.skip.Goals as goal

pub loop-i-preserved : goal.loop-i-preserved
loop-i-preserved c = λ names. ap (tokens_from names c.args.text.now) (add-one c.loop-i.i) ∙ sym (from_blank names c.args.text.now c.loop-i.i c.loop-i-test.true (sym c.is_blank.ensures ∙ not-false _ c.if-not-is_blank.false-raw)) ∙ c.loop-i.invariant names
