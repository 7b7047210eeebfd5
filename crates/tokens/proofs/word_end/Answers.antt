-- `word_end` meets its contract.
use mathlib.Core.Path.{sym, ◌∙◌, ap}
use native.Mathlib.Omega.{arith}
use native.Mathlib.Numerals.{add-one}
use borrow.Author.Tests.{not-true, not-false}
use lib.ListN.{length}
use Rattle.tokens.proofs.TokenLaws.{word_more, word_stops, word_none}
use Rattle.tokens.proofs.word_end.Goals as goal

pub returns-then-not-in_word : goal.returns-then-not-in_word
returns-then-not-in_word c = omega (arith, c.loop-i.invariant, ap length (word_stops c.args.text.now c.loop-i.i c.loop-i-test.true (sym c.in_word.ensures ∙ not-true _ c.if-not-in_word.true-raw)))

pub loop-i-preserved : goal.loop-i-preserved
loop-i-preserved c = rw (add-one c.loop-i.i) (omega (arith, c.loop-i.invariant, ap length (word_more c.args.text.now c.loop-i.i c.loop-i-test.true (sym c.in_word.ensures ∙ not-false _ c.if-not-in_word.false-raw))))

pub returns : goal.returns
returns c = omega (arith, c.loop-i.invariant, c.loop-i.auto.i-end c.requires, ap length (word_none c.args.text.now c.loop-i.i c.loop-i-test.false))
