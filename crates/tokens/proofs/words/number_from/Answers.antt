-- `words::number_from` meets its contract. The loop's invariant: what is left makes the same number after the digits passed.
use mathlib.Core.Path.{◌≡◌, sym, ◌∙◌, ap}
use mathlib.Core.Bool.{true}
use native.Mathlib.Omega.{arith}
use native.Mathlib.Numerals.{add-one}
use borrow.Author.Tests.{not-true, not-false}
use lib.ListN.{get_or, drop, drop_of_length-le}
use lib.Seq.{drop-cons}
use Rattle.fields.specs.Bytes.{is_digit}
use Rattle.tokens.specs.Inner.{number_from}
use Rattle.tokens.proofs.WordLaws.{number_none, number_more, number_not, number_large}
use Rattle.tokens.proofs.words.number_from.Goals as goal

pub returns-then-not-is_ascii_digit : goal.returns-then-not-is_ascii_digit
unfolding is_digit
returns-then-not-is_ascii_digit c = sym (c.loop-b.invariant.1 ∙ ap (number_from c.loop-b.n) (drop-cons c.args.w.now c.loop-b.b-index 0 c.loop-b-test.true) ∙ number_not c.loop-b.n (get_or c.args.w.now c.loop-b.b-index 0) _ (sym c.is_ascii_digit.ensures.value ∙ not-true _ c.if-not-is_ascii_digit.true-raw))

pub returns-then-n-gt65535 : goal.returns-then-n-gt65535
unfolding is_digit
returns-then-n-gt65535 c = let d : is_digit (get_or c.args.w.now c.loop-b.b-index 0) ≡ true = sym c.is_ascii_digit.ensures.value ∙ not-false _ c.if-not-is_ascii_digit.false-raw in
    sym (c.loop-b.invariant.1 ∙ ap (number_from c.loop-b.n) (drop-cons c.args.w.now c.loop-b.b-index 0 c.loop-b-test.true) ∙ number_more c.loop-b.n (get_or c.args.w.now c.loop-b.b-index 0) _ d ∙ number_large _ _ (omega (arith, c.from.ensures)))

pub loop-b-preserved : goal.loop-b-preserved
unfolding is_digit
loop-b-preserved c = let d : is_digit (get_or c.args.w.now c.loop-b.b-index 0) ≡ true = sym c.is_ascii_digit.ensures.value ∙ not-false _ c.if-not-is_ascii_digit.false-raw in
    (omega arith, c.loop-b.invariant.1 ∙ ap (number_from c.loop-b.n) (drop-cons c.args.w.now c.loop-b.b-index 0 c.loop-b-test.true) ∙ number_more c.loop-b.n (get_or c.args.w.now c.loop-b.b-index 0) _ d ∙ rw (c.from.ensures, add-one c.loop-b.b-index))

pub returns : goal.returns
returns c = let e : drop c.loop-b.b-index c.args.w.now ≡ _ = drop_of_length-le c.args.w.now c.loop-b-test.false in sym (c.loop-b.invariant.1 ∙ ap (number_from c.loop-b.n) e ∙ number_none c.loop-b.n c.loop-b.invariant.0)
