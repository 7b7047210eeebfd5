-- `all_small_or_digit` meets its contract: what is left decides. Assumes nothing.
use native.Mathlib.Numerals.{add-one}
use mathlib.Core.Bool.{Bool, true, ◌||◌}
use mathlib.Core.Path.{◌≡◌, sym, ap, ap₂, ◌∙◌}
use lib.ListN.{get_or, drop}
use Rattle.packet.proofs.Tests.{or_left, or_right}
use Rattle.fields.specs.Bytes.{is_small, is_digit}
use Rattle.fields.specs.Names.{all_small_or_digit}
use Rattle.fields.proofs.NameLaws.{all_fails, all_on, all_end}
use Rattle.fields.proofs.names.all_small_or_digit.Goals as goal
use Rattle.fields.proofs.names.all_small_or_digit.Goals.{else-not-is_ascii_lowercase-via-then-not-is_ascii_lowercase+else-not-is_ascii_digit, else-not-is_ascii_lowercase-via-else-not-is_ascii_lowercase}

pub returns-then-not-is_ascii_digit : goal.returns-then-not-is_ascii_digit
unfolding is_small is_digit
returns-then-not-is_ascii_digit c =
    sym (c.loop-b.invariant ∙ all_fails c.args.w.now c.loop-b.b-index c.loop-b-test.true (ap₂ (λ (a b : Bool). a || b) (sym c.is_ascii_lowercase.ensures.value ∙ c.if-not-is_ascii_lowercase.true) (sym c.is_ascii_digit.ensures.value ∙ c.if-not-is_ascii_digit.true)))

pub loop-b-preserved : goal.loop-b-preserved
unfolding is_small is_digit
loop-b-preserved c =
    let on : (is_small (get_or c.args.w.now c.loop-b.b-index 0) || is_digit (get_or c.args.w.now c.loop-b.b-index 0)) ≡ true =
    elim c.else-not-is_ascii_lowercase.branch [
      | else-not-is_ascii_lowercase-via-then-not-is_ascii_lowercase+else-not-is_ascii_digit w ↦ or_right _ _ (sym w.is_ascii_digit.ensures.value ∙ w.if-not-is_ascii_digit.false)
      | else-not-is_ascii_lowercase-via-else-not-is_ascii_lowercase w ↦ or_left _ _ (sym c.is_ascii_lowercase.ensures.value ∙ w.if-not-is_ascii_lowercase.false)
    ]
    in
    c.loop-b.invariant ∙ all_on c.args.w.now c.loop-b.b-index c.loop-b-test.true on ∙ ap (λ k. all_small_or_digit (drop k c.args.w.now)) (sym (add-one c.loop-b.b-index))

pub returns : goal.returns
returns c = sym (c.loop-b.invariant ∙ all_end c.args.w.now c.loop-b.b-index c.loop-b-test.false)
