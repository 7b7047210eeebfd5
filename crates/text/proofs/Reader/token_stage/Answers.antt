-- `Reader::token_stage` meets its contract. The loop's invariant: a bad token lies before the present byte nowhere.
use borrow.Author.Rules.{rules}
use mathlib.Core.Path.{◌≡◌, refl, ◌∙◌}
use Rattle.grammar.specs.declared.Token.TheVariants.{Bad}
use Rattle.grammar.specs.Tokens.{tokens}
use Rattle.grammar.proofs.AnswerLaws.{bad_end, bad_here, bad_on, stage_passes, stage_refuses}
use Rattle.text.proofs.StepLaws.{token_at}
use Rattle.text.proofs.Reader.token_stage.Goals as goal

pub loop-t-init : goal.loop-t-init
unfolding tokens
loop-t-init c = (search rules, refl)

pub returns-then-eq : goal.returns-then-eq
returns-then-eq c = let e : c.in-Some.t.token ≡ Bad = search rules in stage_refuses 14 _ _ _ _ (c.loop-t.invariant.1 ∙ bad_here (token_at _ _ c.in-Some.ensures e)) refl c.unsided.ensures

pub loop-t-preserved : goal.loop-t-preserved
loop-t-preserved c = let h : c.in-Some.t.token ≡ Bad → ⊥ = search rules in (c.in-Some.ensures.within, c.loop-t.invariant.1 ∙ bad_on c.in-Some.ensures.tokens_are h)

pub returns : goal.returns
returns c = stage_passes 14 _ (c.loop-t.invariant.1 ∙ bad_end c.in_default.ensures)
