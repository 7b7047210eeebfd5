-- `Reader::depth_stage` meets its contract.
use borrow.Author.Rules.{rules}
use mathlib.Core.Path.{refl, ◌∙◌}
use Rattle.grammar.specs.Tokens.{tokens}
use Rattle.grammar.proofs.AnswerLaws.{deep_end, deep_here, deep_on, stage_passes, stage_refuses}
use Rattle.text.proofs.Reader.depth_stage.Goals as goal

pub loop-t-init : goal.loop-t-init
unfolding tokens
loop-t-init c = (search rules, search rules, refl)

pub returns-then-n-gt64 : goal.returns-then-n-gt64
returns-then-n-gt64 c = stage_refuses 15 _ _ _ _ (c.loop-t.invariant.2 ∙ deep_here _ c.open_after-n.result c.in-Some.ensures.tokens_are c.open_after-n.ensures c.if-n-gt64.true) refl c.unsided.ensures

pub loop-t-preserved : goal.loop-t-preserved
loop-t-preserved c = (c.in-Some.ensures.within, c.if-n-gt64.false, c.loop-t.invariant.2 ∙ deep_on _ c.open_after-n.result c.in-Some.ensures.tokens_are c.open_after-n.ensures c.if-n-gt64.false)

pub returns : goal.returns
returns c = stage_passes 15 _ (c.loop-t.invariant.2 ∙ deep_end _ c.in_default.ensures)
