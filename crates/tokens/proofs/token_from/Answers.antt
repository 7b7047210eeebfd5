-- `token_from` meets its contract.
use mathlib.Core.Path.{sym, ◌∙◌}
use Rattle.tokens.proofs.TokenLaws.{token_end, token_front}
use Rattle.tokens.proofs.token_from.Goals as goal

pub returns-then-text-start : goal.returns-then-text-start
returns-then-text-start c = token_end _ _ _ _ c.skip-start.ensures c.if-text-start.true

pub word_at-requires : goal.word_at-requires
word_at-requires c = (c.requires.0, c.if-text-start.false, sym c.in_word.ensures ∙ c.if-in_word.true)

pub returns-then-in_word : goal.returns-then-in_word
returns-then-in_word c = token_front _ _ _ _ c.skip-start.ensures _ c.if-text-start.false c.word_at.ensures

pub mark_at-requires : goal.mark_at-requires
mark_at-requires c = (c.if-text-start.false, sym c.in_word.ensures ∙ c.if-in_word.false)

pub returns : goal.returns
returns c = token_front _ _ _ _ c.skip-start.ensures _ c.if-text-start.false (c.mark_at.ensures _)
