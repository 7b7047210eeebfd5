-- `mark` meets its contract: each turn of the loop does one more word of the set. Assumes nothing.
use mathlib.Core.Path.{◌∙◌}
use borrow.Author.Rules.{rules}
use Rattle.spans.proofs.Marks.{spreading_start, spreading_turn, spreading_end}
use Rattle.spans.proofs.mark.Goals as goal

pub loop-i-init : goal.loop-i-init
loop-i-init c = spreading_start _ _ _ _ _ c.requires.2

pub mark_word-requires : goal.mark_word-requires
mark_word-requires c = let h = c.loop-i.invariant.long ∙ c.requires.1 in search rules

pub loop-i-preserved : goal.loop-i-preserved
loop-i-preserved c = spreading_turn _ _ _ _ _ c.requires.2 _ _ c.loop-i.invariant c.loop-i-test.true c.requires.1 _ c.from.ensures _ c.mark_word.ensures

pub returns : goal.returns
returns c = spreading_end _ _ _ _ _ c.requires.2 _ _ c.loop-i.invariant c.loop-i-test.false
