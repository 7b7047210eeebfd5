-- `clear` meets its contract: each turn of the loop does one more word. Assumes nothing.
use mathlib.Core.Path.{refl}
use borrow.Author.Rules.{rules}
use Rattle.spans.proofs.Rewriting.{one_done}
use Rattle.spans.proofs.Sets.{words_start, words_end, emptied}
use Rattle.spans.proofs.clear.Goals as goal

pub loop-i-init : goal.loop-i-init
loop-i-init c = words_start _ _ _ c.requires _ (λ j e. refl)

pub loop-i-preserved : goal.loop-i-preserved
loop-i-preserved c = one_done _ _ _ _ c.loop-i.invariant _ _ (search rules) refl refl

pub returns : goal.returns
returns c = emptied _ _ _ c.requires _ (words_end _ _ _ c.requires _ (λ j e. refl) _ _ c.loop-i-test.false c.loop-i.invariant)
