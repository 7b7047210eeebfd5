-- `index::place_new` meets its contract. Assumes nothing.
use mathlib.Core.Path.{◌∙◌, refl}
use borrow.Author.Rules.{rules}
use Rattle.index.proofs.States.{states_equal}
use Rattle.index.proofs.Adding.{new_dead, new_placed}
use Rattle.index.proofs.place_new.Goals as goal

pub returns-then-eq : goal.returns-then-eq
returns-then-eq c = new_dead _ (c.eq.ensures ∙ states_equal _ _ (search rules) refl) c.if-eq.true

pub returns : goal.returns
returns c = rw c.err.ensures.value (new_placed _ (c.eq.ensures ∙ states_equal _ _ (search rules) refl) c.if-eq.false _ c.place.ensures)
