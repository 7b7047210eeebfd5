-- `row_rules::row_fits` meets its contract. Assumes nothing.
use borrow.Author.Tests.{le-ltb}
use mathlib.Core.Path.{◌∙◌}
use Rattle.row_rules.proofs.Looking.{packet_over, packet_below}
use Rattle.row_rules.proofs.row_fits.Goals as goal

pub returns-then-row-count : goal.returns-then-row-count
returns-then-row-count c = c.states_fit.ensures ∙ packet_below _ _ _ c.if-row-count.true

pub returns-else-row-count : goal.returns-else-row-count
returns-else-row-count c = le-ltb _ _ c.if-row-count.false ∙ packet_over _ _ _ c.if-row-count.false
