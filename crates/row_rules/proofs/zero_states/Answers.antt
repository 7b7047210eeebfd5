-- `row_rules::zero_states` meets its contract. Assumes nothing.
use borrow.Author.Tests.{ne_eqb}
use mathlib.Core.Path.{◌∙◌}
use Rattle.row_rules.proofs.Looking.{left_nonzero, left_zero}
use Rattle.row_rules.proofs.zero_states.Goals as goal

pub returns-then-left-eq0 : goal.returns-then-left-eq0
returns-then-left-eq0 c = left_zero _ _ c.if-left-eq0.true

pub returns-else-left-eq0 : goal.returns-else-left-eq0
returns-else-left-eq0 c = ne_eqb _ _ c.if-left-eq0.false ∙ left_nonzero _ _ c.if-left-eq0.false
