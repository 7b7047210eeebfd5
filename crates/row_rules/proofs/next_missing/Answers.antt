-- `row_rules::next_missing` meets its contract. Assumes nothing.
use Rattle.row_rules.proofs.Looking.{next_zero, next_looked}
use Rattle.row_rules.proofs.next_missing.Goals as goal

pub returns-then-zero_states : goal.returns-then-zero_states
returns-then-zero_states c = next_zero _ _ _ _ _ _ _ c.zero_states.ensures c.if-zero_states.true

pub returns : goal.returns
returns c = next_looked _ _ _ _ _ _ _ c.zero_states.ensures c.if-zero_states.false _ c.find.ensures
