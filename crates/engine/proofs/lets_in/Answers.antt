-- `lets_in` meets its contract. Assumes nothing.
use Rattle.engine.proofs.Visits.{none_met}
use Rattle.engine.proofs.lets_in.Goals as goal

pub returns-else-k-eq0 : goal.returns-else-k-eq0
returns-else-k-eq0 c = none_met _ _ _ _ _ c.set_in-k.ensures c.if-k-eq0.false c.meets.ensures
