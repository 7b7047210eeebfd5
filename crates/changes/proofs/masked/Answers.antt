-- `masked` meets its contract. Assumes nothing.
use Rattle.changes.proofs.Folds.{masked_none, masked_some}
use Rattle.changes.proofs.masked.Goals as goal

pub returns-then-mask-eq0 : goal.returns-then-mask-eq0
returns-then-mask-eq0 c = masked_none _ _ _ _ _ c.if-mask-eq0.true

pub returns-else-mask-eq0 : goal.returns-else-mask-eq0
returns-else-mask-eq0 c = masked_some _ _ _ _ _ _ c.gather.ensures
