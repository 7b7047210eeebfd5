-- `bits_from` meets its contract. Assumes nothing.
use Rattle.changes.proofs.Folds.{window}
use Rattle.changes.proofs.bits_from.Goals as goal

pub returns : goal.returns
returns c = window _ _ _ c.joined.ensures
