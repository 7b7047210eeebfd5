-- `add` meets its contract. Assumes nothing.
use Rattle.changes.proofs.Walking.{added}
use Rattle.changes.proofs.add.Goals as goal

pub returns : goal.returns
returns c = added _ _ c.requires.0 _ _ c.requires.1 _ _ (rw c.from-w.ensures at c.hull.ensures) _ c.insert.ensures
