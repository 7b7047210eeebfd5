-- `put` meets its contract. Assumes nothing.
use Rattle.loaded.proofs.Labelling.{placed_dup, placed_none, not_dup}
use Rattle.loaded.proofs.dups.put.Goals as goal

pub returns-in-Dup : goal.returns-in-Dup
returns-in-Dup c = rw c.from.ensures (placed_dup _ _ _ _ c.in-Dup.is)

pub returns-in_default : goal.returns-in_default
returns-in_default c = placed_none _ _ _ _ (not_dup _ c.in_default.not-Dup)
