-- `index::side_at` meets its contract. Assumes nothing.
use mathlib.Core.Path.{refl}
use Rattle.index.proofs.Trees.{side_is}
use Rattle.index.proofs.side_at.Goals as goal

pub returns : goal.returns
returns c = side_is _ _ _ refl
