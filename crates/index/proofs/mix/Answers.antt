-- `index::mix` meets its contract. Assumes nothing.
use Rattle.index.proofs.Hashing.{mixed_is}
use Rattle.index.proofs.mix.Goals as goal

pub returns : goal.returns
returns c = mixed_is _ _
