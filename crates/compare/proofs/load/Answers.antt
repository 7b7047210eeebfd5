-- `load` meets its contract. Assumes nothing.
use Rattle.compare.proofs.Comparing.{load_both}
use Rattle.compare.proofs.load.Goals as goal

pub returns : goal.returns
returns c = load_both c.requires _ _ _ _ c.load.ensures c.load-2.ensures
