-- `give` meets its contract. Assumes nothing.
use Rattle.loaded.proofs.numbering.give.Goals as goal

pub test_set-set-requires : goal.test_set-set-requires
test_set-set-requires c = (c.requires.0, (c.requires.2 _ c.in-Some.is).0)
