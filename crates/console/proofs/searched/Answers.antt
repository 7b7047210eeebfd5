-- `searched` meets its contract. Assumes nothing.
use Rattle.console.specs.Answer.{program_lent}
use Rattle.console.proofs.Printing.{texts_in, shows, printed}
use Rattle.console.proofs.searched.Goals as goal

pub show-requires : goal.show-requires
unfolding program_lent
show-requires c = let k = c.columns.ensures in (c.requires, shows (texts_in c.search-verdict.new.rows c.search-verdict.ensures.searched k.packets k.left k.right))

pub returns : goal.returns
unfolding program_lent
returns c = let k = c.columns.ensures in printed (texts_in c.search-verdict.new.rows c.search-verdict.ensures.searched k.packets k.left k.right) c.show.ensures
