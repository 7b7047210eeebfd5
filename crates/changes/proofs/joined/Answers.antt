-- `joined` meets its contract. Assumes nothing.
use borrow.Author.Rules.{rules}
use Rattle.changes.proofs.Folds.{joined_bits}
use Rattle.changes.proofs.joined.Goals as goal

pub returns : goal.returns
returns c = rw (c.from.ensures, c.from-2.ensures) (joined_bits _ _ _ (search rules))
