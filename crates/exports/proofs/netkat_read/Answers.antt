-- `netkat_read` meets its contract. Assumes nothing.
use borrow.Author.Rules.{rules}
use Rattle.exports.proofs.Laws.{read_out}
use Rattle.exports.proofs.netkat_read.Goals as goal

pub returns : goal.returns
returns c = read_out c.tables.ensures c.read.ensures (search rules)
