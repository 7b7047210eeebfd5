-- `netkat_search_texts` meets its contract. Assumes nothing.
use Rattle.exports.proofs.Laws.{texts_out}
use borrow.Author.Rules.{rules}
use Rattle.exports.proofs.netkat_search_texts.Goals as goal

pub returns : goal.returns
returns c = texts_out c.tables.ensures c.search.new.rows c.search.ensures.searched (search rules) (search rules) (search rules) (search rules) c.of_verdict.ensures
