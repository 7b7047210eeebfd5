-- `netkat_search` meets its contract. Assumes nothing.
use borrow.Author.Rules.{rules}
use Rattle.search.proofs.Answering.{searched_in}
use Rattle.exports.proofs.Laws.{searched_out}
use Rattle.exports.proofs.netkat_search.Goals as goal

pub returns : goal.returns
returns c =
    let done = searched_in c.search.new.rows c.search.ensures.searched (search rules) (search rules) (search rules) (search rules) in
    searched_out c.tables.ensures c.policy.ensures c.policy-2.ensures done c.of_verdict.ensures
