-- `search` meets its contract. Assumes nothing.
use Rattle.search.proofs.Answering.{tests_refuse, tests_pass, accepts, refuses, promised}
use Rattle.search.proofs.search.Goals as goal

pub search_accepted-requires : goal.search_accepted-requires
search_accepted-requires c = let h = tests_pass _ _ _ _ c.lists_stage-lists.ensures c.in-Ok.ensures in accepts _ h.0 _ h.1 h.2

pub returns-in-Err-clause-searched : goal.returns-in-Err-clause-searched
returns-in-Err-clause-searched c = refuses _ (tests_refuse _ _ _ _ c.lists_stage-lists.ensures c.in-Err.ensures)

pub returns-in-Ok-clause-searched : goal.returns-in-Ok-clause-searched
returns-in-Ok-clause-searched c = let h = tests_pass _ _ _ _ c.lists_stage-lists.ensures c.in-Ok.ensures in promised h.0 h.2 c.search_accepted.ensures.done
