-- `search` meets its contract.
use Rattle.search_texts.proofs.Running.{refused_by, searched}
use Rattle.search_texts.proofs.search.Goals as goal

pub returns-in-Err-clause-searched : goal.returns-in-Err-clause-searched
returns-in-Err-clause-searched c = refused_by _ _ _ _ _ (c.in-Err.ensures _)

pub returns-in-Ok-clause-searched : goal.returns-in-Ok-clause-searched
returns-in-Ok-clause-searched c = searched _ _ _ _ _ c.in-Ok.l c.in-Ok.r c.in-Ok.ensures.0 c.in-Ok.ensures.1 c.policy.ensures c.policy-in-Ok.ensures c.search.ensures.searched
