-- `table_checked` meets its contract. Assumes nothing.
use Rattle.evidence.proofs.Stepping.{table_broken, table_cleared, table_kept}
use Rattle.evidence.proofs.table_checked.Goals as goal

pub index_chosen-requires : goal.index_chosen-requires
index_chosen-requires c = table_cleared _ _ _ _ _ _ c.requires.lent_table c.clear.ensures c.requires.stray_is c.in-None.is

pub returns-in-Some : goal.returns-in-Some
returns-in-Some c = table_broken _ _ _ _ _ _ c.requires.lent_table c.clear.ensures c.requires.stray_is _ c.in-Some.is

pub returns-in-None : goal.returns-in-None
returns-in-None c = table_kept _ _ _ _ _ _ c.requires.lent_table c.clear.ensures c.requires.stray_is c.in-None.is c.index_chosen.ensures
