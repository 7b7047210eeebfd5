-- `starts_checked` meets its contract. Assumes nothing.
use Rattle.evidence.proofs.Stepping.{load_ready, loaded_ready, starts_broken, starts_kept}
use Rattle.evidence.proofs.starts_checked.Goals as goal

pub load-requires : goal.load-requires
load-requires c = load_ready _ _ _ _ _ _ c.requires.cleared

pub rows_checked-requires : goal.rows_checked-requires
rows_checked-requires c = loaded_ready _ _ _ _ _ _ c.requires.cleared c.load.ensures c.index_rows.ensures

pub returns-in-Some : goal.returns-in-Some
returns-in-Some c = starts_broken _ _ _ _ _ _ c.requires.cleared c.first_start_missing.ensures _ c.in-Some.is

pub returns-in-None : goal.returns-in-None
returns-in-None c = starts_kept _ _ _ _ _ _ c.requires.cleared c.first_start_missing.ensures c.in-None.is c.load.ensures c.rows_checked.ensures
