-- `tables::store` meets its contract.
use Rattle.input.proofs.EntryLaws.{store_none, store_one}
use Rattle.input.proofs.tables.store.Goals as goal

pub returns-in_default : goal.returns-in_default
returns-in_default c = store_none _ _ _ _ _ c.in_default.ensures

pub returns : goal.returns
returns c = store_one _ c.in-Some.ensures c.write_cell.ensures
