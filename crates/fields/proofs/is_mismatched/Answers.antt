-- `is_mismatched` meets its contract. Assumes nothing.
use Rattle.fields.specs.Tables.{mismatched}
use Rattle.fields.proofs.TableLaws.{no_cells, some_cells}
use Rattle.fields.proofs.is_mismatched.Goals as goal

pub returns-then-table-ne0 : goal.returns-then-table-ne0
unfolding mismatched
returns-then-table-ne0 c = no_cells _ _ c.if-table-ne0.true

pub returns-else-table-ne0 : goal.returns-else-table-ne0
unfolding mismatched
returns-else-table-ne0 c = some_cells _ _ c.if-table-ne0.false
