-- `goes_on` meets its contract. Assumes nothing.
use Rattle.row_handling.proofs.Stepping.{goes_open, goes_done}
use Rattle.row_handling.proofs.goes_on.Goals as goal

pub returns-then-handled-listed : goal.returns-then-handled-listed
returns-then-handled-listed c = goes_open _ _ c.if-handled-listed.true

pub returns-else-handled-listed : goal.returns-else-handled-listed
returns-else-handled-listed c = goes_done _ _ c.if-handled-listed.false
