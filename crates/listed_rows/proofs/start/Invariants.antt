-- `listed_rows::start` meets its contract: a starting row is listed after another. Assumes nothing.
use Rattle.index.specs.Lent.{SameLists}
use Rattle.index.specs.Appending.{lists_in}
use Rattle.listed_rows.proofs.Growing.{StartedTo}
use Rattle.listed_rows.proofs.start.Given as goal

abbrev pub invariant-loop-packet : goal.invariant-loop-packet
invariant-loop-packet l = (SameLists l.initial.rows l.rows) × StartedTo (lists_in l.initial.rows l.initial.trees) (lists_in l.rows l.trees) l.count l.n l.packet
