-- `act` meets its contract. Assumes nothing.
use Rattle.engine.proofs.Visits.{act_set, act_tests, act_asks}
use Rattle.engine.proofs.act.Goals as goal

pub change-requires : goal.change-requires
change-requires c = act_asks c.in-Set.is c.requires

pub returns-in-Set : goal.returns-in-Set
returns-in-Set c = act_set _ _ _ _ _ _ _ _ c.in-Set.is c.change.ensures

pub returns-in-Equals : goal.returns-in-Equals
returns-in-Equals c = act_tests _ _ _ _ _ _ c.in-Equals.is
