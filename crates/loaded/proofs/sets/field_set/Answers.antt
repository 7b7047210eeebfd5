-- `field_set` meets its contract, case by case. Assumes nothing.
use mathlib.Core.Path.{ap}
use Rattle.policy.specs.Legality.{field_of, value_of}
use Rattle.loaded.proofs.Testing.{equals_set, differs_set, change_set, field_declared}
use Rattle.loaded.proofs.sets.field_set.Goals as goal

pub with_value-requires : goal.with_value-requires
unfolding field_of value_of
with_value-requires c = (c.requires.sized, c.requires.counted, field_declared _ _ _ _ c.requires _ _ (ap field_of c.in-Equals.is) (ap value_of c.in-Equals.is))

pub with_value-set-requires : goal.with_value-set-requires
unfolding field_of value_of
with_value-set-requires c = (c.requires.sized, c.requires.counted, field_declared _ _ _ _ c.requires _ _ (ap field_of c.in-Differs.is) (ap value_of c.in-Differs.is))

pub returns-in-Equals : goal.returns-in-Equals
returns-in-Equals c = equals_set _ _ _ _ _ c.in-Equals.is c.with_value.ensures

pub returns-in-Differs : goal.returns-in-Differs
returns-in-Differs c = differs_set _ _ _ _ _ _ _ _ c.requires c.in-Differs.is c.with_value-set.ensures c.exclusive_or.ensures

pub returns-in-Set : goal.returns-in-Set
returns-in-Set c = change_set _ _ _ _ _ c.in-Set.is c.empty.ensures
