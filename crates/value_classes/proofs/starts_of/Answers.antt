-- `starts_of` meets its contract: the starts of the fields so far are there. Assumes nothing.
use native.Mathlib.Omega.{arith}
use Rattle.value_classes.proofs.Filling.{filled_none, filled_more}
use Rattle.value_classes.proofs.FieldLaws.{starts_found}
use Rattle.value_classes.proofs.starts_of.Goals as goal

pub loop-field-init : goal.loop-field-init
loop-field-init c = filled_none _ _ _ (omega arith)

pub loop-field-preserved : goal.loop-field-preserved
loop-field-preserved c = rw c.from.ensures (filled_more _ _ _ _ _ (omega arith) c.loop-field.invariant (rw c.key.ensures at c.rank.ensures))

pub returns : goal.returns
returns c = starts_found _ _ _ (omega arith) c.loop-field.invariant
