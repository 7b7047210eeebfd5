-- `class_entry` meets its contract: kinds 2, 3 and 4 have the class of their value. Assumes nothing.
use native.Mathlib.Omega.{arith}
use Rattle.value_classes.proofs.NodeLaws.{naming, naming_none, of_eight}
use Rattle.value_classes.proofs.ListLaws.{named_entry, kept_entry}
use Rattle.value_classes.proofs.class_entry.Goals as goal

pub class_of-requires : goal.class_of-requires
class_of-requires c = (c.requires.0, of_eight c.requires.1 (naming _ _ _ (omega arith) (omega arith)))

pub returns-in-2 : goal.returns-in-2
returns-in-2 c = named_entry _ _ _ _ (naming _ _ _ (omega arith) (omega arith)) c.class_of.ensures

pub returns-in_default : goal.returns-in_default
returns-in_default c = kept_entry _ _ _ _ (naming_none _ _ _ (λ l h. omega arith))

pub returns-in_default-2 : goal.returns-in_default-2
returns-in_default-2 c = kept_entry _ _ _ _ (naming_none _ _ _ (λ l h. omega arith))
