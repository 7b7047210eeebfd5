-- `class_count` meets its contract. Assumes nothing.
use Rattle.value_classes.proofs.FieldLaws.{count_rest, count_named}
use Rattle.value_classes.proofs.class_count.Goals as goal

pub returns-then-named-size : goal.returns-then-named-size
returns-then-named-size c = count_rest _ _ c.if-named-size.true

pub returns-else-named-size : goal.returns-else-named-size
returns-else-named-size c = count_named _ _ c.if-named-size.false
