-- `class_of` meets its contract: the place of the value's key in the part of its field. Assumes nothing.
use Rattle.value_classes.proofs.FieldLaws.{field_ascending, field_few, class_is}
use Rattle.value_classes.proofs.class_of.Goals as goal

pub place_in-requires : goal.place_in-requires
place_in-requires c = (field_ascending c.requires.1 c.requires.0 c.part.ensures, field_few c.requires.1 c.requires.0 c.part.ensures)

pub returns : goal.returns
returns c = class_is _ _ _ c.requires.1 c.part.ensures _ _ _ c.key.ensures c.place_in.ensures
