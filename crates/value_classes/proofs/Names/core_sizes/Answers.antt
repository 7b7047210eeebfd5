-- `Names::core_sizes` meets its contract: the starts are those of its keys. Assumes nothing.
use Rattle.value_classes.proofs.FieldLaws.{starts_named}
use Rattle.value_classes.proofs.Names.core_sizes.Goals as goal

pub core_sizes-requires : goal.core_sizes-requires
core_sizes-requires c = (c.requires, starts_named c.args.self.now.named)
