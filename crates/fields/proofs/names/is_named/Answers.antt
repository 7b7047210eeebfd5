-- `is_named` meets its contract. Assumes nothing.
use mathlib.Core.Path.{ap, ◌∙◌}
use Rattle.std.proofs.Common.{is_some}
use Rattle.fields.specs.Names.{is_named}
use Rattle.fields.proofs.names.is_named.Goals as goal

pub returns : goal.returns
unfolding is_named
returns c = c.is_some.ensures ∙ ap is_some c.find.ensures
