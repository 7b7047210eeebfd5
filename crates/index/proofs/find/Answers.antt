-- `index::find` meets its contract. Assumes nothing.
use mathlib.Core.Path.{◌∙◌}
use Rattle.index.proofs.Looking.{found}
use Rattle.index.proofs.find.Goals as goal

pub returns : goal.returns
returns c = c.is_ok.ensures.value ∙ found _ c.place.ensures
