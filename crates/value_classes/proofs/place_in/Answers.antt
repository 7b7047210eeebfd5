-- `place_in` meets its contract. Assumes nothing.
use mathlib.Core.Path.{◌∙◌}
use Rattle.value_classes.proofs.PlaceLaws.{place_found}
use Rattle.value_classes.proofs.place_in.Goals as goal

pub returns : goal.returns
returns c = c.unwrap_or.ensures ∙ place_found _ _ _ c.requires.0 c.binary_search.ensures.position
