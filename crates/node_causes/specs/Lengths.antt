-- What cause 4 leaves to the causes after it.
use Rattle.std.specs.Prelude.{◌≡◌, length}
use Rattle.policy.specs.NodeLists.{NodeLists, node_count}

-- the three lists are equally long
pub record SameLengths (L : NodeLists) : Type 0 where
  pub firsts : length L.first ≡ node_count L
  pub seconds : length L.second ≡ node_count L
