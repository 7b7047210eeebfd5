-- `empty` meets its contract. Assumes nothing.
use mathlib.Core.Path.{refl}
use Rattle.packet_set.specs.InnerMembers.{empty_set}
use Rattle.packet_set.proofs.empty.Goals as goal

pub returns : goal.returns
unfolding empty_set
returns c = refl
