-- `words_for` meets its contract. Assumes nothing.
use native.Mathlib.Omega.{arith}
use Rattle.packet_set.specs.InnerMembers.{words_for}
use Rattle.packet_set.proofs.words_for.Goals as goal

pub returns : goal.returns
unfolding words_for
returns c = omega arith
