-- `packet::unsided` meets its contract. Assumes nothing.
use mathlib.Core.Path.{refl}
use Rattle.packet.specs.Refusals.{refusal}
use Rattle.packet.proofs.unsided.Goals as goal

pub returns : goal.returns
unfolding refusal
returns c = refl
