-- `full` meets its contract. Assumes nothing.
use mathlib.Core.Path.{refl}
use Rattle.packet.specs.Refusals.{refusal}
use Rattle.verdict.specs.Verdicts.{verdict_of}
use Rattle.verdict.proofs.full.Goals as goal

pub returns : goal.returns
unfolding verdict_of refusal
returns c = refl
