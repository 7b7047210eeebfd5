-- `pair_legality` meets its contract: what the front says. Assumes nothing.
use mathlib.Core.Path.{◌∙◌}
use Rattle.packet.proofs.Stages.{handed_on}
use Rattle.legality.proofs.AnswerLaws.{pair_refused, pair_passed}
use Rattle.legality.proofs.pair_legality.Goals as goal

pub returns-in_err-found : goal.returns-in_err-found
returns-in_err-found c = handed_on _ c.from_residual.ensures.1 ∙ pair_refused _ _ _ c.in_err-found.ensures

pub returns : goal.returns
returns c = pair_passed _ _ _ c.in_ok-found.ensures.0 c.in_ok-found.ensures.1.left_dups c.in_ok-found.ensures.1.right_dups
