-- `policy_legality` meets its contract: what the front says of the policy and drop. Assumes nothing.
use mathlib.Core.Path.{◌∙◌}
use Rattle.packet.proofs.Stages.{handed_on}
use Rattle.legality.proofs.AnswerLaws.{policy_refused, policy_passed}
use Rattle.legality.proofs.policy_legality.Goals as goal

pub returns-in_err-found : goal.returns-in_err-found
returns-in_err-found c = handed_on _ c.from_residual.ensures.1 ∙ policy_refused _ _ c.in_err-found.ensures

pub returns : goal.returns
returns c = policy_passed _ _ c.in_ok-found.ensures.0 c.in_ok-found.ensures.1.left_dups
