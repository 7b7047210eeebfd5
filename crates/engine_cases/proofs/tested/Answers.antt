-- `engine_cases::tested`: what passes the sizes' and the policy's stages is legal. Assumes nothing.
use mathlib.Core.Path.{sym, ◌∙◌}
use Rattle.packet.specs.Sizes.{packet_count}
use Rattle.packet.proofs.Sizes.{counted_passed}
use Rattle.legality.proofs.AnswerLaws.{stages_legal}
use Rattle.engine_cases.proofs.tested.Goals as goal

pub returns : goal.returns
unfolding packet_count
returns c =
    let counted = counted_passed _ (sym c.packet_count.ensures ∙ c.in_ok-count.was) in
    let legal = stages_legal _ 0 _ (sym c.fields_stage.ensures ∙ c.in_ok-fields_stage.was) counted.0 (counted_passed _ (sym c.policy_stage.ensures ∙ c.in_ok-policy_stage.was)).0 in
    (legal.0, legal.1, counted.1)
