-- `tree_tested` meets its contract: the causes in order, and the number of dups. Assumes nothing.
use mathlib.Core.Path.{sym, ap, ◌∙◌}
use Rattle.packet.specs.Refusals.{refusal, refused_at}
use Rattle.policy.specs.AsLists.{lists_of}
use Rattle.legality.proofs.AnswerLaws.{tree_passes, tree_refused}
use Rattle.packet.proofs.Sizes.{counted_as}
use Rattle.packet.proofs.Stages.{handed_on, first_refused_refused, first_refused_next}
use Rattle.policy.specs.NodeLists.{node_count}
use Rattle.legality.specs.Answers.{tree_stage}
use Rattle.legality.proofs.tree_tested.Goals as goal

pub returns-in_err-refused_at : goal.returns-in_err-refused_at
unfolding tree_stage node_count
returns-in_err-refused_at c =
    handed_on _ c.from_residual.ensures.1 ∙ sym (counted_as _ (first_refused_refused _ _ _ (sym (c.refused_at.ensures ∙ ap (refused_at 8 c.args.side) c.not_once.ensures) ∙ c.in_err-refused_at.was)))

pub returns-in_err-refused_at-2 : goal.returns-in_err-refused_at-2
unfolding tree_stage node_count
returns-in_err-refused_at-2 c =
    handed_on _ c.from_residual-in_err-refused_at-2.ensures.1
    ∙ sym (counted_as _ (first_refused_next _ _ (sym (c.refused_at.ensures ∙ ap (refused_at 8 c.args.side) c.not_once.ensures) ∙ c.in_ok-refused_at.was)
    ∙ first_refused_refused _ _ _ (sym (c.refused_at-2.ensures ∙ ap (refused_at 19 c.args.side) c.bad_negation.ensures) ∙ c.in_err-refused_at-2.was)))

pub returns-in-Ok : goal.returns-in-Ok
unfolding node_count
returns-in-Ok c =
    let h = c.in-Ok.ensures c.args.policy.first.now c.args.policy.second.now in
    tree_passes c.args.side (lists_of c.args.policy) (sym (c.refused_at.ensures ∙ ap (refused_at 8 c.args.side) c.not_once.ensures) ∙ c.in_ok-refused_at.was) (sym (c.refused_at-2.ensures ∙ ap (refused_at 19 c.args.side) c.bad_negation.ensures) ∙ c.in_ok-refused_at-2.was) h.0 h.1

pub returns-in-Err : goal.returns-in-Err
unfolding node_count refusal
returns-in-Err c =
    tree_refused c.args.side (lists_of c.args.policy) (sym (c.refused_at.ensures ∙ ap (refused_at 8 c.args.side) c.not_once.ensures) ∙ c.in_ok-refused_at.was) (sym (c.refused_at-2.ensures ∙ ap (refused_at 19 c.args.side) c.bad_negation.ensures) ∙ c.in_ok-refused_at-2.was) (c.in-Err.ensures c.args.policy.first.now c.args.policy.second.now)
