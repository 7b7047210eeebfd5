-- `nodes_tested` meets its contract: the causes in order. Assumes nothing.
use mathlib.Core.Path.{sym, ap, ◌∙◌}
use Rattle.packet.specs.Refusals.{refused_at}
use Rattle.packet.proofs.Stages.{handed_on, first_refused_refused, first_refused_next, first_refused_last}
use Rattle.policy.specs.NodeLists.{node_count}
use Rattle.policy.specs.Legality.{bad_kind}
use Rattle.legality.specs.Answers.{nodes_stage}
use Rattle.legality.proofs.nodes_tested.Goals as goal

pub returns-in_err-refused_at : goal.returns-in_err-refused_at
unfolding nodes_stage node_count bad_kind
returns-in_err-refused_at c =
    handed_on _ c.from_residual.ensures.1 ∙ sym (first_refused_refused _ _ _ (sym (c.refused_at.ensures ∙ ap (refused_at 5 c.args.side) c.bad_kind.ensures) ∙ c.in_err-refused_at.was))

pub returns-in_err-refused_at-2 : goal.returns-in_err-refused_at-2
unfolding nodes_stage node_count bad_kind
returns-in_err-refused_at-2 c =
    handed_on _ c.from_residual-in_err-refused_at-2.ensures.1
    ∙ sym (first_refused_next _ _ (sym (c.refused_at.ensures ∙ ap (refused_at 5 c.args.side) c.bad_kind.ensures) ∙ c.in_ok-refused_at.was)
    ∙ first_refused_refused _ _ _ (sym (c.refused_at-2.ensures ∙ ap (refused_at 6 c.args.side) c.bad_entries.ensures) ∙ c.in_err-refused_at-2.was))

pub returns : goal.returns
unfolding nodes_stage node_count bad_kind
returns c =
    c.refused_at-3.ensures
    ∙ ap (refused_at 7 c.args.side) c.bad_child.ensures
    ∙ sym (first_refused_next _ _ (sym (c.refused_at.ensures ∙ ap (refused_at 5 c.args.side) c.bad_kind.ensures) ∙ c.in_ok-refused_at.was)
    ∙ first_refused_next _ _ (sym (c.refused_at-2.ensures ∙ ap (refused_at 6 c.args.side) c.bad_entries.ensures) ∙ c.in_ok-refused_at-2.was)
    ∙ first_refused_last _)
