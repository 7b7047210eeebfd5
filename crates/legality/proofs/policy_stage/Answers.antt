-- `policy_stage` meets its contract: causes 4, then 5 to 7, then 8, 19 and 9. Assumes nothing.
use mathlib.Core.Path.{sym, ap, ◌∙◌}
use Rattle.packet.specs.Refusals.{refused_at, Tested}
use Rattle.packet.specs.Sizes.{counted}
use Rattle.policy.specs.AsLists.{lists_of}
use Rattle.policy.specs.NodeLists.{node_count, dups_below}
use Rattle.packet.proofs.Sizes.{counted_as}
use Rattle.packet.proofs.Stages.{handed_on}
use Rattle.legality.proofs.AnswerLaws.{same_lengths, countable_children, lengths_refused, nodes_refused, nodes_passed}
use Rattle.legality.proofs.policy_stage.Goals as goal

pub returns-in_err-refused_at : goal.returns-in_err-refused_at
returns-in_err-refused_at c =
    handed_on _ c.from_residual.ensures.1 ∙ sym (counted_as _ (lengths_refused _ _ _ _ (sym (c.refused_at.ensures ∙ ap (refused_at 4 c.args.side) c.bad_lengths.ensures) ∙ c.in_err-refused_at.was)))

pub nodes_tested-requires : goal.nodes_tested-requires
nodes_tested-requires c = same_lengths _ _ (sym (c.refused_at.ensures ∙ ap (refused_at 4 c.args.side) c.bad_lengths.ensures) ∙ c.in_ok-refused_at.was)

pub returns-in_err-nodes_tested : goal.returns-in_err-nodes_tested
returns-in_err-nodes_tested c =
    handed_on _ c.from_residual-in_err-nodes_tested.ensures.1
    ∙ sym (counted_as _ (nodes_refused _ _ _ _ (sym (c.refused_at.ensures ∙ ap (refused_at 4 c.args.side) c.bad_lengths.ensures) ∙ c.in_ok-refused_at.was) (sym c.nodes_tested.ensures ∙ c.in_err-nodes_tested.was)))

pub tree_tested-requires : goal.tree_tested-requires
tree_tested-requires c =
    countable_children _ _ _ (sym (c.refused_at.ensures ∙ ap (refused_at 4 c.args.side) c.bad_lengths.ensures) ∙ c.in_ok-refused_at.was) (sym c.nodes_tested.ensures ∙ c.in_ok-nodes_tested.was)

pub returns : goal.returns
returns c =
    c.tree_tested.ensures
    ∙ ap (λ (t : Tested). counted t (dups_below (lists_of c.args.policy) (node_count (lists_of c.args.policy)))) (sym (nodes_passed _ _ _ (sym (c.refused_at.ensures ∙ ap (refused_at 4 c.args.side) c.bad_lengths.ensures) ∙ c.in_ok-refused_at.was) (sym c.nodes_tested.ensures ∙ c.in_ok-nodes_tested.was)))
