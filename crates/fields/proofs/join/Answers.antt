-- `join` meets its contract: the causes in their order. Assumes nothing.
use mathlib.Core.Path.{sym, ap, ◌∙◌}
use Rattle.std.proofs.Common.{Err}
use Rattle.packet.proofs.Stages.{handed_on}
use Rattle.fields.proofs.CauseLaws.{matched, answer_joined, answer_refused, left_mismatched, right_mismatched, tables_refused, tables_passed}
use Rattle.fields.proofs.join.Goals as goal
use Rattle.fields.proofs.join.Goals.{then-is_mismatched-via-then-is_mismatched, then-is_mismatched-via-else-is_mismatched+then-is_mismatched-2}

pub returns-then-is_mismatched : goal.returns-then-is_mismatched
returns-then-is_mismatched c =
    elim c.then-is_mismatched.branch [
      | then-is_mismatched-via-then-is_mismatched w ↦ left_mismatched _ _ (sym c.is_mismatched.ensures ∙ w.if-is_mismatched.true)
      | then-is_mismatched-via-else-is_mismatched+then-is_mismatched-2 w ↦ right_mismatched _ _ (sym c.is_mismatched.ensures ∙ w.if-is_mismatched.false) (sym w.is_mismatched-else-is_mismatched.ensures ∙ w.if-is_mismatched-2.true)
    ]
    ∙ sym (ap Err c.unsided.ensures)

pub names_and_sizes-requires : goal.names_and_sizes-requires
names_and_sizes-requires c = (matched _ (sym c.is_mismatched.ensures ∙ c.if-is_mismatched.false), matched _ (sym c.is_mismatched-else-is_mismatched.ensures ∙ c.if-is_mismatched-2.false))

pub returns-in_err-names_and_sizes : goal.returns-in_err-names_and_sizes
returns-in_err-names_and_sizes c =
    answer_refused _ c.from_residual.result (handed_on _ c.from_residual.ensures.1)
    (tables_refused _ _ (sym c.is_mismatched.ensures ∙ c.if-is_mismatched.false) (sym c.is_mismatched-else-is_mismatched.ensures ∙ c.if-is_mismatched-2.false) (sym c.names_and_sizes.ensures ∙ c.in_err-names_and_sizes.was))

pub joined-requires : goal.joined-requires
joined-requires c = (matched _ (sym c.is_mismatched.ensures ∙ c.if-is_mismatched.false), matched _ (sym c.is_mismatched-else-is_mismatched.ensures ∙ c.if-is_mismatched-2.false))

pub returns : goal.returns
returns c =
    answer_joined _ c.joined.result
    (tables_passed _ _ (sym c.is_mismatched.ensures ∙ c.if-is_mismatched.false) (sym c.is_mismatched-else-is_mismatched.ensures ∙ c.if-is_mismatched-2.false) (sym c.names_and_sizes.ensures ∙ c.in_ok-names_and_sizes.was))
    c.joined.ensures
