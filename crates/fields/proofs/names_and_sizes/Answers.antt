-- `names_and_sizes` meets its contract: the four tests in their order. Assumes nothing.
use mathlib.Core.Path.{sym, ap, ◌∙◌}
use Rattle.packet.specs.Refusals.{refused_at}
use Rattle.packet.proofs.Stages.{handed_on, first_refused_refused, first_refused_next, first_refused_last}
use Rattle.fields.specs.Tables.{any_table, is_empty}
use Rattle.fields.proofs.CauseLaws.{four}
use Rattle.fields.proofs.names_and_sizes.Goals as goal

pub returns-in_err-refused_at : goal.returns-in_err-refused_at
returns-in_err-refused_at c =
    handed_on _ c.from_residual.ensures.1
    ∙ sym (four _ _ _ _ c.requires.0 c.requires.1 ∙ first_refused_refused _ _ _ (sym (c.refused_at.ensures ∙ ap (refused_at 20 1) c.first_bad.ensures) ∙ c.in_err-refused_at.was))

pub returns-in_err-refused_at-2 : goal.returns-in_err-refused_at-2
returns-in_err-refused_at-2 c =
    handed_on _ c.from_residual-in_err-refused_at-2.ensures.1
    ∙ sym (four _ _ _ _ c.requires.0 c.requires.1
    ∙ first_refused_next _ _ (sym (c.refused_at.ensures ∙ ap (refused_at 20 1) c.first_bad.ensures) ∙ c.in_ok-refused_at.was)
    ∙ first_refused_refused _ _ _ (sym (c.refused_at-2.ensures ∙ ap (refused_at 20 2) c.first_bad-2.ensures) ∙ c.in_err-refused_at-2.was))

pub returns-in_err-refused_at-3 : goal.returns-in_err-refused_at-3
returns-in_err-refused_at-3 c =
    handed_on _ c.from_residual-in_err-refused_at-3.ensures.1
    ∙ sym (four _ _ _ _ c.requires.0 c.requires.1
    ∙ first_refused_next _ _ (sym (c.refused_at.ensures ∙ ap (refused_at 20 1) c.first_bad.ensures) ∙ c.in_ok-refused_at.was)
    ∙ first_refused_next _ _ (sym (c.refused_at-2.ensures ∙ ap (refused_at 20 2) c.first_bad-2.ensures) ∙ c.in_ok-refused_at-2.was)
    ∙ first_refused_refused _ _ _ (sym (c.refused_at-3.ensures ∙ ap (refused_at 21 1) c.two_sizes.ensures) ∙ c.in_err-refused_at-3.was))

pub returns : goal.returns
unfolding any_table is_empty
returns c =
    c.some_empty.ensures
    ∙ sym (four _ _ _ _ c.requires.0 c.requires.1
    ∙ first_refused_next _ _ (sym (c.refused_at.ensures ∙ ap (refused_at 20 1) c.first_bad.ensures) ∙ c.in_ok-refused_at.was)
    ∙ first_refused_next _ _ (sym (c.refused_at-2.ensures ∙ ap (refused_at 20 2) c.first_bad-2.ensures) ∙ c.in_ok-refused_at-2.was)
    ∙ first_refused_next _ _ (sym (c.refused_at-3.ensures ∙ ap (refused_at 21 1) c.two_sizes.ensures) ∙ c.in_ok-refused_at-3.was)
    ∙ first_refused_last _)
