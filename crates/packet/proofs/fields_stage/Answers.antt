-- `packet::fields_stage` meets its contract: the two tests of the count, then the lowest size of 0.
-- Assumes nothing.
use Rattle.std.proofs.Common.{Err}
use mathlib.Core.Path.{ap, sym, ◌∙◌}
use Rattle.packet.specs.Refusals.{refused_at}
use Rattle.packet.proofs.Stages.{none_declared, too_many, few_fields, zero_place}
use Rattle.packet.proofs.fields_stage.Goals as goal
use Rattle.packet.proofs.fields_stage.Goals.{then-k-eq0-via-then-k-eq0, then-k-eq0-via-else-k-eq0+then-k-gt8}

pub returns-then-k-eq0 : goal.returns-then-k-eq0
returns-then-k-eq0 c =
    ap Err c.unsided.ensures
    ∙ elim c.then-k-eq0.branch [
      | then-k-eq0-via-then-k-eq0 w ↦ sym (none_declared _ w.if-k-eq0.true)
      | then-k-eq0-via-else-k-eq0+then-k-gt8 w ↦ sym (too_many _ w.if-k-eq0.false w.if-k-gt8.true)
    ]

pub returns : goal.returns
returns c = c.refused_at.ensures ∙ ap (refused_at 2 0) (c.lowest_zero.ensures ∙ zero_place _) ∙ sym (few_fields _ c.if-k-eq0.false c.if-k-gt8.false)
