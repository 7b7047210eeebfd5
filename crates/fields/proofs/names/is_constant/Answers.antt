-- `is_constant` meets its contract. Assumes nothing.
use mathlib.Core.Path.{sym, ap, ◌∙◌}
use Rattle.packet.proofs.Tests.{clash}
use Rattle.fields.specs.Names.{same_word, is_constant}
use Rattle.fields.proofs.names.is_constant.Goals as goal
use Rattle.fields.proofs.names.is_constant.Goals.{then-eq, else-eq}

pub returns-then-eq-2 : goal.returns-then-eq-2
unfolding is_constant
returns-then-eq-2 c =
    elim c.if-eq.branch [
      | then-eq w ↦ rw (sym (ap (same_word c.args.w.now) c.as_slice.ensures) ∙ sym c.eq.ensures ∙ w.if-eq.true) c.if-eq-2.true
      | else-eq w ↦ rw (sym (ap (same_word c.args.w.now) c.as_slice.ensures) ∙ sym c.eq.ensures ∙ w.if-eq.false, sym (ap (same_word c.args.w.now) w.as_slice-else-eq.ensures) ∙ sym w.eq-else-eq.ensures ∙ sym w.value-is ∙ c.if-eq-2.true) c.if-eq-2.true
    ]

pub returns-else-eq-2 : goal.returns-else-eq-2
unfolding is_constant
returns-else-eq-2 c =
    elim c.if-eq.branch [
      | then-eq w ↦ clash (w.value-is ∙ w.if-eq.true) c.if-eq-2.false
      | else-eq w ↦ rw (sym (ap (same_word c.args.w.now) c.as_slice.ensures) ∙ sym c.eq.ensures ∙ w.if-eq.false, sym (ap (same_word c.args.w.now) w.as_slice-else-eq.ensures) ∙ sym w.eq-else-eq.ensures ∙ sym w.value-is ∙ c.if-eq-2.false) (c.eq-else-eq-2.ensures ∙ ap (same_word c.args.w.now) c.as_slice-else-eq-2.ensures)
    ]
