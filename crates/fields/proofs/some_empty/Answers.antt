-- `some_empty` meets its contract. Assumes nothing.
use Rattle.std.proofs.Common.{Err}
use mathlib.Core.Path.{sym, ap, ◌∙◌, refl}
use Rattle.packet.specs.Refusals.{refused_at, at_place}
use Rattle.fields.specs.Tables.{any_table, is_empty}
use Rattle.fields.proofs.some_empty.Goals as goal
use Rattle.fields.proofs.some_empty.Goals.{then-is_empty-via-then-is_empty, then-is_empty-via-else-is_empty+then-is_empty-2}

pub returns-then-is_empty : goal.returns-then-is_empty
unfolding any_table is_empty refused_at at_place
returns-then-is_empty c =
    ap Err c.unsided.ensures
    ∙ elim c.then-is_empty.branch [
      | then-is_empty-via-then-is_empty w ↦ rw (sym c.is_empty.ensures ∙ w.if-is_empty.true) refl
      | then-is_empty-via-else-is_empty+then-is_empty-2 w ↦ rw (sym c.is_empty.ensures ∙ w.if-is_empty.false, sym w.is_empty-else-is_empty.ensures ∙ w.if-is_empty-2.true) refl
    ]

pub returns : goal.returns
unfolding any_table is_empty refused_at at_place
returns c = rw (sym c.is_empty.ensures ∙ c.if-is_empty.false, sym c.is_empty-else-is_empty.ensures ∙ c.if-is_empty-2.false) refl
