-- `note_node` meets its contract. Assumes nothing.
use Rattle.mentions.proofs.Noting.{of_field_noted, lower_passed, higher_passed}
use Rattle.mentions.proofs.note_node.Goals as goal
use Rattle.mentions.proofs.note_node.Goals.{else-kind-ge2-via-then-kind-ge2+else-kind-le4, else-kind-ge2-via-else-kind-ge2}

pub returns-then-kind-le4 : goal.returns-then-kind-le4
returns-then-kind-le4 c = of_field_noted _ _ _ _ _ c.if-kind-ge2.true c.if-kind-le4.true c.note_field.ensures

pub returns-else-kind-ge2 : goal.returns-else-kind-ge2
returns-else-kind-ge2 c =
    elim c.else-kind-ge2.branch [
      | else-kind-ge2-via-then-kind-ge2+else-kind-le4 w ↦ higher_passed _ _ _ _ w.if-kind-le4.false
      | else-kind-ge2-via-else-kind-ge2 w ↦ lower_passed _ _ _ _ w.if-kind-ge2.false
    ]
