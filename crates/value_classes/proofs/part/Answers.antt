-- `part` meets its contract: the starts of a field's keys are in order, and within the keys. Assumes nothing.
use native.Mathlib.Omega.{arith}
use Rattle.value_classes.proofs.FieldLaws.{starts_named, starts_order, starts_inside, starts_few}
use Rattle.value_classes.proofs.part.Goals as goal

pub offset_bounds-all-starts : goal.offset_bounds-all-starts
offset_bounds-all-starts c = rw c.from-f.ensures (omega (arith, starts_order c.requires.1 (starts_named c.requires.0), starts_few c.requires.1 (starts_named c.requires.0)))

pub slice_bounds-result-count : goal.slice_bounds-result-count
slice_bounds-result-count c = rw c.from-f.ensures (starts_order c.requires.1 (starts_named c.requires.0))

pub slice_bounds-result-start : goal.slice_bounds-result-start
slice_bounds-result-start c = rw c.from-f.ensures (starts_order c.requires.1 (starts_named c.requires.0))

pub slice_bounds-result-end : goal.slice_bounds-result-end
slice_bounds-result-end c = rw c.from-f.ensures (starts_inside c.requires.1 c.requires.0)
