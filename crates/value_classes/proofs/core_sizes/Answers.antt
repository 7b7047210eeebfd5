-- `core_sizes` meets its contract: the class counts of the fields below f are there. Assumes nothing.
use native.Mathlib.Omega.{arith}
use Rattle.value_classes.proofs.Filling.{filled_none, filled_more}
use Rattle.value_classes.proofs.FieldLaws.{starts_order, starts_few, counts_found}
use Rattle.value_classes.proofs.core_sizes.Goals as goal

pub loop-f-init : goal.loop-f-init
loop-f-init c = filled_none _ _ _ (omega arith)

pub overflow_sub-starts : goal.overflow_sub-starts
overflow_sub-starts c = starts_order (omega arith) c.requires.1

pub overflow_cast-starts : goal.overflow_cast-starts
overflow_cast-starts c = omega (arith, starts_few {f = c.loop-f.f} (omega arith) c.requires.1)

pub loop-f-preserved : goal.loop-f-preserved
loop-f-preserved c = filled_more _ _ _ _ _ (omega arith) c.loop-f.invariant c.class_count.ensures

pub returns : goal.returns
returns c = counts_found _ _ _ _ c.requires.0 (omega arith) c.loop-f.invariant
