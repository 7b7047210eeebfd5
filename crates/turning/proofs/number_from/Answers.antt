-- `turning::number_from` meets its contract: the classes of the fields passed are in the number.
-- Assumes nothing.
use native.Mathlib.Omega.{arith}
use Rattle.turning.proofs.Loops.{joined_none, joined_fits, joined_all, class_joined, class_fits}
use Rattle.turning.proofs.number_from.Goals as goal

pub loop-i-init : goal.loop-i-init
loop-i-init c = joined_none _ _

pub overflow_mul-number : goal.overflow_mul-number
overflow_mul-number c = omega (arith, joined_fits _ _ c.requires.legal_sizes c.requires.declared c.loop-i.invariant c.loop-i-test.true)

pub offset_bounds-values-i : goal.offset_bounds-values-i
offset_bounds-values-i c = omega (arith, c.loop-i-test.true, c.requires.values_len)

pub bounds-values-i : goal.bounds-values-i
bounds-values-i c = omega (arith, c.loop-i-test.true, c.requires.values_len)

pub overflow_add-number : goal.overflow_add-number
overflow_add-number c = omega (arith, class_fits _ _ c.requires.legal_sizes c.requires.values_len c.requires.declared c.loop-i.invariant c.loop-i-test.true c.class_in.ensures)

pub loop-i-preserved : goal.loop-i-preserved
loop-i-preserved c = class_joined _ _ c.requires.legal_sizes c.requires.values_len c.requires.declared c.loop-i.invariant c.loop-i-test.true c.class_in.ensures

pub returns : goal.returns
returns c = joined_all _ _ c.loop-i.invariant c.loop-i-test.false
