-- `turning::write_values` meets its contract: the values of the fields passed stand in the list, the rest of the number holds the others.
-- Assumes nothing.
use mathlib.Core.Path.{sym, ◌∙◌}
use Rattle.turning.proofs.Loops.{split_none, split_more, split_all, size_positive, block_positive}
use Rattle.turning.proofs.write_values.Goals as goal

pub loop-i-init : goal.loop-i-init
loop-i-init c = split_none _ _ _ _ c.requires.count_value c.requires.number_lt_count c.requires.values_len

pub nonzero_div-block : goal.nonzero_div-block
nonzero_div-block c = size_positive _ _ _ c.loop-i.invariant c.loop-i-test.true

pub nonzero_div-values : goal.nonzero_div-values
nonzero_div-values c = block_positive _ _ _ c.loop-i.invariant c.loop-i-test.true

pub nonzero_rem-rest : goal.nonzero_rem-rest
nonzero_rem-rest c = block_positive _ _ _ c.loop-i.invariant c.loop-i-test.true

pub loop-i-preserved : goal.loop-i-preserved
loop-i-preserved c = split_more _ _ _ c.loop-i.invariant c.loop-i-test.true

pub shape_of-values : goal.shape_of-values
shape_of-values c = c.loop-i.invariant.long ∙ sym c.requires.values_len

pub returns : goal.returns
returns c = split_all _ _ _ c.loop-i.invariant c.loop-i-test.false
