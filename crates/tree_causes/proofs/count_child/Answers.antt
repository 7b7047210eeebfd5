-- `count_child` meets its contract.
-- Assumes nothing.
use mathlib.Core.Path.{ap}
use Rattle.tree_causes.specs.Counting.{with_child}
use Rattle.tree_causes.proofs.count_child.Goals as goal

pub returns : goal.returns
unfolding with_child
returns c = ap (with_child c.args.counts.now) c.from.ensures
