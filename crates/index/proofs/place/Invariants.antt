-- `index::place` meets its contract: a look goes from a row to a child whose number is above its own. Assumes nothing.
use Prim.Native.Nat.{◌-◌}
use Rattle.index.proofs.Looking.{Looking}
use Rattle.index.proofs.place.Given as goal

abbrev pub invariant-loop-row : goal.invariant-loop-row
invariant-loop-row l = Looking l.columns.packets.now l.columns.left.now l.columns.right.now l.count l.n l.trees l.row l.slot l.depth

abbrev pub decreases-loop-row : goal.decreases-loop-row
decreases-loop-row l = l.n - l.depth
