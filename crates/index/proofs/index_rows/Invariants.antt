-- `index::index_rows` meets its contract: row by row. Assumes nothing.
use Rattle.index.proofs.Growth.{IndexedTo}
use Rattle.index.proofs.index_rows.Given as goal

abbrev pub invariant-loop-i : goal.invariant-loop-i
invariant-loop-i l = IndexedTo l.columns.packets.now l.columns.left.now l.columns.right.now l.count l.n l.i l.initial.trees l.trees
