-- `parent_traces::depth` meets its contract: row by row up the line. Assumes nothing.
use Rattle.parent_traces.proofs.Lines.{Counted}
use Rattle.parent_traces.proofs.depth.Given as goal

abbrev pub invariant-loop-parent : goal.invariant-loop-parent
invariant-loop-parent l = Counted l.parents l.h l.i l.parent l.above

abbrev pub decreases-loop-parent : goal.decreases-loop-parent
decreases-loop-parent l = l.i
