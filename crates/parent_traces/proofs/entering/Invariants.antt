-- `parent_traces::entering` meets its contract: row by row up the line. Assumes nothing.
use Rattle.parent_traces.proofs.Lines.{Looking}
use Rattle.parent_traces.proofs.entering.Given as goal

abbrev pub invariant-loop-parent : goal.invariant-loop-parent
invariant-loop-parent l = Looking l.parents l.packets l.h l.i l.parent

abbrev pub decreases-loop-parent : goal.decreases-loop-parent
decreases-loop-parent l = l.i
