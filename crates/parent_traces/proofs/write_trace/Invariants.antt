-- `parent_traces::write_trace` meets its contract: the trace is written from its end, row by row up the line. Assumes nothing.
use Rattle.parent_traces.proofs.Lines.{Tracing}
use Rattle.parent_traces.proofs.write_trace.Given as goal

abbrev pub invariant-loop-parent : goal.invariant-loop-parent
invariant-loop-parent l = Tracing l.parents l.packets l.initial.trace l.trace l.last l.h l.i l.parent l.k

abbrev pub decreases-loop-parent : goal.decreases-loop-parent
decreases-loop-parent l = l.i
