-- `parent_traces::write_trace` meets its contract: the trace is written from its end, row by row up the line. Assumes nothing.
use native.Mathlib.Omega.{arith}
use Rattle.parent_traces.proofs.Lines.{tracing_begin, tracing_more, tracing_place, tracing_end}
use Rattle.parent_traces.proofs.write_trace.Goals as goal

pub loop-parent-init : goal.loop-parent-init
loop-parent-init c = tracing_begin c.requires.rooted c.args.packets.now c.args.trace.now c.args.last c.args.h _ c.depth-k.result (omega (arith, c.depth-k.ensures)) (omega (arith, c.depth-k.ensures, c.requires.h_in_bounds)) c.from-parent.ensures

pub overflow_sub-k : goal.overflow_sub-k
overflow_sub-k c = omega (arith, tracing_place c.requires.rooted c.requires.h_lt_listed c.loop-parent.invariant c.loop-parent-test.true)

pub loop-parent-preserved : goal.loop-parent-preserved
loop-parent-preserved c = tracing_more c.requires.rooted c.requires.h_lt_listed c.loop-parent.invariant c.loop-parent-test.true _ c.from-parent-in-loop-parent.ensures _ (omega (arith, tracing_place c.requires.rooted c.requires.h_lt_listed c.loop-parent.invariant c.loop-parent-test.true))

pub returns : goal.returns
returns c = tracing_end c.requires.rooted c.args.packets.now c.args.trace.now _ c.args.last c.args.h _ _ c.depth-k.result _ c.requires.h_lt_listed c.loop-parent.invariant (omega (arith, c.depth-k.ensures)) c.loop-parent-test.false
