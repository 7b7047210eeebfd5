-- `parent_traces::depth` meets its contract: row by row up the line. Assumes nothing.
use Rattle.parent_traces.proofs.Lines.{counted_none, counted_more, counted_all}
use Rattle.parent_traces.proofs.depth.Goals as goal

pub loop-parent-init : goal.loop-parent-init
loop-parent-init c = counted_none c.requires.rooted _ _ c.from-parent.ensures

pub loop-parent-preserved : goal.loop-parent-preserved
loop-parent-preserved c = counted_more c.requires.rooted c.requires.h_lt_listed c.loop-parent.invariant c.loop-parent-test.true _ c.from-parent-in-loop-parent.ensures

pub returns : goal.returns
returns c = counted_all c.requires.rooted c.requires.h_lt_listed c.loop-parent.invariant c.loop-parent-test.false
