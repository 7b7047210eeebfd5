-- `parent_traces::entering` meets its contract: row by row up the line. Assumes nothing.
use Rattle.parent_traces.proofs.Lines.{looking_none, looking_more, looking_all}
use Rattle.parent_traces.proofs.entering.Goals as goal

pub loop-parent-init : goal.loop-parent-init
loop-parent-init c = looking_none c.requires.rooted _ _ _ c.from-parent.ensures

pub loop-parent-preserved : goal.loop-parent-preserved
loop-parent-preserved c = looking_more c.requires.rooted c.requires.h_lt_listed c.loop-parent.invariant c.loop-parent-test.true _ c.from-parent-in-loop-parent.ensures

pub returns : goal.returns
returns c = looking_all c.requires.rooted c.requires.h_lt_listed c.loop-parent.invariant c.loop-parent-test.false
