-- `printing::trace` meets its contract.
use Rattle.printing.proofs.PrintLaws.{trace_none, trace_more, trace_all}
use Rattle.printing.proofs.trace.Goals as goal

pub loop-i-init : goal.loop-i-init
loop-i-init c = trace_none _ _ _

pub loop-i-preserved : goal.loop-i-preserved
loop-i-preserved c = trace_more c.loop-i.invariant c.loop-i-test.true c.from.ensures c.number_line-at.ensures.short c.from-last.ensures c.requires c.number_line-at.ensures.wrote c.number_line-at.auto.out

pub returns : goal.returns
returns c = trace_all c.loop-i.invariant c.loop-i-test.false
