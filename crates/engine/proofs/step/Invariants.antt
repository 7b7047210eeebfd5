-- `step` meets its contract: the marked remainders are stepped one after another. Assumes nothing.
use Rattle.engine.specs.Visiting.{SameLists}
use Rattle.engine.proofs.Stepping.{StepsLists}
use Rattle.engine.proofs.step.Given as goal

abbrev pub invariant-loop-i : goal.invariant-loop-i
invariant-loop-i l = StepsLists l.policy.sizes.now l.policy.nodes.now l.policy.tests.now l.state l.packet l.initial.out l.initial.progress.work.now l.initial.progress.seen l.initial.progress.next.now l.out l.progress.work.now l.progress.seen l.progress.next.now l.at.from l.at.to l.i × SameLists l.initial.progress l.progress
