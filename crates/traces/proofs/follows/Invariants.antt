-- `follows` meets its contract: the state has been followed along the first `i` packets. Assumes nothing.
use Rattle.traces.proofs.Following.{Following}
use Rattle.traces.proofs.follows.Given as goal

abbrev pub invariant-loop-i : goal.invariant-loop-i
invariant-loop-i l = Following l.policy.sizes.now l.policy.nodes.now l.policy.tests.now l.entering l.trace l.initial.work l.next l.state l.packet l.work l.i
