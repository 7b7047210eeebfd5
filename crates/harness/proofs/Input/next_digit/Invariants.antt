-- `Input::next_digit` ends: each turn passes one byte.
use Rattle.std.proofs.Common.{length}
use Rattle.harness.proofs.Input.next_digit.Given as goal

abbrev pub decreases-loop-self : goal.decreases-loop-self
decreases-loop-self l = length l.self.rest.now
