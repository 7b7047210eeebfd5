-- `Input::scan` ends: each turn passes one byte.
use Rattle.std.proofs.Common.{length}
use Rattle.harness.proofs.Input.scan.Given as goal

abbrev pub decreases-loop-self : goal.decreases-loop-self
decreases-loop-self l = length l.self.rest.now
