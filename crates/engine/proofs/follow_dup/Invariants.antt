-- `follow_dup` meets its contract: the set climbs from the dup to the root. Assumes nothing.
use Prim.Native.Nat.{◌-◌}
use mathlib.Core.Path.{◌≡◌}
use Rattle.engine.specs.Visiting.{SameLists}
use Rattle.engine.proofs.Following.{ClimbingLists}
use Rattle.engine.proofs.follow_dup.Given as goal

abbrev pub invariant-loop-out : goal.invariant-loop-out
invariant-loop-out l = ClimbingLists l.policy.sizes.now l.policy.nodes.now l.policy.tests.now l.i l.place l.packet l.initial.progress.work.now l.initial.progress.seen l.initial.progress.next.now l.n l.set l.progress.work.now l.progress.seen l.progress.next.now l.at.from l.at.to × (l.out ≡ l.initial.out) × SameLists l.initial.progress l.progress

abbrev pub decreases-loop-out : goal.decreases-loop-out
decreases-loop-out l = 512 - l.n
