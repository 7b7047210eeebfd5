-- `walk` meets its contract: each turn changes the next member. Assumes nothing.
use Prim.Native.Nat.{◌-◌, ◌*◌}
use Rattle.changes.proofs.Walking.{Walked}
use Rattle.changes.proofs.walk.Given as goal

abbrev pub invariant-loop-alpha : goal.invariant-loop-alpha
invariant-loop-alpha l = Walked l.sizes l.field l.value l.words l.before l.stride l.size l.goal l.set l.out.from l.out.to l.from

abbrev pub decreases-loop-alpha : goal.decreases-loop-alpha
decreases-loop-alpha l = 32 * l.words - l.from
