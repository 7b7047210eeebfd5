use mathlib.Core.List.{List}
use mathlib.Core.Path.{◌≡◌}
use Rattle.policy.specs.NodeLists.{NodeLists, node_at}
use Rattle.policy.specs.declared.Node.TheVariants.{Star}
use Rattle.spans.specs.Spans.{slot}
use Rattle.engine.specs.Going.{VisitReady}
use Rattle.engine.specs.Visiting.{SameLists}
use Rattle.engine.proofs.Records.{missing}
use Rattle.engine.proofs.Leaving.{EntryLists, TurningLists}
use Prim.Native.Nat.{ℕ}
use Rattle.engine.proofs.+through.Given as goal

abbrev pub invariant-loop-delta : goal.invariant-loop-delta
invariant-loop-delta l = SameLists l.initial.progress l.progress
    × ((L : NodeLists) (set0 work0 seen0 : List ℕ) (rd : VisitReady l.policy.sizes.now L l.policy.nodes.now l.policy.tests.now l.n l.initial.at.from l.initial.at.to set0 work0) (en : EntryLists l.policy.sizes.now L l.policy.nodes.now l.policy.tests.now l.n l.initial.at.from l.initial.at.to set0 work0 seen0 l.initial.set l.initial.progress.work.now l.initial.progress.seen) → node_at L l.n ≡ Star l.c
    → TurningLists L rd en l.initial.progress.next.now l.delta l.set l.progress.work.now l.progress.seen l.progress.next.now l.at.from l.at.to l.out.from l.out.to)

abbrev pub decreases-loop-delta : goal.decreases-loop-delta
decreases-loop-delta l = missing 1024 (slot l.progress.work.now l.n)

abbrev pub decreases-through : goal.decreases-through
decreases-through l = l.n
