-- `rounds` meets its contract: round after round. Assumes nothing.
use Prim.Native.Nat.{◌-◌}
use lib.ListN.{length}
use Rattle.index.specs.Lent.{SameLists}
use Rattle.index.specs.Appending.{lists_in}
use Rattle.search.proofs.Underway.{Kept, Led}
use Rattle.search.proofs.rounds.Given as goal

abbrev pub invariant-loop-next : goal.invariant-loop-next
invariant-loop-next l = Kept (lists_in l.initial.rows l.initial.trees) (lists_in l.rows l.trees) l.initial.work l.next l.work × Led l.policies.sizes.now l.policies.nodes.now l.policies.tests.now (lists_in l.initial.rows l.initial.trees) (lists_in l.rows l.trees) l.initial.progress l.progress × SameLists l.initial.rows l.rows

abbrev pub decreases-loop-next : goal.decreases-loop-next
decreases-loop-next l = length l.initial.rows.packets.now - l.progress.handled
