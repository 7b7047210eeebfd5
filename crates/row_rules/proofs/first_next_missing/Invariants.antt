-- `row_rules::first_next_missing` meets its contract: below `from` no next row is missing. Assumes nothing.
use Prim.Native.Nat.{◌-◌}
use lib.ListN.{get_or}
use Rattle.index.specs.Columns.{left_of, right_of}
use Rattle.row_rules.specs.Presence.{next_missing}
use Rattle.row_rules.proofs.Looking.{Unbroken}
use Rattle.row_rules.proofs.first_next_missing.Given as goal

abbrev pub invariant-loop-gamma : goal.invariant-loop-gamma
invariant-loop-gamma l = Unbroken (λ γ. next_missing l.columns.packets.now l.columns.left.now l.columns.right.now γ (get_or (left_of l.next) γ 0) (get_or (right_of l.next) γ 0)) l.count l.from

abbrev pub decreases-loop-gamma : goal.decreases-loop-gamma
decreases-loop-gamma l = l.count - l.from
