-- `packet::stride_of` meets its contract: `stride` is the product of the sizes from `i` on.
-- Assumes nothing.
use Prim.Native.Nat.{◌≤◌, ◌+◌}
use Rattle.packet.proofs.Legal.{From}
use Rattle.packet.proofs.stride_of.Given as goal

abbrev pub invariant-loop-i : goal.invariant-loop-i
invariant-loop-i l = (l.field + 1 ≤ l.i) × From l.sizes l.i l.stride

abbrev pub decreases-loop-i : goal.decreases-loop-i
decreases-loop-i l = l.i
