-- `more_than` is safe and ends: the count stays small, since it ends the loop. Assumes nothing.
use Prim.Native.Nat.{◌≤◌}
use Rattle.changes.proofs.more_than.Given as goal

abbrev pub invariant-loop-i : goal.invariant-loop-i
invariant-loop-i l = l.count ≤ l.few
