-- `read_all` meets its contract.
use Prim.Native.Nat.{◌≤◌}
use lib.ListN.{length}
use Rattle.netkat.specs.InnerReading.{GoneOn}
use Rattle.netkat.proofs.read_all.Given as goal

abbrev pub invariant-loop : goal.invariant-loop
invariant-loop l = (l.len ≤ length l.input) × GoneOn l.counter l.initial.input l.len l.input
