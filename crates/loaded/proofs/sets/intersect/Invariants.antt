-- `intersect` meets its contract: each turn of the loop does one more word. Assumes nothing.
use lib.Bits.{bit_and}
use lib.ListN.{length}
use Rattle.packet_set.specs.InnerMembers.{wordwise}
use Rattle.packet_set.proofs.Loops.{Loop}
use Rattle.loaded.proofs.sets.intersect.Given as goal

abbrev pub invariant-loop-i : goal.invariant-loop-i
invariant-loop-i l = Loop (λ k. wordwise bit_and k l.initial.a l.b) 32 (length l.initial.a) l.a l.i
