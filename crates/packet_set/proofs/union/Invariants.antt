-- `union` meets its contract: each turn of the loop does one more word. Assumes nothing.
use lib.Bits.{bit_or}
use lib.ListN.{length}
use Rattle.packet_set.specs.InnerMembers.{wordwise}
use Rattle.packet_set.proofs.Loops.{Loop}
use Rattle.packet_set.proofs.union.Given as goal

abbrev pub invariant-loop-i : goal.invariant-loop-i
invariant-loop-i l = Loop (λ k. wordwise bit_or k l.initial.a l.b) l.words (length l.initial.a) l.a l.i
