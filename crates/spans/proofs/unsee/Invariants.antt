-- `unsee` meets its contract: each turn of the loop clears the slot of the next node that was seen. Assumes nothing.
use Prim.Native.Nat.{◌-◌, ◌*◌}
use Rattle.spans.proofs.Rewriting.{Doing}
use Rattle.spans.proofs.Slots.{zeroed_word}
use Rattle.spans.proofs.unsee.Given as goal

abbrev pub invariant-loop-n : goal.invariant-loop-n
invariant-loop-n l = Doing (zeroed_word l.initial.work) l.initial.work l.work (32 * l.from)

abbrev pub decreases-loop-n : goal.decreases-loop-n
decreases-loop-n l = 512 - l.from
