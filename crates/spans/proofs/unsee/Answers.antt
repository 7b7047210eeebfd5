-- `unsee` meets its contract: each turn of the loop clears the slot of the next node that was seen. Assumes nothing.
use native.Mathlib.Omega.{arith}
use Rattle.spans.proofs.Slots.{unseeing_start, unseeing_at, unseeing_turn, unseeing_end}
use Rattle.spans.proofs.unsee.Goals as goal

pub loop-n-init : goal.loop-n-init
loop-n-init c = unseeing_start _

pub returns : goal.returns
returns c = unseeing_end _ _ c.slice_known-1.given c.requires.1 _ _ c.loop-n.invariant _ c.next_member.ensures c.in_default.is

pub clear_slot-requires : goal.clear_slot-requires
clear_slot-requires c = let h = unseeing_at _ _ c.slice_known-1.given c.requires.1 _ _ c.loop-n.invariant _ c.next_member.ensures _ c.in-Some.is in (omega (arith, h.below), omega (arith, c.loop-n.invariant.long))

pub overflow_add-from : goal.overflow_add-from
overflow_add-from c = let h = unseeing_at _ _ c.slice_known-1.given c.requires.1 _ _ c.loop-n.invariant _ c.next_member.ensures _ c.in-Some.is in omega (arith, h.below)

pub loop-n-smaller : goal.loop-n-smaller
loop-n-smaller c = let h = unseeing_at _ _ c.slice_known-1.given c.requires.1 _ _ c.loop-n.invariant _ c.next_member.ensures _ c.in-Some.is in omega (arith, h.below, h.above)

pub loop-n-preserved : goal.loop-n-preserved
loop-n-preserved c = unseeing_turn _ _ c.slice_known-1.given c.requires.1 _ _ c.loop-n.invariant _ c.next_member.ensures _ c.in-Some.is _ (rw c.from.ensures at c.clear_slot.ensures)
