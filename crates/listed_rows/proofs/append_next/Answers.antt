-- `listed_rows::append_next` meets its contract: a row is appended after another, and packets without marks have none. Assumes nothing.
use native.Mathlib.Omega.{arith}
use Rattle.index.proofs.Lent.{same_none, same_then}
use Rattle.marks.proofs.Touched.{walk_words, walk_at, walk_end}
use Rattle.listed_rows.proofs.Growing.{next_none, next_at, next_more, next_full, next_all, next_room, going_long}
use Rattle.listed_rows.proofs.append_next.Goals as goal

pub loop-packet-init : goal.loop-packet-init
loop-packet-init c = (next_none c.requires.indexed c.requires.parents_len, omega arith, same_none)

pub next_member-requires : goal.next_member-requires
next_member-requires c = let w = walk_words c.requires.marking.2 c.words_for-words.ensures c.from.ensures in omega (arith, w)

pub bounds-next-i : goal.bounds-next-i
bounds-next-i c = let h = walk_at c.requires.marking.0 c.requires.marking.1 _ c.either-set.ensures c.requires.marking.2 c.words_for-words.ensures c.from.ensures c.next_member.ensures c.in-Some.is in omega (arith, h.below, c.requires.marking.2, c.from-i.ensures)

pub bounds-next-i-in-Some : goal.bounds-next-i-in-Some
bounds-next-i-in-Some c = let h = walk_at c.requires.marking.0 c.requires.marking.1 _ c.either-set.ensures c.requires.marking.2 c.words_for-words.ensures c.from.ensures c.next_member.ensures c.in-Some.is in omega (arith, h.below, c.requires.marking.2, c.from-i.ensures)

pub append-requires : goal.append-requires
append-requires c = let h = walk_at c.requires.marking.0 c.requires.marking.1 _ c.either-set.ensures c.requires.marking.2 c.words_for-words.ensures c.from.ensures c.next_member.ensures c.in-Some.is in record { indexed = c.loop-packet.invariant.0.going.indexed; parents_len = going_long c.loop-packet.invariant.0.going; room_for = next_room c.requires.room_for (next_at c.loop-packet.invariant.0 h) h.below; packet_lt_count = h.below }

pub returns-in_err-n-clause-appends : goal.returns-in_err-n-clause-appends
returns-in_err-n-clause-appends c = let h = walk_at c.requires.marking.0 c.requires.marking.1 _ c.either-set.ensures c.requires.marking.2 c.words_for-words.ensures c.from.ensures c.next_member.ensures c.in-Some.is in rw c.from_residual.ensures (next_full (next_at c.loop-packet.invariant.0 h) h.below _ c.from-i.ensures c.append.ensures.appends c.in_err-n.was)

pub overflow_add-from : goal.overflow_add-from
overflow_add-from c = let h = walk_at c.requires.marking.0 c.requires.marking.1 _ c.either-set.ensures c.requires.marking.2 c.words_for-words.ensures c.from.ensures c.next_member.ensures c.in-Some.is in omega (arith, h.below)

pub loop-packet-smaller : goal.loop-packet-smaller
loop-packet-smaller c = let h = walk_at c.requires.marking.0 c.requires.marking.1 _ c.either-set.ensures c.requires.marking.2 c.words_for-words.ensures c.from.ensures c.next_member.ensures c.in-Some.is in omega (arith, h.below, h.above)

pub loop-packet-preserved : goal.loop-packet-preserved
loop-packet-preserved c = let h = walk_at c.requires.marking.0 c.requires.marking.1 _ c.either-set.ensures c.requires.marking.2 c.words_for-words.ensures c.from.ensures c.next_member.ensures c.in-Some.is in (next_more (next_at c.loop-packet.invariant.0 h) h.below _ c.from-i.ensures c.append.ensures.appends _ c.in_ok-n.was, omega (arith, h.below), same_then c.loop-packet.invariant.2 c.append.ensures.same_lists)

pub returns-clause-appends : goal.returns-clause-appends
returns-clause-appends c = next_all c.loop-packet.invariant.0 c.loop-packet.invariant.1 (walk_end c.requires.marking.0 c.requires.marking.1 _ c.either-set.ensures c.requires.marking.2 c.words_for-words.ensures c.from.ensures c.next_member.ensures c.in_default.is)
