-- `row_rules::first_next_missing` meets its contract: below `from` no next row is missing. Assumes nothing.
use native.Mathlib.Omega.{arith}
use Rattle.index.specs.Columns.{left_of, right_of}
use Rattle.marks.proofs.Touched.{walk_words, walk_at, walk_end}
use Rattle.row_rules.proofs.Looking.{next_at, unbroken_none, unbroken_more, broken_here, unbroken_next, unbroken_rest}
use Rattle.row_rules.proofs.first_next_missing.Goals as goal

pub loop-gamma-init : goal.loop-gamma-init
loop-gamma-init c = unbroken_none _ _

pub next_member-requires : goal.next_member-requires
next_member-requires c = let w = walk_words c.requires.marking.2 c.words_for-words.ensures c.from.ensures in omega (arith, w)

pub bounds-next-i : goal.bounds-next-i
bounds-next-i c = let h = walk_at c.requires.marking.0 c.requires.marking.1 _ c.either-set.ensures c.requires.marking.2 c.words_for-words.ensures c.from.ensures c.next_member.ensures c.in-Some.is in omega (arith, h.below, c.requires.marking.2, c.from-i.ensures)

pub bounds-next-i-in-Some : goal.bounds-next-i-in-Some
bounds-next-i-in-Some c = let h = walk_at c.requires.marking.0 c.requires.marking.1 _ c.either-set.ensures c.requires.marking.2 c.words_for-words.ensures c.from.ensures c.next_member.ensures c.in-Some.is in omega (arith, h.below, c.requires.marking.2, c.from-i.ensures)

pub next_missing-requires-clause-packet_lt_count : goal.next_missing-requires-clause-packet_lt_count
next_missing-requires-clause-packet_lt_count c = let h = walk_at c.requires.marking.0 c.requires.marking.1 _ c.either-set.ensures c.requires.marking.2 c.words_for-words.ensures c.from.ensures c.next_member.ensures c.in-Some.is in h.below

pub returns-then-next_missing : goal.returns-then-next_missing
returns-then-next_missing c = let h = walk_at c.requires.marking.0 c.requires.marking.1 _ c.either-set.ensures c.requires.marking.2 c.words_for-words.ensures c.from.ensures c.next_member.ensures c.in-Some.is in broken_here _ _ (unbroken_next _ _ _ _ _ _ _ c.loop-gamma.invariant h) h.below _ (next_at _ _ _ (left_of c.args.next.now) (right_of c.args.next.now) _ _ c.from-i.ensures _ c.next_missing.ensures) c.if-next_missing.true

pub overflow_add-from : goal.overflow_add-from
overflow_add-from c = let h = walk_at c.requires.marking.0 c.requires.marking.1 _ c.either-set.ensures c.requires.marking.2 c.words_for-words.ensures c.from.ensures c.next_member.ensures c.in-Some.is in omega (arith, h.below)

pub loop-gamma-smaller : goal.loop-gamma-smaller
loop-gamma-smaller c = let h = walk_at c.requires.marking.0 c.requires.marking.1 _ c.either-set.ensures c.requires.marking.2 c.words_for-words.ensures c.from.ensures c.next_member.ensures c.in-Some.is in omega (arith, h.below, h.above)

pub loop-gamma-preserved : goal.loop-gamma-preserved
loop-gamma-preserved c = let h = walk_at c.requires.marking.0 c.requires.marking.1 _ c.either-set.ensures c.requires.marking.2 c.words_for-words.ensures c.from.ensures c.next_member.ensures c.in-Some.is in unbroken_more _ _ (unbroken_next _ _ _ _ _ _ _ c.loop-gamma.invariant h) h.below _ (next_at _ _ _ (left_of c.args.next.now) (right_of c.args.next.now) _ _ c.from-i.ensures _ c.next_missing.ensures) c.if-next_missing.false

pub returns : goal.returns
returns c = unbroken_rest _ _ _ _ _ _ _ c.loop-gamma.invariant (walk_end c.requires.marking.0 c.requires.marking.1 _ c.either-set.ensures c.requires.marking.2 c.words_for-words.ensures c.from.ensures c.next_member.ensures c.in_default.is)
