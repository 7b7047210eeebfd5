-- `walk` meets its contract: each turn changes the next member. Assumes nothing.
use mathlib.Core.Path.{sym}
use native.Mathlib.Omega.{arith}
use borrow.Author.Rules.{rules}
use Rattle.changes.proofs.Walking.{field_within, goal_fits, walk_empty, walk_start, walk_at, walk_needs, walk_small, walk_turn, walk_end}
use Rattle.changes.proofs.walk.Goals as goal

pub returns-then-words-start : goal.returns-then-words-start
returns-then-words-start c = walk_empty _ _ _ _ _ _ c.requires c.if-words-start.true

pub stride_of-stride-requires : goal.stride_of-stride-requires
stride_of-stride-requires c = record { legal_sizes = c.requires.legal; field_in_bounds = rw c.from-at.ensures (field_within _ _ _ c.requires.legal c.requires.is_in_field) }

pub offset_bounds-sizes-at : goal.offset_bounds-sizes-at
offset_bounds-sizes-at c = omega (arith, field_within _ _ _ c.requires.legal c.requires.is_in_field)

pub bounds-sizes-at : goal.bounds-sizes-at
bounds-sizes-at c = rw c.from-at.ensures (field_within _ _ _ c.requires.legal c.requires.is_in_field)

pub overflow_mul-goal : goal.overflow_mul-goal
overflow_mul-goal c = let h = goal_fits _ _ _ _ _ _ c.requires _ (rw c.from-at.ensures at c.stride_of-stride.ensures) in omega arith

pub clear-requires : goal.clear-requires
clear-requires c = c.requires.spanned

pub overflow_cast-from : goal.overflow_cast-from
overflow_cast-from c = omega (arith, c.requires.spanned.within, c.if-words-start.false)

pub overflow_mul-from : goal.overflow_mul-from
overflow_mul-from c = omega (arith, c.requires.spanned.within, c.if-words-start.false)

pub loop-alpha-init : goal.loop-alpha-init
loop-alpha-init c = walk_start _ _ _ _ _ _ c.requires c.if-words-start.false _ _ (rw c.from-at.ensures at c.stride_of-stride.ensures) (search rules) _ c.clear.ensures

pub slice_bounds-next_member-end : goal.slice_bounds-next_member-end
slice_bounds-next_member-end c = sym c.requires.spanned.wide

pub next_member-requires : goal.next_member-requires
next_member-requires c = omega (arith, c.requires.spanned.within, c.requires.spanned.wide)

pub landing-requires : goal.landing-requires
landing-requires c = walk_needs _ _ _ _ _ _ c.requires _ _ _ _ _ _ _ c.loop-alpha.invariant _ c.next_member.ensures _ c.in-Some.is

pub add-out-requires : goal.add-out-requires
add-out-requires c = (walk_small _ _ _ _ _ _ c.requires _ _ _ _ _ _ _ c.loop-alpha.invariant _ c.next_member.ensures _ c.in-Some.is _ c.landing.ensures, c.loop-alpha.invariant.spanned)

pub overflow_add-from : goal.overflow_add-from
overflow_add-from c = let h = walk_needs _ _ _ _ _ _ c.requires _ _ _ _ _ _ _ c.loop-alpha.invariant _ c.next_member.ensures _ c.in-Some.is in omega arith

pub loop-alpha-smaller : goal.loop-alpha-smaller
loop-alpha-smaller c = let h = walk_at _ _ _ _ _ _ c.requires _ _ _ _ _ _ _ c.loop-alpha.invariant _ c.next_member.ensures _ c.in-Some.is in omega (arith, h.below, h.above)

pub loop-alpha-preserved : goal.loop-alpha-preserved
loop-alpha-preserved c = walk_turn _ _ _ _ _ _ c.requires _ _ _ _ _ _ _ c.loop-alpha.invariant _ c.next_member.ensures _ c.in-Some.is _ c.landing.ensures _ _ _ c.add-out.ensures

pub returns : goal.returns
returns c = walk_end _ _ _ _ _ _ c.requires _ _ _ _ _ _ _ c.loop-alpha.invariant _ c.next_member.ensures c.in_default.is
