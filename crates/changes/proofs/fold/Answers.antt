-- `fold` meets its contract. Assumes nothing.
use mathlib.Core.Path.{refl}
use native.Mathlib.Omega.{arith}
use Rattle.changes.proofs.Walking.{field_within, goal_fits}
use Rattle.changes.proofs.Folds.{count_of, count_small, words_of, fold_needs, fold_changed}
use Rattle.changes.proofs.fold.Goals as goal

pub stride_of-stride-requires : goal.stride_of-stride-requires
stride_of-stride-requires c = record { legal_sizes = c.requires.legal; field_in_bounds = rw c.from-at.ensures (field_within _ _ _ c.requires.legal c.requires.is_in_field) }

pub offset_bounds-sizes-at : goal.offset_bounds-sizes-at
offset_bounds-sizes-at c = omega (arith, field_within _ _ _ c.requires.legal c.requires.is_in_field)

pub bounds-sizes-at : goal.bounds-sizes-at
bounds-sizes-at c = rw c.from-at.ensures (field_within _ _ _ c.requires.legal c.requires.is_in_field)

pub overflow_mul-goal : goal.overflow_mul-goal
overflow_mul-goal c = let h = goal_fits _ _ _ _ _ _ c.requires _ (rw c.from-at.ensures at c.stride_of-stride.ensures) in omega arith

pub stride_of-requires : goal.stride_of-requires
stride_of-requires c = record { legal_sizes = c.requires.legal; field_in_bounds = c.requires.legal.some }

pub bounds-sizes-0 : goal.bounds-sizes-0
bounds-sizes-0 c = c.requires.legal.some

pub overflow_mul-count : goal.overflow_mul-count
overflow_mul-count c = let h = count_small _ c.requires.legal _ c.stride_of.ensures in omega arith

pub with_value-mask-requires : goal.with_value-mask-requires
with_value-mask-requires c = (c.requires.legal, count_of _ c.requires.legal _ c.stride_of.ensures, c.requires.is_in_field)

pub clear-requires : goal.clear-requires
clear-requires c = c.requires.spanned

pub words_for-words-requires : goal.words_for-words-requires
words_for-words-requires c = rw c.from.ensures (count_small _ c.requires.legal _ c.stride_of.ensures)

pub overflow_sub-from : goal.overflow_sub-from
overflow_sub-from c = let h = goal_fits _ _ _ _ _ _ c.requires _ (rw c.from-at.ensures at c.stride_of-stride.ensures) in omega arith

pub fill-requires : goal.fill-requires
fill-requires c = rw (c.from-2.ensures, c.from-3.ensures, c.from-4.ensures, c.from-at.ensures) (fold_needs _ _ _ _ _ _ c.requires _ _ (rw c.from-at.ensures at c.stride_of-stride.ensures) refl _ (words_of _ c.requires.legal _ c.stride_of.ensures _ (rw c.from.ensures at c.words_for-words.ensures)) _ c.clear.ensures)

pub returns : goal.returns
returns c = fold_changed _ _ _ _ _ _ c.requires _ _ (rw c.from-at.ensures at c.stride_of-stride.ensures) refl _ _ _ _ _ (words_of _ c.requires.legal _ c.stride_of.ensures _ (rw c.from.ensures at c.words_for-words.ensures)) c.padded-pad.ensures c.with_value-mask.ensures c.clear.ensures (rw (c.from-2.ensures, c.from-3.ensures, c.from-4.ensures, c.from-at.ensures) at c.fill.ensures)
