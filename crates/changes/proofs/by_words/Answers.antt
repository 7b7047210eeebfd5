-- `by_words` is safe and ends. Assumes nothing.
use native.Mathlib.Omega.{arith}
use Rattle.changes.proofs.Walking.{field_within, stride_some}
use Rattle.changes.proofs.Folds.{count_small, words_small}
use Rattle.changes.proofs.by_words.Goals as goal

pub more_than-requires : goal.more_than-requires
more_than-requires c = (c.requires.spanned.within, omega arith)

pub stride_of-stride-requires : goal.stride_of-stride-requires
stride_of-stride-requires c = record { legal_sizes = c.requires.legal; field_in_bounds = rw c.from-at.ensures (field_within _ _ _ c.requires.legal c.requires.is_in_field) }

pub stride_of-requires : goal.stride_of-requires
stride_of-requires c = record { legal_sizes = c.requires.legal; field_in_bounds = c.requires.legal.some }

pub bounds-sizes-0 : goal.bounds-sizes-0
bounds-sizes-0 c = c.requires.legal.some

pub overflow_mul-count : goal.overflow_mul-count
overflow_mul-count c = let h = count_small _ c.requires.legal _ c.stride_of.ensures in omega arith

pub words_for-words-requires : goal.words_for-words-requires
words_for-words-requires c = rw c.from.ensures (count_small _ c.requires.legal _ c.stride_of.ensures)

pub offset_bounds-sizes-at : goal.offset_bounds-sizes-at
offset_bounds-sizes-at c = omega (arith, field_within _ _ _ c.requires.legal c.requires.is_in_field)

pub bounds-sizes-at : goal.bounds-sizes-at
bounds-sizes-at c = rw c.from-at.ensures (field_within _ _ _ c.requires.legal c.requires.is_in_field)

pub shifts_of-shifts-requires : goal.shifts_of-shifts-requires
shifts_of-shifts-requires c = rw (c.from-2.ensures, c.stride_of-stride.ensures, c.from-at.ensures) (stride_some _ _ _ c.requires.legal c.requires.is_in_field)

pub overflow_cast-words : goal.overflow_cast-words
overflow_cast-words c = omega (arith, words_small _ c.requires.legal _ c.stride_of.ensures _ (rw c.from.ensures at c.words_for-words.ensures))

pub fair_share-requires : goal.fair_share-requires
fair_share-requires c = (words_small _ c.requires.legal _ c.stride_of.ensures _ (rw c.from.ensures at c.words_for-words.ensures), c.shifts_of-shifts.ensures)

pub more_than-requires-2 : goal.more_than-requires-2
more_than-requires-2 c = (c.requires.spanned.within, c.fair_share.ensures)
