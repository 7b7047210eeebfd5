-- `with_value` meets its contract: each turn puts in one run. Assumes nothing.
use Prim.Native.Nat.{◌+◌, ◌≤◌}
use mathlib.Core.Path.{refl}
use native.Mathlib.Omega.{arith}
use Rattle.loaded.proofs.Runs.{asked, field_within, period_small, period_some, value_small, of_start, of_within, of_turn, of_end}
use Rattle.loaded.proofs.sets.with_value.Goals as goal

pub stride_of-stride-requires : goal.stride_of-stride-requires
stride_of-stride-requires c = record { legal_sizes = c.requires.0; field_in_bounds = rw c.from-at.ensures (field_within _ _ _ (asked c.requires)) }

pub offset_bounds-sizes-at : goal.offset_bounds-sizes-at
offset_bounds-sizes-at c = let h = field_within _ _ _ (asked c.requires) in omega arith

pub bounds-sizes-at : goal.bounds-sizes-at
bounds-sizes-at c = rw c.from-at.ensures (field_within _ _ _ (asked c.requires))

pub overflow_mul-period : goal.overflow_mul-period
overflow_mul-period c = rw c.from-at.ensures (let h = period_small _ _ _ (asked c.requires) _ (rw c.from-at.ensures at c.stride_of-stride.ensures) in omega arith)

pub overflow_step-start : goal.overflow_step-start
overflow_step-start c = let h = value_small _ _ _ (asked c.requires) _ (rw c.from-at.ensures at c.stride_of-stride.ensures) in omega arith

pub nonzero_div-start-step : goal.nonzero_div-start-step
nonzero_div-start-step c = rw (c.from-start-step.ensures, c.from-at.ensures) (period_some _ _ _ (asked c.requires) _ (rw c.from-at.ensures at c.stride_of-stride.ensures))

pub loop-start-init : goal.loop-start-init
loop-start-init c = of_start _ _ _ (asked c.requires) _ (rw c.from-at.ensures at c.stride_of-stride.ensures) _ _ c.empty-set.ensures _ refl

pub overflow_add-start : goal.overflow_add-start
overflow_add-start c = let h = of_within _ _ _ (asked c.requires) _ (rw c.from-at.ensures at c.stride_of-stride.ensures) _ c.requires.1 _ _ c.loop-start.invariant c.loop-start-test.true in omega arith

pub insert_run-requires : goal.insert_run-requires
insert_run-requires c = let h = of_within _ _ _ (asked c.requires) _ (rw c.from-at.ensures at c.stride_of-stride.ensures) _ c.requires.1 _ _ c.loop-start.invariant c.loop-start-test.true in (omega arith, h, c.loop-start.invariant.wide)

pub loop-start-smaller : goal.loop-start-smaller
loop-start-smaller c = rw (c.from-start-step.ensures, c.from-at.ensures) (let k = period_some _ _ _ (asked c.requires) _ (rw c.from-at.ensures at c.stride_of-stride.ensures) in omega (arith, c.loop-start-test.true))

pub loop-start-preserved : goal.loop-start-preserved
loop-start-preserved c = rw (c.from-start-step.ensures, c.from-at.ensures) (of_turn _ _ _ (asked c.requires) _ (rw c.from-at.ensures at c.stride_of-stride.ensures) _ c.requires.1 _ _ c.loop-start.invariant c.loop-start-test.true _ c.insert_run.ensures)

pub returns : goal.returns
returns c = of_end _ _ _ (asked c.requires) _ (rw c.from-at.ensures at c.stride_of-stride.ensures) _ c.requires.1 _ _ c.loop-start.invariant c.loop-start-test.false

-- the last run: the next would begin at the count or beyond it
pub returns-2 : goal.returns-2
returns-2 c =
    let h : c.args.count ≤ c.loop-start.start + c.from-start-step.result = omega arith in
    of_end _ _ _ (asked c.requires) _ (rw c.from-at.ensures at c.stride_of-stride.ensures) _ c.requires.1 _ _
    (of_turn _ _ _ (asked c.requires) _ (rw c.from-at.ensures at c.stride_of-stride.ensures) _ c.requires.1 _ _ c.loop-start.invariant c.loop-start-test.true _ c.insert_run.ensures)
    (rw (c.from-start-step.ensures, c.from-at.ensures) at h)
