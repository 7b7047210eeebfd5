-- `tables::part_end` meets its contract.
use mathlib.Core.Path.{◌≡◌, subst}
use lib.ListN.{length}
use native.Mathlib.Omega.{arith}
use Rattle.input.specs.Inner.{PartFrom}
use Rattle.input.proofs.PartLaws.{sought_none, sought_more, part_ends, part_last}
use Rattle.input.proofs.tables.part_end.Goals as goal

pub loop-at-init : goal.loop-at-init
loop-at-init c = sought_none _ _ _ (omega arith)

pub returns-then-w-at : goal.returns-then-w-at
returns-then-w-at c = c.loop-at.invariant.part _ (part_ends _ _ _ c.loop-at-test.true c.if-w-at.true)

pub loop-at-preserved : goal.loop-at-preserved
loop-at-preserved c = sought_more _ _ _ _ c.loop-at.invariant c.loop-at-test.true c.if-w-at.false

pub returns : goal.returns
returns c =
    let e : c.loop-at.at ≡ length c.args.w.now = omega (arith, c.loop-at.invariant.within) in
    subst (PartFrom c.args.by c.args.w.now c.args.from) e (c.loop-at.invariant.part _ (part_last _ _ _ c.loop-at.invariant.within c.loop-at-test.false))
