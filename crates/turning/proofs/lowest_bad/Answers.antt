-- `turning::lowest_bad` meets its contract: below `i` no value is out of range. Assumes nothing.
use native.Mathlib.Numerals.{add-one}
use native.Mathlib.Omega.{arith}
use mathlib.Core.Path.{refl, sym}
use borrow.Author.Tests.{le-leb, lt-leb}
use Rattle.packet.specs.Lowest.{lowest}
use Rattle.packet.proofs.Lowest.{lowest_more, lowest_found, lowest_none_whole}
use Rattle.turning.specs.Turning.{bad_value}
use Rattle.turning.proofs.lowest_bad.Goals as goal

pub loop-i-init : goal.loop-i-init
unfolding lowest
loop-i-init c = refl

pub returns-then-size-values : goal.returns-then-size-values
unfolding bad_value
returns-then-size-values c = sym (lowest_found _ _ _ c.loop-i.invariant (le-leb _ _ c.if-size-values.true) c.loop-i-test.true)

pub loop-i-preserved : goal.loop-i-preserved
unfolding bad_value
loop-i-preserved c = rw add-one (lowest_more _ _ c.loop-i.invariant (lt-leb _ _ c.if-size-values.false))

pub returns : goal.returns
returns c = sym (lowest_none_whole _ _ _ c.loop-i.invariant (omega arith))
