-- `bad_kind` meets its contract: below `i` no kind is over 9.
-- Assumes nothing.
use native.Mathlib.Numerals.{add-one}
use mathlib.Core.Path.{refl, sym}
use borrow.Author.Tests.{lt-ltb, le-ltb}
use Rattle.packet.specs.Lowest.{lowest}
use Rattle.packet.proofs.Lowest.{lowest_more, lowest_found}
use Rattle.policy.specs.Legality.{bad_kind}
use Rattle.node_causes.proofs.bad_kind.Goals as goal

pub loop-i-init : goal.loop-i-init
unfolding lowest
loop-i-init c = refl

pub returns-then-kind-gt9 : goal.returns-then-kind-gt9
unfolding bad_kind
returns-then-kind-gt9 c = sym (lowest_found _ _ _ c.loop-i.invariant (lt-ltb _ _ c.if-kind-gt9.true) c.loop-i-test.true)

pub loop-i-preserved : goal.loop-i-preserved
unfolding bad_kind
loop-i-preserved c = rw add-one (lowest_more _ _ c.loop-i.invariant (le-ltb _ _ c.if-kind-gt9.false))
