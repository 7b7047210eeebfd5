-- `not_once` meets its contract: below `i` each node is a child once.
-- Assumes nothing.
use native.Mathlib.Omega.{arith}
use native.Mathlib.Numerals.{add-one}
use mathlib.Core.Path.{refl, sym}
use Rattle.packet.specs.Lowest.{lowest}
use Rattle.packet.proofs.Lowest.{lowest_more, lowest_found}
use Rattle.policy.specs.NodeLists.{node_count}
use Rattle.tree_causes.proofs.CountLaws.{is_once, isn't_once}
use Rattle.tree_causes.proofs.not_once.Goals as goal

pub loop-i-init : goal.loop-i-init
unfolding lowest
loop-i-init c = refl

pub bounds-counts-i : goal.bounds-counts-i
unfolding node_count
bounds-counts-i c = omega (arith, c.requires.few, c.loop-i-test.true)

pub returns-then-counts-i-ne1 : goal.returns-then-counts-i-ne1
unfolding node_count
returns-then-counts-i-ne1 c = sym (lowest_found _ _ _ c.loop-i.invariant (isn't_once _ _ _ c.times_child-counts.ensures (omega (arith, c.requires.few, c.loop-i-test.true)) c.if-counts-i-ne1.true) (omega (arith, c.loop-i-test.true)))

pub loop-i-preserved : goal.loop-i-preserved
unfolding node_count
loop-i-preserved c = rw add-one (lowest_more _ _ c.loop-i.invariant (is_once _ _ _ c.times_child-counts.ensures (omega (arith, c.requires.few, c.loop-i-test.true)) c.if-counts-i-ne1.false))
