-- `bad_negation` meets its contract: below `i` no node negates anything but tests. Assumes nothing.
use native.Mathlib.Omega.{arith}
use native.Mathlib.Numerals.{add-one}
use mathlib.Core.Path.{refl, sym}
use borrow.Author.Tests.{eqb-false}
use Rattle.packet.specs.Lowest.{lowest}
use Rattle.packet.proofs.Lowest.{lowest_more, lowest_found}
use Rattle.policy.specs.NodeLists.{node_count}
use Rattle.tree_causes.proofs.Flags.{no_negations, bad_negation_at}
use Rattle.tree_causes.proofs.bad_negation.Goals as goal

pub returns-then-not-contains : goal.returns-then-not-contains
unfolding node_count
returns-then-not-contains c = no_negations _ (λ i l. eqb-false _ 9 (c.if-not-contains.ensures.cases i 0 (omega arith) l))

pub loop-i-init : goal.loop-i-init
unfolding lowest
loop-i-init c = refl

pub bounds-alone-i : goal.bounds-alone-i
unfolding node_count
bounds-alone-i c = omega (arith, c.requires.few, c.loop-i-test.true)

pub returns-then-refused_negation : goal.returns-then-refused_negation
unfolding node_count
returns-then-refused_negation c = sym (lowest_found _ _ _ c.loop-i.invariant (bad_negation_at _ c.requires _ c.tests_alone-alone.ensures _ c.loop-i-test.true c.refused_negation.ensures c.if-refused_negation.true) c.loop-i-test.true)

pub loop-i-preserved : goal.loop-i-preserved
unfolding node_count
loop-i-preserved c = rw add-one (lowest_more _ _ c.loop-i.invariant (bad_negation_at _ c.requires _ c.tests_alone-alone.ensures _ c.loop-i-test.true c.refused_negation.ensures c.if-refused_negation.false))
