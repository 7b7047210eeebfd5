-- `bad_entries` meets its contract: below `i` no entry is wrong.
-- Assumes nothing.
use native.Mathlib.Omega.{arith}
use native.Mathlib.Numerals.{add-one}
use mathlib.Core.Path.{refl, sym, ◌∙◌}
use Rattle.packet.specs.Lowest.{lowest}
use Rattle.packet.proofs.Lowest.{lowest_more, lowest_found}
use Rattle.policy.specs.NodeLists.{node_count}
use Rattle.policy.specs.Legality.{bad_entries}
use Rattle.node_causes.proofs.bad_entries.Goals as goal

pub loop-i-init : goal.loop-i-init
unfolding lowest
loop-i-init c = refl

pub bounds-policy-i : goal.bounds-policy-i
unfolding node_count
bounds-policy-i c = omega (arith, c.loop-i-test.true, c.requires.firsts)

pub bounds-policy-i-in-loop-i : goal.bounds-policy-i-in-loop-i
unfolding node_count
bounds-policy-i-in-loop-i c = omega (arith, c.loop-i-test.true, c.requires.seconds)

pub returns-then-wrong_entries : goal.returns-then-wrong_entries
unfolding bad_entries
returns-then-wrong_entries c = sym (lowest_found _ _ _ c.loop-i.invariant (sym c.wrong_entries.ensures ∙ c.if-wrong_entries.true) c.loop-i-test.true)

pub loop-i-preserved : goal.loop-i-preserved
unfolding bad_entries
loop-i-preserved c = rw add-one (lowest_more _ _ c.loop-i.invariant (sym c.wrong_entries.ensures ∙ c.if-wrong_entries.false))
