-- `follow_dup` meets its contract: the set climbs from the dup to the root. Assumes nothing.
use mathlib.Core.Path.{refl}
use borrow.Author.Rules.{rules}
use native.Mathlib.Omega.{arith}
use Rattle.loaded.specs.Nodes.{place_at}
use Rattle.engine.proofs.Records.{arrays}
use Rattle.engine.proofs.Leaving.{long_still}
use Rattle.engine.proofs.Following.{single_spanned, same_spanned, same_followed, climb_start, above_small, climb_ready, climb_on, climb_out, climb_lost, absent_steps}
use Rattle.engine.proofs.follow_dup.Goals as goal

pub returns-then-place-eq512-clause-stepped : goal.returns-then-place-eq512-clause-stepped
unfolding place_at
returns-then-place-eq512-clause-stepped c = absent_steps c.if-place-eq512.true c.requires.2.spanned

pub loop-out-init : goal.loop-out-init
unfolding place_at
loop-out-init c = (climb_start c.requires.0 c.requires.1 refl c.if-place-eq512.false c.singleton-set.ensures (single_spanned _ c.singleton-set.ensures c.span_of-at.ensures), refl, (refl, refl))

pub returns-then-above-eq512-clause-stepped : goal.returns-then-above-eq512-clause-stepped
unfolding place_at
returns-then-above-eq512-clause-stepped c = same_followed c.loop-out.invariant.1 (climb_out c.loop-out.invariant.0 c.requires.0 c.requires.1 refl c.if-place-eq512.false c.up_in-above.ensures c.if-above-eq512.true c.join.ensures)

pub returns-then-at-clause-stepped : goal.returns-then-at-clause-stepped
unfolding place_at
returns-then-at-clause-stepped c = same_followed c.loop-out.invariant.1 (climb_lost c.loop-out.invariant.0 c.requires.0 c.requires.1 refl c.if-place-eq512.false c.if-at.true (same_spanned c.loop-out.invariant.1 c.requires.2.spanned))

pub offset_bounds-policy-above : goal.offset_bounds-policy-above
offset_bounds-policy-above c = omega (arith, (above_small c.loop-out.invariant.0 c.requires.2.stands c.up_in-above.ensures c.if-above-eq512.false).1)

pub bounds-policy-above : goal.bounds-policy-above
bounds-policy-above c = omega (arith, (above_small c.loop-out.invariant.0 c.requires.2.stands c.up_in-above.ensures c.if-above-eq512.false).1)

pub overflow_cast-above : goal.overflow_cast-above
overflow_cast-above c = omega (arith, (above_small c.loop-out.invariant.0 c.requires.2.stands c.up_in-above.ensures c.if-above-eq512.false).1)

pub through-at-requires : goal.through-at-requires
through-at-requires c = record { some_visit_ready = record { lists = c.requires.2.lists; ready = climb_ready c.loop-out.invariant.0 c.requires.2.stands c.up_in-above.ensures c.if-above-eq512.false c.node_in.ensures c.onward-target.ensures (long_still c.requires.2.long c.loop-out.invariant.0.recorded.work_long) }; seen_len = arrays c.loop-out.invariant.0.recorded c.requires.2.arrays }

pub loop-out-smaller : goal.loop-out-smaller
loop-out-smaller c = omega (arith, above_small c.loop-out.invariant.0 c.requires.2.stands c.up_in-above.ensures c.if-above-eq512.false)

pub loop-out-preserved : goal.loop-out-preserved
loop-out-preserved c = (climb_on c.loop-out.invariant.0 c.up_in-above.ensures c.if-above-eq512.false c.node_in.ensures c.onward-target.ensures (long_still c.requires.2.long c.loop-out.invariant.0.recorded.work_long) c.requires.2.lists c.requires.2.stands c.through-at.ensures.sent, c.loop-out.invariant.1, search rules)
