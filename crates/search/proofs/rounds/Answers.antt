-- `rounds` meets its contract: round after round. Assumes nothing.
use native.Mathlib.Omega.{arith}
use Rattle.index.proofs.Lent.{same_none, same_then}
use Rattle.search.proofs.Underway.{kept_none, led_none}
use Rattle.search.proofs.Levels.{same_lengths, listed_few, handled_within, handled_few, handle_ready, rounds_on, rounds_end, rounds_outgrown}
use Rattle.search.proofs.rounds.Goals as goal

pub loop-next-init : goal.loop-next-init
loop-next-init c = (kept_none, led_none, same_none)

pub has_room-requires : goal.has_room-requires
has_room-requires c = listed_few c.requires c.loop-next.invariant.0 c.loop-next.invariant.1

pub handle-requires : goal.handle-requires
handle-requires c = handle_ready c.requires c.loop-next.invariant.0 c.loop-next.invariant.1 (c.has_room.ensures.0 c.loop-next-test.true)

pub returns-in-Stopped-clause-rounds : goal.returns-in-Stopped-clause-rounds
returns-in-Stopped-clause-rounds c = rounds_end c.requires c.loop-next.invariant.0 c.loop-next.invariant.1 c.handle.ensures.step (same_lengths c.handle.ensures.same_lists c.handle.auto.trees) _ c.in-Stopped.is

pub overflow_add-progress : goal.overflow_add-progress
overflow_add-progress c = omega (arith, handled_few c.requires c.loop-next.invariant.0 c.loop-next.invariant.1)

pub loop-next-smaller : goal.loop-next-smaller
loop-next-smaller c = omega (arith, handled_within c.requires c.loop-next.invariant.0 c.loop-next.invariant.1)

pub loop-next-preserved : goal.loop-next-preserved
loop-next-preserved c =
    let on = rounds_on c.requires c.loop-next.invariant.0 c.loop-next.invariant.1 c.handle.ensures.step (same_lengths c.handle.ensures.same_lists c.handle.auto.trees) _ c.in-Open.is in
    (on.0, on.1, same_then c.loop-next.invariant.2 c.handle.ensures.same_lists)

pub returns-clause-rounds : goal.returns-clause-rounds
returns-clause-rounds c = rounds_outgrown c.requires c.loop-next.invariant.0 c.loop-next.invariant.1 (c.has_room.ensures.1 c.loop-next-test.false)
