-- `listed_rows::start` meets its contract: a starting row is listed after another. Assumes nothing.
use Rattle.index.proofs.Lent.{same_none, same_then}
use Rattle.listed_rows.proofs.Growing.{started_none, started_more, started_full, started_all, starting_room, going_long}
use Rattle.listed_rows.proofs.start.Goals as goal

pub loop-packet-init : goal.loop-packet-init
loop-packet-init c = (same_none, started_none c.requires.indexed c.requires.parents_len)

pub append-requires : goal.append-requires
append-requires c = record { indexed = c.loop-packet.invariant.1.going.indexed; parents_len = going_long c.loop-packet.invariant.1.going; room_for = starting_room c.loop-packet.invariant.1 c.loop-packet-test.true; packet_lt_count = c.loop-packet-test.true }

pub returns-in_err-n-clause-starts : goal.returns-in_err-n-clause-starts
returns-in_err-n-clause-starts c = rw c.from_residual.ensures (started_full c.loop-packet.invariant.1 c.loop-packet-test.true c.append.ensures.appends c.in_err-n.was)

pub loop-packet-preserved : goal.loop-packet-preserved
loop-packet-preserved c = (same_then c.loop-packet.invariant.0 c.append.ensures.same_lists, started_more c.loop-packet.invariant.1 c.loop-packet-test.true c.append.ensures.appends _ c.in_ok-n.was)

pub returns-clause-starts : goal.returns-clause-starts
returns-clause-starts c = started_all c.loop-packet.invariant.1 c.loop-packet.auto.packet-end c.loop-packet-test.false
