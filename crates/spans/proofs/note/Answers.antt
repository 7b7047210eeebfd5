-- `note` meets its contract: each turn of the loop takes one more word. Assumes nothing.
use Prim.Native.Nat.{◌+◌, ◌*◌, ◌^◌, ◌<◌}
use native.Mathlib.Omega.{arith}
use lib.ListN.{get_or}
use Rattle.packet_set.proofs.Words.{stored_packet}
use Rattle.spans.proofs.Sets.{noting_start, noting_turn, noting_end}
use Rattle.spans.proofs.note.Goals as goal

pub loop-i-init : goal.loop-i-init
loop-i-init c = noting_start _ _ _ _ _ c.requires.3

pub loop-i-preserved : goal.loop-i-preserved
loop-i-preserved c =
    let fits : get_or c.loop-i.work (32 * c.from-base.result + c.loop-i.i) 0 < 2 ^ 32 = omega arith in
    rw c.from-base.ensures (noting_turn _ _ _ _ _ c.requires.3 _ _ _ _ c.loop-i.invariant c.loop-i-test.true (omega arith) (omega arith) (rw c.from-base.ensures at fits))

pub returns : goal.returns
returns c = rw c.from.ensures (noting_end _ _ _ _ _ c.requires.3 _ _ _ _ c.loop-i.invariant c.loop-i-test.false c.requires.0 _ _ c.requires.2 (stored_packet _ _))
