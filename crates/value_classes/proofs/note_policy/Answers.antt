-- `note_policy` meets its contract: the keys of the first i nodes are there. Assumes nothing.
use native.Mathlib.Omega.{arith}
use native.Mathlib.Nat.{not-suc-le-zero}
use Prim.Native.Nat.{◌<◌}
use borrow.Author.Count.{below_more}
use lib.ListN.{get_or}
use Rattle.value_classes.proofs.NodeLaws.{listed_alike, no_node_added, next_added, all_added, room_left}
use Rattle.value_classes.proofs.note_policy.Goals as goal

pub loop-i-init : goal.loop-i-init
loop-i-init c = (no_node_added _ _ _, λ k l. absurd (not-suc-le-zero l))

pub bounds-policy-i-in-loop-i : goal.bounds-policy-i-in-loop-i
bounds-policy-i-in-loop-i c = omega (arith, listed_alike c.requires.0)

pub bounds-policy-i-in-loop-i-2 : goal.bounds-policy-i-in-loop-i-2
bounds-policy-i-in-loop-i-2 c = omega (arith, listed_alike c.requires.0)

pub note_node-count-requires : goal.note_node-count-requires
note_node-count-requires c = room_left _ _ (omega (arith, listed_alike c.requires.0)) c.requires.1 c.requires.2 c.loop-i.invariant.0

pub loop-i-preserved : goal.loop-i-preserved
loop-i-preserved c = (next_added _ _ c.loop-i.invariant.0 c.note_node-count.ensures.0, below_more (λ k. get_or c.args.policy.second.now k 0 < 65536) c.loop-i.i c.loop-i.invariant.1 c.note_node-count.ensures.1)

pub returns : goal.returns
returns c = (all_added _ _ (omega arith) c.loop-i.invariant.0, λ k l. c.loop-i.invariant.1 k (omega arith))
