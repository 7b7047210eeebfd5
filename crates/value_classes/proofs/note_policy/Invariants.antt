-- `note_policy` meets its contract: the keys of the first i nodes are there. Assumes nothing.
use Prim.Native.Nat.{ℕ, ◌<◌}
use lib.ListN.{get_or}
use Rattle.policy.specs.AsLists.{lists_of}
use Rattle.value_classes.specs.Names.{keys_below, KeysAdded}
use Rattle.value_classes.proofs.note_policy.Given as goal

abbrev pub invariant-loop-i : goal.invariant-loop-i
invariant-loop-i l = KeysAdded (keys_below (lists_of l.policy) l.i) l.initial.keys l.n l.keys l.count × ((k : ℕ) → k < l.i → get_or l.policy.second.now k 0 < 65536)
