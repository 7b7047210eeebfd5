-- `vectors::fill` goes on while there is room.
use Rattle.std.proofs.Common.{◌<◌, length}
use Rattle.vectors.proofs.fill.Given as goal

abbrev pub invariant-loop : goal.invariant-loop
invariant-loop g l = l.len < length l.list

abbrev pub invariant-loop-2 : goal.invariant-loop-2
invariant-loop-2 g l = l.len < length l.list

abbrev pub invariant-loop-3 : goal.invariant-loop-3
invariant-loop-3 g l = l.len < length l.list
