-- `with_value` meets its contract: each turn puts in one run. Assumes nothing.
use Prim.Native.Nat.{◌-◌}
use lib.ListN.{get_or}
use Rattle.loaded.proofs.Runs.{Filling}
use Rattle.loaded.proofs.sets.with_value.Given as goal

abbrev pub invariant-loop-start : goal.invariant-loop-start
invariant-loop-start l = Filling l.stride (get_or l.sizes l.field 0) l.value l.count l.set l.start

abbrev pub decreases-loop-start : goal.decreases-loop-start
decreases-loop-start l = l.count - l.start
