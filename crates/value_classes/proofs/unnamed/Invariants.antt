-- `unnamed` meets its contract: the values below the lowest are named. Assumes nothing.
use mathlib.Core.Path.{◌≡◌}
use Rattle.value_classes.proofs.PlaceLaws.{NamedTo}
use Rattle.value_classes.proofs.unnamed.Given as goal

abbrev pub invariant-loop-k : goal.invariant-loop-k
invariant-loop-k l = (l.lowest ≡ l.k-index) × NamedTo l.field l.part l.k-index
