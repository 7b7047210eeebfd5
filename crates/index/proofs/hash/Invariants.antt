-- `index::hash` meets its contract: the states passed are hashed. Assumes nothing.
use mathlib.Core.Path.{◌≡◌}
use Rattle.index.specs.Index.{hash_of}
use Rattle.index.proofs.hash.Given as goal

abbrev pub invariant-loop-mask : goal.invariant-loop-mask
invariant-loop-mask l = l.h ≡ hash_of l.mask-index l.fn.states
