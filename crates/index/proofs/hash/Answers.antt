-- `index::hash` meets its contract: the states passed are hashed. Assumes nothing.
use native.Mathlib.Nat.{mod-lt}
use native.Mathlib.Omega.{arith}
use mathlib.Core.Path.{refl}
use Rattle.index.proofs.Hashing.{hash_below, hash_none, hash_more, hash_all}
use Rattle.index.proofs.hash.Goals as goal

pub loop-mask-init : goal.loop-mask-init
loop-mask-init c = hash_none _

pub mix-requires : goal.mix-requires
mix-requires c = (rw c.loop-mask.invariant (hash_below _ _), mod-lt _ (omega arith))

pub loop-mask-preserved : goal.loop-mask-preserved
loop-mask-preserved c = hash_more _ _ _ _ c.loop-mask.invariant refl _ _ c.mix.ensures.0 c.mix_upper-h.ensures

pub returns : goal.returns
returns c = hash_all _ _ _ _ c.loop-mask.auto.mask-index-end c.loop-mask-test.false c.loop-mask.invariant
