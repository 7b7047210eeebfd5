-- `unnamed` meets its contract: the values below the lowest are named. Assumes nothing.
use native.Mathlib.Omega.{arith}
use mathlib.Core.Path.{refl}
use Rattle.value_classes.proofs.PlaceLaws.{named_none, named_more, named_other, named_all}
use Rattle.value_classes.proofs.unnamed.Goals as goal

pub loop-k-init : goal.loop-k-init
loop-k-init c = (refl, named_none _ _)

pub returns-then-k-key : goal.returns-then-k-key
returns-then-k-key c = rw c.loop-k.invariant.0 (named_other _ _ c.loop-k.invariant.1 (omega arith) (λ e. c.if-k-key.true (omega (arith, e))))

pub loop-k-preserved : goal.loop-k-preserved
loop-k-preserved c = (omega arith, named_more _ _ c.loop-k.invariant.1 (omega arith) (omega arith))

pub returns : goal.returns
returns c = rw c.loop-k.invariant.0 (named_all _ _ c.loop-k.invariant.1 (omega arith))
