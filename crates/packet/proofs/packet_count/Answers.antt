-- `packet::packet_count` meets its contract: `product` is the running product of the fields passed, none of which is over 1,024.
-- Assumes nothing.
use native.Mathlib.Omega.{arith}
use Rattle.std.proofs.Common.{Err}
use mathlib.Core.Path.{ap, ◌∙◌}
use Rattle.packet.proofs.Sizes.{running_none, running_fits, running_more, running_all, running_over}
use Rattle.packet.proofs.packet_count.Goals as goal

pub loop-i-init : goal.loop-i-init
loop-i-init c = running_none _

pub overflow_mul-product : goal.overflow_mul-product
overflow_mul-product c = omega (arith, running_fits _ c.loop-i.invariant c.loop-i-test.true c.from-product.ensures (omega arith))

pub returns-then-product-gt1024 : goal.returns-then-product-gt1024
returns-then-product-gt1024 c = ap Err c.unsided.ensures ∙ running_over _ c.loop-i.invariant c.loop-i-test.true c.from-product.ensures c.if-product-gt1024.true

pub loop-i-preserved : goal.loop-i-preserved
loop-i-preserved c = running_more _ c.loop-i.invariant c.loop-i-test.true c.from-product.ensures c.if-product-gt1024.false

pub overflow_cast-result : goal.overflow_cast-result
overflow_cast-result c = omega (arith, c.loop-i.invariant.small)

pub returns : goal.returns
returns c = running_all _ c.loop-i.invariant c.loop-i-test.false
