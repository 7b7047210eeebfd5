-- `packet::stride_of` meets its contract: `stride` is the product of the sizes from `i` on.
-- Assumes nothing.
use native.Mathlib.Omega.{arith}
use Rattle.packet.proofs.Legal.{from_last, from_down, from_small, from_stride}
use Rattle.packet.proofs.stride_of.Goals as goal

pub loop-i-init : goal.loop-i-init
loop-i-init c = (omega (arith, c.requires.field_in_bounds), from_last _)

pub offset_bounds-sizes-i : goal.offset_bounds-sizes-i
offset_bounds-sizes-i c = omega (arith, c.loop-i.invariant.1.within)

pub overflow_mul-stride : goal.overflow_mul-stride
overflow_mul-stride c = omega (arith, from_small _ c.requires.legal_sizes (from_down _ c.requires.legal_sizes c.loop-i.invariant.1 (omega arith)))

pub loop-i-preserved : goal.loop-i-preserved
loop-i-preserved c = (omega arith, from_down _ c.requires.legal_sizes c.loop-i.invariant.1 (omega arith))

pub returns : goal.returns
returns c = from_stride _ c.loop-i.invariant.1 c.args.field (omega arith)
