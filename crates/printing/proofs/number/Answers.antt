-- `printing::number` meets its contract.
use native.Mathlib.Omega.{arith}
use Rattle.printing.proofs.PrintLaws.{wrote_numeral, numeral_short}
use Rattle.printing.proofs.number.Goals as goal

pub bytes-requires : goal.bytes-requires
bytes-requires c = omega (arith, c.requires, numeral_short _ c.decimal-k.ensures.len c.decimal-k.ensures.digits c.ranges.n.fits)

pub returns : goal.returns
returns c = let few = numeral_short _ c.decimal-k.ensures.len c.decimal-k.ensures.digits c.ranges.n.fits in
    record { wrote = wrote_numeral _ c.decimal-k.ensures.len c.decimal-k.ensures.digits c.bytes.ensures; short = omega (arith, c.bytes.ensures.ends, few) }
