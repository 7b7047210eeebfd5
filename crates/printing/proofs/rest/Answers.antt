-- `printing::rest` meets its contract.
use native.Mathlib.Omega.{arith}
use Rattle.printing.proofs.PrintLaws.{rest_wrote}
use Rattle.printing.proofs.rest.Goals as goal

pub returns : goal.returns
returns c = record { wrote = rest_wrote _ _ c.requires c.byte-b_at.ensures c.number-b_end.ensures.wrote c.number-b_end.ensures.short c.byte-c_at.ensures c.number-c_end.ensures.wrote c.number-c_end.ensures.short c.byte-lf.ensures c.byte.ensures; short = omega (arith, c.byte-b_at.ensures.ends, c.number-b_end.ensures.short, c.byte-c_at.ensures.ends, c.number-c_end.ensures.short, c.byte-lf.ensures.ends, c.byte.ensures.ends) }
