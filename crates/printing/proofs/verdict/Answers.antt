-- `printing::verdict` meets its contract.
use native.Mathlib.Omega.{arith}
use Rattle.printing.specs.ThreeFields.{verdict_line}
use Rattle.printing.proofs.PrintLaws.{wrote_then}
use Rattle.printing.proofs.verdict.Goals as goal

pub returns : goal.returns
unfolding verdict_line
returns c = record { wrote = wrote_then c.bytes-end.ensures (omega (arith, c.requires, c.bytes-end.ensures.ends)) c.rest.ensures.wrote; short = omega (arith, c.rest.ensures.short, c.requires, c.bytes-end.ensures.ends) }
