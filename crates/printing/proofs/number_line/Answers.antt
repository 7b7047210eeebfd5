-- `printing::number_line` meets its contract.
use native.Mathlib.Omega.{arith}
use Rattle.printing.specs.ThreeFields.{number_line}
use Rattle.printing.proofs.PrintLaws.{wrote_then}
use Rattle.printing.proofs.number_line.Goals as goal

pub returns : goal.returns
unfolding number_line
returns c = record {
  wrote = wrote_then c.number-end.ensures.wrote (omega (arith, c.requires, c.number-end.ensures.short)) c.rest.ensures.wrote;
  short = omega (arith, c.number-end.ensures.short, c.rest.ensures.short);
}
