-- `telling` meets its contract.
use mathlib.Core.Path.{sym}
use native.Mathlib.Omega.{arith}
use Rattle.printing.proofs.PrintLaws.{wrote_then}
use Rattle.printed_verdict.proofs.telling.Goals as goal

pub returns : goal.returns
returns c = rw (sym c.from.ensures) (wrote_then c.verdict-at.ensures.wrote (omega (arith, c.requires.0, c.requires.1, c.verdict-at.ensures.short)) c.trace.ensures)
