-- `equal` meets its contract.
use native.Mathlib.Omega.{arith}
use Rattle.printed_verdict.specs.Output.{word_equal}
use Rattle.printing.proofs.PrintLaws.{wrote_then}
use Rattle.printed_verdict.proofs.equal.Goals as goal

pub returns : goal.returns
unfolding word_equal
returns c = wrote_then c.verdict-at.ensures.wrote (omega (arith, c.requires.0, c.verdict-at.ensures.short)) c.rows.ensures
