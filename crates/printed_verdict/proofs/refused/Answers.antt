-- `refused` meets its contract.
use mathlib.Core.Path.{sym}
use Rattle.printed_verdict.specs.Output.{refusal_line, word_refused}
use Rattle.printed_verdict.proofs.refused.Goals as goal

pub returns : goal.returns
unfolding refusal_line word_refused
returns c = rw (sym c.from.ensures) c.verdict.ensures.wrote
