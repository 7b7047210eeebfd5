-- `answer` meets its contract.
use Rattle.input.proofs.AskedLaws.{asks_too_long}
use Rattle.console.proofs.Printing.{answer_fits, answers_malformed}
use native.Mathlib.Omega.{arith}
use Rattle.console.proofs.answer.Goals as goal

pub returns-then-input-gt32768 : goal.returns-then-input-gt32768
returns-then-input-gt32768 c = let a = answers_malformed (asks_too_long _ c.if-input-gt32768.true) c.malformed.ensures in record { answers = a; fits = (omega (arith, answer_fits a c.malformed.auto.out), omega (arith, c.malformed.auto.out)) }

pub returns : goal.returns
returns c = record { answers = c.asked.ensures; fits = (omega (arith, answer_fits c.asked.ensures c.asked.auto.out), omega (arith, c.asked.auto.out)) }
