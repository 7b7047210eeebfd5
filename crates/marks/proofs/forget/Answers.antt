-- `forget` meets its contract: each turn of the loop forgets one word. Assumes nothing.
use native.Mathlib.Omega.{arith}
use Rattle.marks.proofs.Clearing.{forgotten_none, word_fits, forgotten_more, forgotten_all}
use Rattle.marks.proofs.forget.Goals as goal

pub loop-i-init : goal.loop-i-init
loop-i-init c = forgotten_none (omega arith)

pub forget_word-requires : goal.forget_word-requires
forget_word-requires c = word_fits c.requires.marking c.loop-i.invariant (omega arith)

pub loop-i-preserved : goal.loop-i-preserved
loop-i-preserved c = forgotten_more c.requires.marking c.loop-i.invariant (omega arith) c.forget_word.auto.next c.forget_word.ensures

pub returns : goal.returns
returns c = record { long = c.loop-i.invariant.long; unmarked = forgotten_all c.requires.marking c.loop-i.invariant c.loop-i-test.false }
