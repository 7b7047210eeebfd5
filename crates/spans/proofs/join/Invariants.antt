-- `join` meets its contract: each turn of the loop does one more word. Assumes nothing.
use Rattle.spans.proofs.Rewriting.{Doing}
use Rattle.spans.proofs.Sets.{joined_word}
use Rattle.spans.proofs.join.Given as goal

abbrev pub invariant-loop-i : goal.invariant-loop-i
invariant-loop-i l = Doing (joined_word l.initial.a l.b) l.initial.a l.a l.i
