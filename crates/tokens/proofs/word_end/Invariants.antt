-- `word_end` meets its contract.
use Prim.Native.Nat.{◌+◌}
use mathlib.Core.Path.{◌≡◌}
use lib.ListN.{length, drop}
use Rattle.grammar.specs.Tokens.{word_of}
use Rattle.tokens.proofs.word_end.Given as goal

abbrev pub invariant-loop-i : goal.invariant-loop-i
invariant-loop-i l = l.at + length (word_of (drop l.at l.text)) ≡ l.i + length (word_of (drop l.i l.text))
