-- `words::number_from` meets its contract. The loop's invariant: what is left makes the same number after the digits passed.
use Prim.Native.Nat.{◌≤◌}
use mathlib.Core.Path.{◌≡◌}
use lib.ListN.{drop}
use Rattle.tokens.specs.Inner.{number_from}
use Rattle.tokens.proofs.words.number_from.Given as goal

abbrev pub invariant-loop-b : goal.invariant-loop-b
invariant-loop-b l = (l.n ≤ 65535) × (number_from 0 l.w ≡ number_from l.n (drop l.b-index l.w))
