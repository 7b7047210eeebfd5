-- `all_small_or_digit` meets its contract: what is left decides. Assumes nothing.
use mathlib.Core.Path.{◌≡◌}
use lib.ListN.{drop}
use Rattle.fields.specs.Names.{all_small_or_digit}
use Rattle.fields.proofs.names.all_small_or_digit.Given as goal

abbrev pub invariant-loop-b : goal.invariant-loop-b
invariant-loop-b l = all_small_or_digit l.w ≡ all_small_or_digit (drop l.b-index l.w)
