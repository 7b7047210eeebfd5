-- `two_sizes` meets its contract: no name below `i` has another size in the other table. Assumes nothing.
use mathlib.Core.List.{[], ◌∷◌}
use mathlib.Core.Path.{◌≡◌}
use Rattle.std.proofs.Common.{None}
use Rattle.packet.specs.Lowest.{lowest}
use Rattle.fields.specs.Tables.{lent_table, any_table, other_size}
use Rattle.fields.proofs.two_sizes.Given as goal

abbrev pub invariant-loop-i : goal.invariant-loop-i
invariant-loop-i l = lowest (λ j. any_table (other_size (lent_table l.table) j) (lent_table l.other ∷ [])) l.i ≡ None
