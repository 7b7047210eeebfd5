-- `rows_misfit` meets its contract: the lists that are left decide. Assumes nothing.
use mathlib.Core.Path.{◌≡◌}
use lib.ListN.{drop}
use Rattle.lent_lists.specs.LentLists.{misfit}
use Rattle.lent_lists.proofs.rows_misfit.Given as goal

abbrev pub invariant-loop-n : goal.invariant-loop-n
invariant-loop-n l = misfit l.first l.others ≡ misfit l.first (drop l.n-index l.others)
