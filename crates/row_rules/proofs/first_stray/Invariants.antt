-- `row_rules::first_stray` meets its contract: below `i` no row breaks rule (a). Assumes nothing.
use lib.ListN.{length}
use Rattle.row_rules.specs.Presence.{strays}
use Rattle.row_rules.proofs.Looking.{Unbroken}
use Rattle.row_rules.proofs.first_stray.Given as goal

abbrev pub invariant-loop-i : goal.invariant-loop-i
invariant-loop-i l = Unbroken (strays l.columns.packets.now l.columns.left.now l.columns.right.now l.count l.dups) (length l.columns.packets.now) l.i
