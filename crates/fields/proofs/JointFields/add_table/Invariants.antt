-- `add_table` meets its contract: the first `i` fields are added. Assumes nothing.
use Rattle.fields.specs.Tables.{lent_table}
use Rattle.fields.proofs.HeldLaws.{AddingTo}
use Rattle.fields.proofs.JointFields.add_table.Given as goal

abbrev pub invariant-loop-i : goal.invariant-loop-i
invariant-loop-i l = AddingTo (lent_table l.table) l.i l.initial.self l.self
