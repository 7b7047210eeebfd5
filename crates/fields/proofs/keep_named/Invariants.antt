-- `keep_named` meets its contract: the cells below `f` are dealt with. Assumes nothing.
use Rattle.fields.specs.Names.{names_in}
use Rattle.fields.proofs.TableLaws.{KeptTo}
use Rattle.fields.proofs.keep_named.Given as goal

abbrev pub invariant-loop-f : goal.invariant-loop-f
invariant-loop-f l = KeptTo (names_in l.table) l.initial.cells l.cells l.f
