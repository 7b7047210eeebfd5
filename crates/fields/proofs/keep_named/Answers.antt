-- `keep_named` meets its contract: the cells below `f` are dealt with. Assumes nothing.
use native.Mathlib.Numerals.{add-one}
use native.Mathlib.Omega.{arith}
use mathlib.Core.Path.{sym, subst}
use Rattle.fields.specs.Names.{names_in}
use Rattle.fields.proofs.TableLaws.{KeptTo, kept_none, kept_more, kept_all}
use Rattle.fields.proofs.keep_named.Goals as goal

pub loop-f-init : goal.loop-f-init
loop-f-init c = kept_none (names_in c.args.table.now) c.args.cells.now

pub loop-f-preserved : goal.loop-f-preserved
loop-f-preserved c =
    subst (λ n. KeptTo (names_in c.args.table.now) c.args.cells.now c.keep_if_named.new.cells n) (sym (add-one c.loop-f.f)) (kept_more (names_in c.args.table.now) c.args.cells.now c.loop-f.cells c.keep_if_named.new.cells c.loop-f.f c.loop-f-test.true c.loop-f.invariant c.keep_if_named.ensures)

pub returns : goal.returns
returns c = kept_all (names_in c.args.table.now) c.args.cells.now c.loop-f.cells c.loop-f.f (omega arith) c.loop-f.invariant
