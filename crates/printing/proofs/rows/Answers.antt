-- `printing::rows` meets its contract.
use mathlib.Core.Path.{refl}
use Rattle.printing.proofs.PrintLaws.{rows_none, rows_more, rows_all}
use Rattle.printing.proofs.rows.Goals as goal

pub loop-i-init : goal.loop-i-init
loop-i-init c = rows_none _ _ _ _ _

pub loop-i-preserved : goal.loop-i-preserved
loop-i-preserved c = rows_more c.loop-i.invariant c.loop-i-test.true c.requires.0 c.requires.1 c.from.ensures refl refl c.number_line-at.ensures.short c.requires.2 c.number_line-at.ensures.wrote c.number_line-at.auto.out

pub returns : goal.returns
returns c = rows_all c.loop-i.invariant c.loop-i-test.false
