-- `lines::cr_at` meets its contract.
use native.Mathlib.Omega.{arith}
use borrow.Author.Tests.{ne_eqb}
use Rattle.input.proofs.LineLaws.{not_cr, cr_next, cr_end}
use Rattle.input.proofs.lines.cr_at.Goals as goal

pub returns-then-at-input : goal.returns-then-at-input
returns-then-at-input c = cr_end c.args.input.now _ _ (omega arith)

pub returns-then-input-at-eq13 : goal.returns-then-input-at-eq13
returns-then-input-at-eq13 c = cr_next c.args.input.now _ _ c.if-input-at-eq13.true (omega arith)

pub returns-else-input-at-eq13 : goal.returns-else-input-at-eq13
returns-else-input-at-eq13 c = rw (ne_eqb _ 13 c.if-input-at-eq13.false) (not_cr _ _ c.if-input-at-eq13.false)
