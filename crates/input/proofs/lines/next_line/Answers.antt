-- `lines::next_line` meets its contract.
use mathlib.Core.Path.{◌≡◌, sym, ◌∙◌}
use lib.ListN.{length}
use borrow.Author.Tests.{eqb-true, eqb-false}
use native.Mathlib.Omega.{arith}
use Rattle.input.proofs.LineLaws.{passed_none, passed_more, line_lf, line_crlf, line_end, lines_at, lines_end, lines_none}
use Rattle.input.proofs.lines.next_line.Goals as goal

pub loop-i-init : goal.loop-i-init
loop-i-init c = passed_none _ _ (omega arith)

pub returns-then-b-eq10 : goal.returns-then-b-eq10
returns-then-b-eq10 c = lines_at _ (omega arith) (c.loop-i.invariant.line _ _ (line_lf _ _ c.loop-i-test.true c.if-b-eq10.true))

pub slice_bounds-result-count-then-cr_at : goal.slice_bounds-result-count-then-cr_at
slice_bounds-result-count-then-cr_at c = omega (arith, (line_crlf _ _ c.loop-i-test.true c.if-b-eq10.false (sym c.cr_at.ensures ∙ c.if-cr_at.true)).bounded)

pub slice_bounds-result-start-then-cr_at : goal.slice_bounds-result-start-then-cr_at
slice_bounds-result-start-then-cr_at c = omega (arith, (line_crlf _ _ c.loop-i-test.true c.if-b-eq10.false (sym c.cr_at.ensures ∙ c.if-cr_at.true)).bounded)

pub returns-then-cr_at : goal.returns-then-cr_at
returns-then-cr_at c = lines_at _ (omega arith) (c.loop-i.invariant.line _ _ (line_crlf _ _ c.loop-i-test.true c.if-b-eq10.false (sym c.cr_at.ensures ∙ c.if-cr_at.true)))

pub loop-i-preserved : goal.loop-i-preserved
loop-i-preserved c = passed_more _ _ _ c.loop-i.invariant c.loop-i-test.true c.if-b-eq10.false (sym c.cr_at.ensures ∙ c.if-cr_at.false)

pub returns-then-is_empty : goal.returns-then-is_empty
returns-then-is_empty c = lines_none _ (eqb-true _ _ (sym c.is_empty.ensures ∙ c.if-is_empty.true))

pub returns : goal.returns
returns c =
    let some : ¬ (length c.args.input.now ≡ 0) = eqb-false _ _ (sym c.is_empty.ensures ∙ c.if-is_empty.false) in
    lines_end _ (omega arith) c.loop-i-test.false (c.loop-i.invariant.line _ _ (line_end _ _ c.loop-i.invariant.within c.loop-i-test.false))
