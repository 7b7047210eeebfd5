-- `row_rules::states_fit` meets its contract: below `k` each state is in range. Assumes nothing.
use borrow.Author.Tests.{not-true, not-false}
use mathlib.Core.Path.{sym, ◌∙◌}
use Rattle.index.specs.Columns.{policy_count}
use Rattle.row_rules.proofs.Looking.{in_range_none, in_range_more, out_of_range, in_range_all}
use Rattle.row_rules.proofs.states_fit.Goals as goal

pub loop-k-init : goal.loop-k-init
loop-k-init c = in_range_none _ _

pub returns-then-not-in_range : goal.returns-then-not-in_range
returns-then-not-in_range c = sym (out_of_range _ _ _ policy_count c.loop-k-test.true (sym c.in_range.ensures ∙ not-true _ c.if-not-in_range.true-raw))

pub loop-k-preserved : goal.loop-k-preserved
loop-k-preserved c = in_range_more _ _ _ _ c.loop-k.invariant c.in_range.ensures (not-false _ c.if-not-in_range.false-raw)

pub returns : goal.returns
returns c = sym (in_range_all _ _ _ _ c.loop-k.auto.k-end c.loop-k-test.false c.loop-k.invariant)
