-- `turning::length_test` meets its contract. Assumes nothing.
use mathlib.Core.Path.{ap, ◌∙◌}
use Rattle.std.proofs.Common.{Err}
use Rattle.turning.proofs.Tests.{length_refused, length_passed}
use Rattle.turning.proofs.length_test.Goals as goal

pub returns-then-values-k : goal.returns-then-values-k
returns-then-values-k c = ap Err c.unsided.ensures ∙ length_refused _ _ c.if-values-k.true

pub returns : goal.returns
returns c = length_passed _ _ c.if-values-k.false
