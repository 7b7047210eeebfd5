-- `tell` meets its contract. Assumes nothing.
use native.Mathlib.Omega.{arith}
use mathlib.Core.Bool.{cond}
use mathlib.Core.Path.{ap}
use Prim.Native.Nat.{◌+◌}
use Rattle.packet.specs.Refusals.{refusal}
use Rattle.pair.specs.Sides.{left, right}
use Rattle.parent_traces.proofs.Lines.{depth_within}
use Rattle.verdict.proofs.Reporting.{tells_short, tells_trace}
use Rattle.verdict.proofs.tell.Goals as goal

pub overflow_add-needed : goal.overflow_add-needed
overflow_add-needed c = let p = c.requires in omega (arith, c.depth-needed.ensures, depth_within p.rooted _ p.inside, p.inside, p.within, c.well_formed)

pub returns-then-trace-needed : goal.returns-then-trace-needed
unfolding refusal
returns-then-trace-needed c = tells_short c.requires _ _ _ _ (ap (λ d. d + 1) c.depth-needed.ensures) c.if-trace-needed.true

pub returns-then-left_has : goal.returns-then-left_has
returns-then-left_has c = tells_trace c.requires _ _ _ _ (ap (λ d. d + 1) c.depth-needed.ensures) c.if-trace-needed.false _ c.write_trace.ensures _ c.entering-alpha.ensures left (ap (λ b. cond b left right) c.if-left_has.true)

pub returns-else-left_has : goal.returns-else-left_has
returns-else-left_has c = tells_trace c.requires _ _ _ _ (ap (λ d. d + 1) c.depth-needed.ensures) c.if-trace-needed.false _ c.write_trace.ensures _ c.entering-alpha.ensures right (ap (λ b. cond b left right) c.if-left_has.false)
