-- `step` meets its contract: the marked remainders are stepped one after another. Assumes nothing.
use borrow.Author.Rules.{rules}
use mathlib.Core.Path.{refl, sym}
use native.Mathlib.Omega.{arith}
use Rattle.engine.proofs.Stepping.{none_from, step_start, step_more, step_end, unsee_asks}
use Rattle.engine.proofs.step.Goals as goal
use Rattle.engine.proofs.step.Goals.{else-loop-i-test, then-loop-i-test+then-state-i-eq0}

pub loop-i-init : goal.loop-i-init
loop-i-init c = (step_start c.requires (search rules), (refl, refl))

pub loop-i-preserved : goal.loop-i-preserved
loop-i-preserved c = (step_more c.loop-i.invariant.0 (omega arith) c.follow-at.ensures.visited, search rules)

pub unsee-requires : goal.unsee-requires
unsee-requires c = unsee_asks c.loop-i.invariant.0 c.requires

pub returns : goal.returns
returns c =
    let work = c.work-1.given.1.1 (sym c.loop-i.invariant.1.0) in
    let next = c.next-1.given.1 (sym c.loop-i.invariant.1.1) in
    rw (work, next) (step_end c.loop-i.invariant.0
    (elim c.loop-i-test.branch [
      | else-loop-i-test w ↦ λ j a b. absurd (omega arith)
      | then-loop-i-test+then-state-i-eq0 w ↦ λ j a b. none_from _ _ w.if-state-i-eq0.true j a
    ])
    c.requires c.unsee.ensures c.unsee.auto.work)
