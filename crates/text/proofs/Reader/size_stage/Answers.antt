-- `Reader::size_stage` meets its contract.
use native.Mathlib.Omega.{arith}
use Rattle.grammar.proofs.AnswerLaws.{sized_stop, sized_over, sized_nodes}
use Rattle.text.proofs.Reader.size_stage.Goals as goal

pub returns-then-n-min : goal.returns-then-n-min
returns-then-n-min c = sized_over _ _ _ _ _ c.in-Ok.ensures.0 c.in-Ok.ensures.1 (omega (arith, c.min.ensures, c.if-n-min.true)) c.unsided.ensures

pub returns-else-n-min : goal.returns-else-n-min
returns-else-n-min c = sized_nodes _ _ _ _ c.in-Ok.ensures.0 c.in-Ok.ensures.1 (omega (arith, c.min.ensures, c.if-n-min.false))

pub returns-in-Err : goal.returns-in-Err
returns-in-Err c = sized_stop _ _ _ _ _ c.in-Err.ensures c.unsided-in-Err.ensures
