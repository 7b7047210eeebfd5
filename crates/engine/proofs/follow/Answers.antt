-- `follow` meets its contract. Assumes nothing.
use mathlib.Core.Path.{sym, ◌∙◌}
use Rattle.engine.proofs.Leaving.{not_true, not_false}
use Rattle.engine.proofs.Following.{zero_followed}
use Rattle.engine.proofs.Stepping.{visited_not, visited_marked}
use Rattle.engine.proofs.follow.Goals as goal

pub returns-then-not-is_marked-clause-visited : goal.returns-then-not-is_marked-clause-visited
returns-then-not-is_marked-clause-visited c = visited_not c.requires.1.spanned (sym c.is_marked.ensures ∙ not_true _ c.if-not-is_marked.true-raw)

pub returns-then-i-eq0-clause-visited : goal.returns-then-i-eq0-clause-visited
returns-then-i-eq0-clause-visited c = visited_marked (sym c.is_marked.ensures ∙ not_false _ c.if-not-is_marked.false-raw) (zero_followed c.if-i-eq0.true c.follow_whole.ensures.stepped)

pub returns-clause-visited : goal.returns-clause-visited
returns-clause-visited c = visited_marked (sym c.is_marked.ensures ∙ not_false _ c.if-not-is_marked.false-raw) c.follow_dup.ensures.stepped
