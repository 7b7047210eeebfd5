-- The trace checker's answer: left, right, both or neither (document 01, "Row rules for evidence").
use Rattle.std.specs.Prelude.{ℕ, Bool, true, false, List}
use Rattle.automaton.specs.State.{has_trace}
use Rattle.pair.specs.Sides.{Side, left, right, Pair, at, NumberedPolicy}

pub data TraceAnswer : Type 0 where
  only : Side → TraceAnswer
  both neither : TraceAnswer

-- what the answer says of a side: it has the trace
unfoldable pub has : Side → TraceAnswer → Bool
has left (only left) = true
has left (only right) = false
has right (only left) = false
has right (only right) = true
has s both = true
has s neither = false

unfoldable pub answer_of : Bool → Bool → TraceAnswer
answer_of true true = both
answer_of true false = only left
answer_of false true = only right
answer_of false false = neither

module _ (sizes : List ℕ) (ps : Pair NumberedPolicy) where
  -- the side's policy has the trace from α
  unfoldable pub side_has : Side → ℕ → List ℕ → Bool
  side_has s α trace = has_trace sizes (at s ps).tree (at s ps).dups α trace

  unfoldable pub trace_answer : ℕ → List ℕ → TraceAnswer
  trace_answer α trace = answer_of (side_has left α trace) (side_has right α trace)
