-- Where the row order has ended: what is read off the lent columns then.
use Rattle.std.specs.Prelude.{ℕ, ◌<◌, ◌≤◌, List, [], ◌∷◌, ◌++◌, length}
use Rattle.pair.specs.Sides.{Side, left, right}
use Rattle.pair.specs.Search.{SearchAnswer, equal, rows_full, reported}
use Rattle.parent_traces.specs.ParentLines.{line_depth, line_path, line_start, Rooted}
use Rattle.verdict.specs.declared.Ended.{Ended}
use Rattle.verdict.specs.declared.Ended.TheVariants.{Done, Left, Right, Full, Unstarted}
use Rattle.verdict.specs.declared.Stop.{Stop}

-- the lowest telling packet and the policy that has it
abbrev pub telling_at : Side → ℕ → Ended
telling_at left γ = Left γ
telling_at right γ = Right γ

-- the line of the row can be read off the columns
pub record CanRead (packets parents : List ℕ) (row listed : ℕ) : Type 0 where
  pub rooted : Rooted parents listed
  pub inside : row < listed
  pub within : listed ≤ length packets

-- the answer at a telling row with so long a trace list lent: the trace is the packets of the row's line, then the lowest telling packet
unfoldable pub telling_answer : ℕ → List ℕ → List ℕ → ℕ → Side → ℕ → SearchAnswer
telling_answer lent packets parents row s γ = reported lent s (line_start packets parents row) (line_path packets parents row ++ (γ ∷ []))

module _ (rows lent : ℕ) (packets parents : List ℕ) (row : ℕ) where
  unfoldable pub answer_at_end : Ended → SearchAnswer
  answer_at_end (Done n) = equal n
  answer_at_end (Left γ) = telling_answer lent packets parents row left γ
  answer_at_end (Right γ) = telling_answer lent packets parents row right γ
  answer_at_end Full = rows_full rows (line_depth parents row)
  answer_at_end Unstarted = rows_full rows 0

-- the answer where the row order has ended, with so many rows and so long a trace list lent
unfoldable pub ended_answer : ℕ → ℕ → List ℕ → List ℕ → Stop → SearchAnswer
ended_answer rows lent packets parents stop = answer_at_end rows lent packets parents stop.row stop.ended

-- where a row is being handled, its line can be read
unfoldable pub ReadableAt : List ℕ → List ℕ → ℕ → ℕ → Ended → Type 0
ReadableAt packets parents row listed (Done n) = Unit
ReadableAt packets parents row listed (Left γ) = CanRead packets parents row listed
ReadableAt packets parents row listed (Right γ) = CanRead packets parents row listed
ReadableAt packets parents row listed Full = CanRead packets parents row listed
ReadableAt packets parents row listed Unstarted = Unit

unfoldable pub Readable : List ℕ → List ℕ → Stop → Type 0
Readable packets parents stop = ReadableAt packets parents stop.row stop.listed stop.ended
