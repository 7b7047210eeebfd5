-- The verdict of an answer, and the trace list after it (document 01, "States and rows").
use Rattle.std.specs.Prelude.{ℕ, List, ◌≡◌, length}
use Rattle.packet.specs.Refusals.{refusal}
use Rattle.pair.specs.Sides.{Side, left, right}
use Rattle.pair.specs.Search.{SearchAnswer, equal, different, rows_full, trace_short}
use Rattle.packet.specs.Written.{written}
use Rattle.verdict.specs.declared.Verdict.{Verdict}
use Rattle.verdict.specs.declared.Verdict.TheVariants.{Equal, Left, Right, Full, Refused}

-- a telling trace: the policy that has it, its length and the entering packet
abbrev pub telling_verdict : Side → ℕ → ℕ → Verdict
telling_verdict left n α = Left n α
telling_verdict right n α = Right n α

-- each answer's number and values
unfoldable pub verdict_of : SearchAnswer → Verdict
verdict_of (equal rows) = Equal rows
verdict_of (different s α trace) = telling_verdict s (length trace) α
verdict_of (rows_full rows d) = Full (refusal 11 0 rows) d
verdict_of (trace_short needed) = Refused (refusal 12 0 needed)

-- the trace list after an answer: written on left and right only
unfoldable pub trace_after : SearchAnswer → List ℕ → List ℕ
trace_after (equal rows) old = old
trace_after (different s α trace) old = written trace old
trace_after (rows_full rows d) old = old
trace_after (trace_short needed) old = old

-- the verdict of an answer, and the trace list after it
pub record Told (a : SearchAnswer) (trace : List ℕ) (verdict : Verdict) (trace' : List ℕ) : Type 0 where
  pub answers : verdict ≡ verdict_of a
  pub leaves : trace' ≡ trace_after a trace
