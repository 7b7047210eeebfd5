-- What the functions that print a verdict promise.
use Rattle.std.specs.Prelude.{ℕ, ◌≤◌, List, ◌++◌, length, take}
use Rattle.verdict.specs.declared.Verdict.{Verdict}
use Rattle.verdict.specs.declared.Verdict.TheVariants.{Equal, Left, Right, Full, Refused}
use Rattle.printing.specs.ThreeFields.{verdict_line, row_lines, trace_lines}
use Rattle.printed_verdict.specs.Output.{word_equal, word_left, word_right, refusal_line}

-- the output has room for 4,097 lines of at most 64 bytes
abbrev pub output_room : ℕ
output_room = 262208

-- the lines of a verdict, read off the lists that the search has left
unfoldable pub verdict_lines : Verdict → List ℕ → List ℕ → List ℕ → List ℕ → List ℕ
verdict_lines (Equal n) ps ls rs trace = verdict_line word_equal n 0 ++ row_lines (take n ps) (take n ls) (take n rs)
verdict_lines (Left n α) ps ls rs trace = verdict_line word_left n α ++ trace_lines 0 (take n trace)
verdict_lines (Right n α) ps ls rs trace = verdict_line word_right n α ++ trace_lines 0 (take n trace)
verdict_lines (Full r d) ps ls rs trace = refusal_line r
verdict_lines (Refused r) ps ls rs trace = refusal_line r

-- there are no more rows or packets than were lent
unfoldable pub Fits : Verdict → List ℕ → List ℕ → List ℕ → List ℕ → Type 0
Fits (Equal n) ps ls rs trace = (n ≤ 4096) × (n ≤ length ps) × (n ≤ length ls) × (n ≤ length rs)
Fits (Left n α) ps ls rs trace = (n ≤ 4096) × (n ≤ length trace)
Fits (Right n α) ps ls rs trace = (n ≤ 4096) × (n ≤ length trace)
Fits (Full r d) ps ls rs trace = Unit
Fits (Refused r) ps ls rs trace = Unit
