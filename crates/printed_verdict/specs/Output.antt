-- What the program writes (document 01, "The program"): lines of three fields, the verdict's first.
use Rattle.std.specs.Prelude.{ℕ, List, [], ◌∷◌, ◌++◌, length}
use Rattle.packet.specs.declared.Refusal.{Refusal}
use Rattle.packet.specs.Refusals.{Tested}
use Rattle.std.specs.Prelude.{Ok, Err}
use Rattle.packet.specs.Refusals.{refusal}
use Rattle.pair.specs.Sides.{Side, left, right}
use Rattle.pair.specs.Search.{SearchAnswer, equal, different, rows_full, trace_short, Columns}
use Rattle.printing.specs.ThreeFields.{verdict_line, row_lines, trace_lines}

unfoldable pub word_equal : List ℕ
word_equal = 101 ∷ 113 ∷ 117 ∷ 97 ∷ 108 ∷ []

unfoldable pub word_left : List ℕ
word_left = 108 ∷ 101 ∷ 102 ∷ 116 ∷ []

unfoldable pub word_right : List ℕ
word_right = 114 ∷ 105 ∷ 103 ∷ 104 ∷ 116 ∷ []

unfoldable pub word_refused : List ℕ
word_refused = 114 ∷ 101 ∷ 102 ∷ 117 ∷ 115 ∷ 101 ∷ 100 ∷ []

unfoldable pub word_of_side : Side → List ℕ
word_of_side left = word_left
word_of_side right = word_right

-- a refusal's number and place; its side is not printed, nor how far the two agree after 11
unfoldable pub refusal_line : Refusal → List ℕ
refusal_line r = verdict_line word_refused r.number r.place

-- a verdict with its entering packet and trace
unfoldable pub telling_lines : Side → ℕ → List ℕ → List ℕ
telling_lines s α trace = verdict_line (word_of_side s) (length trace) α ++ trace_lines 0 trace

-- the whole output for an answer of the search, from the rows listed
unfoldable pub answer_lines : Columns → SearchAnswer → List ℕ
answer_lines rows (equal n) = verdict_line word_equal n 0 ++ row_lines rows.packets rows.lefts rows.rights
answer_lines rows (different s α trace) = telling_lines s α trace
answer_lines rows (rows_full n d) = refusal_line (refusal 11 0 n)
answer_lines rows (trace_short n) = refusal_line (refusal 12 0 n)

-- the whole output, after the causes tested before the search
unfoldable pub output_after : Tested → Columns → SearchAnswer → List ℕ
output_after (Ok _) rows a = answer_lines rows a
output_after (Err r) rows a = refusal_line r
