-- Lines of three fields, split by commas, ended by CRLF as in RFC 4180 (document 01, "The program").
use Rattle.std.specs.Prelude.{ℕ, zero, suc, ◌+◌, ◌/◌, ◌%◌, true, false, List, [], ◌∷◌, ◌++◌, ltb}

-- the decimal digits of n without leading zeros, no more of them than the first number says
unfoldable pub digits_up_to : ℕ → ℕ → List ℕ
digits_up_to zero n = []
digits_up_to (suc k) n = elim (ltb n 10) [ true ↦ (48 + n) ∷ [] | false ↦ digits_up_to k (n / 10) ++ ((48 + n % 10) ∷ []) ]

-- a number in decimal; it has no more than n + 1 digits
unfoldable pub numeral : ℕ → List ℕ
numeral n = digits_up_to (suc n) n

-- the second and third field, and the line's end
unfoldable pub line_rest : ℕ → ℕ → List ℕ
line_rest b c = 44 ∷ numeral b ++ 44 ∷ numeral c ++ 13 ∷ 10 ∷ []

unfoldable pub number_line : ℕ → ℕ → ℕ → List ℕ
number_line a b c = numeral a ++ line_rest b c

-- the first line: the verdict and its two numbers
unfoldable pub verdict_line : List ℕ → ℕ → ℕ → List ℕ
verdict_line word b c = word ++ line_rest b c

-- a row's packet, left state and right state, for each row
unfoldable pub row_lines : List ℕ → List ℕ → List ℕ → List ℕ
row_lines [] ls rs = []
row_lines (p ∷ ps) [] rs = []
row_lines (p ∷ ps) (l ∷ ls) [] = []
row_lines (p ∷ ps) (l ∷ ls) (r ∷ rs) = number_line p l r ++ row_lines ps ls rs

-- 1 for the last packet of a trace, else 0
unfoldable pub last_flag : List ℕ → ℕ
last_flag [] = 1
last_flag (p ∷ ps) = 0

-- for each packet its place in the trace, the packet, and 1 for the last, else 0; so many packets are before these
unfoldable pub trace_lines : ℕ → List ℕ → List ℕ
trace_lines before [] = []
trace_lines before (p ∷ ps) = number_line (suc before) p (last_flag ps) ++ trace_lines (suc before) ps
