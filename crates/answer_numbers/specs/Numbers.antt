-- The eight numbers that each answer has in the C interface. The first: 0 done, equal or accepted; 1 left; 2 right; 3 both; 4 neither;
-- 5 rejected; 9 refused. Numbers not used are 0.
use Rattle.std.specs.Prelude.{ℕ, List, [], ◌∷◌, Result, Ok, Err}
use Rattle.packet.specs.Refusals.{Tested}
use Rattle.packet.specs.declared.Refusal.{Refusal}
use Rattle.verdict.specs.declared.Verdict.{Verdict}
use Rattle.verdict.specs.declared.Verdict.TheVariants.{Equal, Left, Right, Full, Refused as SearchRefused}
use Rattle.evidence.specs.declared.Evidence.{Evidence}
use Rattle.evidence.specs.declared.Evidence.TheVariants.{Accepted, RuleA, RuleB, RuleC, RuleD, Refused as EvidenceRefused}
use Rattle.traces.specs.declared.TraceChecked.{TraceChecked}
use Rattle.traces.specs.declared.TraceChecked.TheVariants.{Left as OnlyLeft, Right as OnlyRight, Both, Neither, Refused as TraceRefused}

-- all but refusal 11 use four at most
abbrev pub eight : ℕ → ℕ → ℕ → ℕ → List ℕ
eight a b c d = a ∷ b ∷ c ∷ d ∷ 0 ∷ 0 ∷ 0 ∷ 0 ∷ []

-- number, side, place
unfoldable pub refused_numbers : Refusal → List ℕ
refused_numbers r = eight 9 r.number r.side r.place

-- a number turned into values, which stand in the lent list
unfoldable pub values_numbers : Tested → List ℕ
values_numbers (Ok _) = eight 0 0 0 0
values_numbers (Err r) = refused_numbers r

-- one number: values turned into the packet, a policy's dups, a text's nodes
unfoldable pub count_numbers : Result ℕ Refusal → List ℕ
count_numbers (Ok n) = eight 0 n 0 0
count_numbers (Err r) = refused_numbers r

-- the dups of the left policy, of the right policy
unfoldable pub pair_numbers : Result (ℕ × ℕ) Refusal → List ℕ
pair_numbers (Ok dups) = eight 0 dups.0 dups.1 0
pair_numbers (Err r) = refused_numbers r

-- refusal 11: number, side, place, and how far the two agree
unfoldable pub full_numbers : Refusal → ℕ → List ℕ
full_numbers r d = 9 ∷ r.number ∷ r.side ∷ r.place ∷ d ∷ 0 ∷ 0 ∷ 0 ∷ []

-- equal: the rows; left and right: the trace's length, the entering packet
unfoldable pub verdict_numbers : Verdict → List ℕ
verdict_numbers (Equal rows) = eight 0 rows 0 0
verdict_numbers (Left n α) = eight 1 n α 0
verdict_numbers (Right n α) = eight 2 n α 0
verdict_numbers (Full r d) = full_numbers r d
verdict_numbers (SearchRefused r) = refused_numbers r

-- rejected: the rule, 1 to 4 for (a) to (d), then row or α, then γ
unfoldable pub evidence_numbers : Evidence → List ℕ
evidence_numbers Accepted = eight 0 0 0 0
evidence_numbers (RuleA i) = eight 5 1 i 0
evidence_numbers (RuleB α) = eight 5 2 α 0
evidence_numbers (RuleC i) = eight 5 3 i 0
evidence_numbers (RuleD i γ) = eight 5 4 i γ
evidence_numbers (EvidenceRefused r) = refused_numbers r

unfoldable pub trace_numbers : TraceChecked → List ℕ
trace_numbers OnlyLeft = eight 1 0 0 0
trace_numbers OnlyRight = eight 2 0 0 0
trace_numbers Both = eight 3 0 0 0
trace_numbers Neither = eight 4 0 0 0
trace_numbers (TraceRefused r) = refused_numbers r
