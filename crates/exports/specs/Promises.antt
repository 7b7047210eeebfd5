-- What the C interface promises: the numbers of the answer that the call beneath is defined to give, and all that the call promises with that
-- answer.
use Rattle.std.specs.Prelude.{ℕ, List, ◌≡◌, length}
use Rattle.policy.specs.NodeLists.{NodeLists}
use Rattle.fields.specs.Tables.{Table}
use Rattle.grammar.specs.Answer.{TextRead, read_answer, shortest}
use Rattle.search.specs.Call.{SearchLists, Searched, search_verdict}
use Rattle.evidence.specs.Calls.{CheckedRows, evidence_call}
use Rattle.traces.specs.Checking.{CheckedTrace, trace_call}
use Rattle.search_texts.specs.Call.{TextsSearched, texts_verdict}
use Rattle.answer_numbers.specs.Numbers.{count_numbers, verdict_numbers, evidence_numbers, trace_numbers}

pub record ReadOut (left right : Table) (side : ℕ) (text kind first second answer kind' first' second' : List ℕ) : Type 0 where
  pub numbers : answer ≡ count_numbers (read_answer left right side text (shortest kind first second))
  pub promised : TextRead left right side text kind first second (read_answer left right side text (shortest kind first second)) kind' first' second'

pub record SearchedOut (ts : List Table) (L R : NodeLists) (x : SearchLists) (answer : List ℕ) (y : SearchLists) : Type 0 where
  pub numbers : answer ≡ verdict_numbers (search_verdict ts L R x)
  pub promised : Searched ts L R x (search_verdict ts L R x) y

pub record TextsOut (left_table right_table : Table) (left right : List ℕ) (x : SearchLists) (answer : List ℕ) (y : SearchLists) : Type 0 where
  pub numbers : answer ≡ verdict_numbers (texts_verdict left_table right_table left right x)
  pub promised : TextsSearched left_table right_table left right x (texts_verdict left_table right_table left right x) y

pub record EvidenceOut (ts : List Table) (L R : NodeLists) (packets lefts rights work answer work' : List ℕ) : Type 0 where
  pub numbers : answer ≡ evidence_numbers (evidence_call ts L R packets lefts rights (length work))
  pub promised : CheckedRows ts L R packets lefts rights work (evidence_call ts L R packets lefts rights (length work)) work'

pub record TraceOut (ts : List Table) (L R : NodeLists) (α : ℕ) (trace work answer work' : List ℕ) : Type 0 where
  pub numbers : answer ≡ trace_numbers (trace_call ts L R α trace (length work))
  pub promised : CheckedTrace ts L R α trace work (trace_call ts L R α trace (length work)) work'
