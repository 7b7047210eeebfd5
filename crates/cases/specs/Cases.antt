-- Document 01, "Pairs to hold against it": P1 to P11 from document 01's own texts, its edges, and further pairs, document 02's too, as one
-- table of calls.
-- A line is a call with every list lent to it, and the answer and the lists that are stated; `result_of` is what the calls promise.
use Rattle.std.specs.Prelude.{ℕ, zero, suc, ◌+◌, ◌-◌, List, [], ◌∷◌, ◌++◌, Result, Ok, Err, length, replicate}
use Prim.Native.Char.{code}
use Prim.Native.String.{String, [] as no_text, ◌∷◌ as ◌thenText◌}
use Rattle.packet.specs.declared.Refusal.{Refusal}
use Rattle.packet.specs.Refusals.{Tested, refusal}
use Rattle.fields.specs.Tables.{Table, table}
use Rattle.policy.specs.NodeLists.{NodeLists}
use Rattle.policy.specs.AsLists.{as_lists}
use Rattle.policy.specs.NodesOfTree.{nodes_of}
use Rattle.turning.specs.Turning.{values_tests, values_left, number_call}
use Rattle.legality.specs.Answers.{policy_legality, pair_legality}
use Rattle.grammar.specs.Answer.{Answer, text_tree, text_names, read_answer, left_by, shortest}
use Rattle.pair.specs.Search.{Columns}
use Rattle.lent_lists.specs.LentLists.{work_after}
use Rattle.verdict.specs.declared.Verdict.{Verdict}
use Rattle.verdict.specs.declared.Verdict.TheVariants.{Equal, Left, Right, Full, Refused}
use Rattle.search.specs.Call.{SearchLists, lent, search_verdict, search_leaves}
use Rattle.search_texts.specs.Call.{text_nodes, texts_verdict, texts_leaves}
use Rattle.records.specs.declared.RowRecord.{RowRecord}
use Rattle.records.specs.Records.{packets_of, lefts_of, rights_of}
use Rattle.evidence.specs.Calls.{evidence_tests, evidence_call}
use Rattle.evidence.specs.declared.Evidence.{Evidence}
use Rattle.evidence.specs.declared.Evidence.TheVariants.{Accepted, RuleA, RuleB, RuleC, RuleD, Refused as NotChecked}
use Rattle.traces.specs.Checking as following
use Rattle.traces.specs.Checking.{trace_call}
use Rattle.traces.specs.declared.TraceChecked.{TraceChecked}
use Rattle.traces.specs.declared.TraceChecked.TheVariants.{Left as OnlyLeft, Right as OnlyRight, Both, Neither, Refused as NotFollowed}

-- the public calls on lists, each with what it is handed and lent; a call has a left and a right table
pub data Call : Type 0 where
  call_texts : (t u : Table) (left right : List ℕ) → SearchLists → Call
  call_search : (t u : Table) (left right : NodeLists) → SearchLists → Call
  call_rows : (t u : Table) (left right : NodeLists) (packets lefts rights work : List ℕ) → Call
  call_trace : (t u : Table) (left right : NodeLists) (entering : ℕ) (packets work : List ℕ) → Call
  call_both : (t u : Table) (left right : NodeLists) → Call
  call_one : (t u : Table) (policy : NodeLists) → Call
  call_read : (t u : Table) (side : ℕ) (text kind first second : List ℕ) → Call
  call_values : (t u : Table) (left right : NodeLists) (number : ℕ) (values : List ℕ) → Call
  call_number : (t u : Table) (left right : NodeLists) (values : List ℕ) → Call

-- an answer, and every lent list that the call may write
pub data CallResult : Type 0 where
  searched : Verdict → SearchLists → CallResult
  judged : Evidence → List ℕ → CallResult
  followed : TraceChecked → List ℕ → CallResult
  legality : Result (ℕ × ℕ) Refusal → CallResult
  legality_of_one : Result ℕ Refusal → CallResult
  read_as : Answer → NodeLists → CallResult
  turned : Tested → List ℕ → CallResult
  numbered : Result ℕ Refusal → CallResult

-- what the reader leaves in its three lists
abbrev nodes_left : List (List ℕ) → List ℕ → Answer → NodeLists → NodeLists
nodes_left names text r old =
    as_lists
    (left_by r (nodes_of (text_tree names text)).kind old.kind)
    (left_by r (nodes_of (text_tree names text)).first old.first)
    (left_by r (nodes_of (text_tree names text)).second old.second)

-- the right sides of the calls' promises
unfoldable pub result_of : Call → CallResult
result_of (call_texts t u l r x) = searched (texts_verdict t u l r x) (texts_leaves t u l r x)
result_of (call_search t u l r x) = searched (search_verdict (t ∷ u ∷ []) l r x) (search_leaves (t ∷ u ∷ []) l r x)
result_of (call_rows t u l r packets lefts rights work) =
    judged (evidence_call (t ∷ u ∷ []) l r packets lefts rights (length work)) (work_after (evidence_tests (t ∷ u ∷ []) l r packets lefts rights (length work)) work)
result_of (call_trace t u l r entering packets work) =
    followed (trace_call (t ∷ u ∷ []) l r entering packets (length work)) (work_after (following.lists_tests (t ∷ u ∷ []) l r (length work)) work)
result_of (call_both t u l r) = legality (pair_legality (t ∷ u ∷ []) l r)
result_of (call_one t u policy) = legality_of_one (policy_legality (t ∷ u ∷ []) policy)
result_of (call_read t u side text kind first second) =
    let r = read_answer t u side text (shortest kind first second) in
    read_as r (nodes_left (text_names t u side) text r (as_lists kind first second))
result_of (call_values t u l r number values) = turned (values_tests (t ∷ u ∷ []) l r number (length values)) (values_left (t ∷ u ∷ []) l r number values)
result_of (call_number t u l r values) = numbered (number_call (t ∷ u ∷ []) l r values)

pub record Case : Type 0 where
  pub call : Call
  pub stated : CallResult

abbrev gives : Call → CallResult → Case
gives call stated = record { call = call; stated = stated }

-- ---- policies

-- the bytes of an ASCII text
unfoldable pub bytes : String → List ℕ
bytes no_text = []
bytes (◌thenText◌ c s) = code c ∷ bytes s

-- ---- tables

-- the cell of a name of at most 15 bytes
unfoldable pub cell_for : List ℕ → List ℕ
cell_for w = length w ∷ w ++ replicate (15 - length w) 0

-- a name and its size before a table
unfoldable pub with_name : List ℕ → ℕ → Table → Table
with_name w size t = table (cell_for w ++ t.cells) (size ∷ t.sizes)

infixr 30 ◌of◌then◌
abbrev ◌of◌then◌ : String → ℕ → Table → Table
◌of◌then◌ w size t = with_name (bytes w) size t

abbrev no_name : Table
no_name = table [] []

-- document 01's fields: f0, f1 and so on, of these sizes
unfoldable pub numbered_from : ℕ → List ℕ → Table
numbered_from i [] = no_name
numbered_from i (s ∷ ss) = with_name (102 ∷ (48 + i) ∷ []) s (numbered_from (suc i) ss)

abbrev f : List ℕ → Table
f sizes = numbered_from 0 sizes

-- "document 01's cases stand, with f0 and f1 in both tables at the sizes given"
abbrev search_texts : List ℕ → List ℕ → List ℕ → SearchLists → Call
search_texts sizes = call_texts (f sizes) (f sizes)

abbrev search : List ℕ → NodeLists → NodeLists → SearchLists → Call
search sizes = call_search (f sizes) (f sizes)

abbrev check_rows : List ℕ → NodeLists → NodeLists → List ℕ → List ℕ → List ℕ → List ℕ → Call
check_rows sizes = call_rows (f sizes) (f sizes)

abbrev check_trace : List ℕ → NodeLists → NodeLists → ℕ → List ℕ → List ℕ → Call
check_trace sizes = call_trace (f sizes) (f sizes)

abbrev both_legal : List ℕ → NodeLists → NodeLists → Call
both_legal sizes = call_both (f sizes) (f sizes)

abbrev one_legal : List ℕ → NodeLists → Call
one_legal sizes = call_one (f sizes) (f sizes)

abbrev values_of : List ℕ → NodeLists → NodeLists → ℕ → List ℕ → Call
values_of sizes = call_values (f sizes) (f sizes)

abbrev number_for : List ℕ → NodeLists → NodeLists → List ℕ → Call
number_for sizes = call_number (f sizes) (f sizes)

abbrev read : List ℕ → List ℕ → List ℕ → List ℕ → Call
read = call_read (f (2 ∷ 3 ∷ [])) (f (2 ∷ 3 ∷ [])) 1

-- a text policy is the nodes that the section Text gives it
abbrev text_policy : List ℕ → NodeLists
text_policy text = text_nodes ((102 ∷ 48 ∷ []) ∷ (102 ∷ 49 ∷ []) ∷ []) text

abbrev nodes : String → NodeLists
nodes text = text_policy (bytes text)

-- n + 1 dups in a sum
unfoldable pub dups : ℕ → List ℕ
dups zero = bytes "dup"
dups (suc n) = bytes "dup+" ++ dups n

-- id in n parentheses
unfoldable pub nested : ℕ → List ℕ
nested n = replicate n 40 ++ bytes "id" ++ replicate n 41

-- every kind in lists, of the policy ((f0=0;f0!=1)+drop);dup;(f0<-1;!drop;id)*
abbrev every_kind : NodeLists
every_kind =
    as_lists
    (2 ∷ 3 ∷ 7 ∷ 0 ∷ 6 ∷ 5 ∷ 7 ∷ 4 ∷ 0 ∷ 9 ∷ 7 ∷ 1 ∷ 7 ∷ 8 ∷ 7 ∷ [])
    (0 ∷ 0 ∷ 0 ∷ 0 ∷ 2 ∷ 0 ∷ 4 ∷ 0 ∷ 0 ∷ 8 ∷ 7 ∷ 0 ∷ 10 ∷ 12 ∷ 6 ∷ [])
    (0 ∷ 1 ∷ 1 ∷ 0 ∷ 3 ∷ 0 ∷ 5 ∷ 1 ∷ 0 ∷ 0 ∷ 9 ∷ 0 ∷ 11 ∷ 0 ∷ 13 ∷ [])

-- a sequence whose second dup is node 0 and whose first is node 1
abbrev turned_round : NodeLists
turned_round = as_lists (5 ∷ 5 ∷ 7 ∷ []) (0 ∷ 0 ∷ 1 ∷ []) (0 ∷ 0 ∷ 0 ∷ [])

-- ⊤, legal whatever the sizes
abbrev pass : NodeLists
pass = as_lists (1 ∷ []) (0 ∷ []) (0 ∷ [])

-- ---- lent lists: 9 in each entry, so that what a call writes and what it keeps can be told apart

unfoldable pub nines : ℕ → List ℕ
nines n = replicate n 9

-- the shortest work list that serves
unfoldable pub words : ℕ
words = 16384

-- so many rows and so long a trace lent
unfoldable pub lending : ℕ → ℕ → SearchLists
lending rows trace = lent (nines rows) (nines rows) (nines rows) (nines rows) (nines trace) (nines words)

-- a list of n entries that holds xs first and 9 beyond
unfoldable pub then_nines : List ℕ → ℕ → List ℕ
then_nines xs n = xs ++ nines (n - length xs)

-- the lists of `lending` after a search: rows and trace in front, the work list all 0
unfoldable pub holding : ℕ → ℕ → Columns → List ℕ → SearchLists
holding rows trace c t =
    lent (then_nines c.packets rows) (then_nines c.lefts rows) (then_nines c.rights rows) (then_nines c.parents rows) (then_nines t trace) (replicate words 0)

abbrev columns : List ℕ → List ℕ → List ℕ → List ℕ → Columns
columns packets lefts rights parents = record { packets = packets; lefts = lefts; rights = rights; parents = parents }

-- ---- lines

-- a search of node lists with so many rows and so long a trace lent: the verdict, the rows and the trace that the lists then hold
abbrev finds : List ℕ → NodeLists → NodeLists → ℕ → ℕ → Verdict → Columns → List ℕ → Case
finds sizes l r rows trace verdict held t = gives (search sizes l r (lending rows trace)) (searched verdict (holding rows trace held t))

-- the same of two texts: of the call on texts and of the call on their nodes
unfoldable pub compares : List ℕ → String → String → ℕ → ℕ → Verdict → Columns → List ℕ → List Case
compares sizes l r rows trace verdict held t =
    gives (search_texts sizes (bytes l) (bytes r) (lending rows trace)) (searched verdict (holding rows trace held t))
    ∷ finds sizes (nodes l) (nodes r) rows trace verdict held t
    ∷ []

-- a table in three columns: the evidence checker's answer, the work list then all 0
abbrev judges : List ℕ → NodeLists → NodeLists → List ℕ → List ℕ → List ℕ → Evidence → Case
judges sizes l r packets lefts rights answer = gives (check_rows sizes l r packets lefts rights (nines words)) (judged answer (replicate words 0))

-- a table in records, each packet, left, right, parent
abbrev record4 : ℕ → ℕ → ℕ → ℕ → RowRecord
record4 packet left right parent = record { packet = packet; left = left; right = right; parent = parent }

abbrev judges_records : List ℕ → NodeLists → NodeLists → List RowRecord → Evidence → Case
judges_records sizes l r rows answer = judges sizes l r (packets_of rows) (lefts_of rows) (rights_of rows) answer

-- a trace from an entering packet: the trace checker's answer, the work list then all 0
abbrev follows : List ℕ → NodeLists → NodeLists → ℕ → List ℕ → TraceChecked → Case
follows sizes l r entering packets answer = gives (check_trace sizes l r entering packets (nines words)) (followed answer (replicate words 0))

-- a refusal of causes 4 to 9 and 19: number, side and place
abbrev refuses : NodeLists → NodeLists → ℕ → ℕ → ℕ → Case
refuses l r number side place = gives (both_legal (2 ∷ 3 ∷ []) l r) (legality (Err (refusal number side place)))

-- a refusal of causes 14 to 17 with lists of so many entries lent, which it leaves as found: number and place
abbrev unread : List ℕ → ℕ → ℕ → ℕ → Case
unread text room number place =
    gives (read text (nines room) (nines room) (nines room)) (read_as (Err (refusal number 0 place)) (as_lists (nines room) (nines room) (nines room)))

-- the text f0=1 with a byte after it: where that is a blank or a digit, one node with this value, else refused with this number and place
abbrev after_one : ℕ → List ℕ
after_one b = bytes "f0=1" ++ b ∷ []

abbrev read_with : ℕ → ℕ → Case
read_with b value = gives (read (after_one b) (nines 2) (nines 2) (nines 2)) (read_as (Ok 1) (as_lists (2 ∷ 9 ∷ []) (0 ∷ 9 ∷ []) (value ∷ 9 ∷ [])))

abbrev refused_with : ℕ → ℕ → ℕ → Case
refused_with b number place = unread (after_one b) 2 number place

-- a test of each of two fields, and of each of three
abbrev both_fields : NodeLists
both_fields = nodes "f0=0;f1=0"

abbrev three_fields : NodeLists
three_fields = as_lists (2 ∷ 2 ∷ 7 ∷ 2 ∷ 7 ∷ []) (0 ∷ 1 ∷ 0 ∷ 2 ∷ 2 ∷ []) (0 ∷ 0 ∷ 1 ∷ 0 ∷ 3 ∷ [])

abbrev P2_left : NodeLists
P2_left = nodes "f0=0;dup"

abbrev P2_right : NodeLists
P2_right = nodes "dup;f0=0"

abbrev P2_rows : Columns
P2_rows = columns (0 ∷ 1 ∷ 0 ∷ 1 ∷ []) (1 ∷ 1 ∷ 2 ∷ 0 ∷ []) (1 ∷ 1 ∷ 2 ∷ 2 ∷ []) (0 ∷ 1 ∷ 0 ∷ 1 ∷ [])

abbrev A1_rows : Columns
A1_rows = columns (0 ∷ 1 ∷ 0 ∷ 1 ∷ []) (1 ∷ 1 ∷ 2 ∷ 2 ∷ []) (1 ∷ 1 ∷ 0 ∷ 2 ∷ []) (0 ∷ 1 ∷ 0 ∷ 1 ∷ [])

abbrev P5 : ℕ → Verdict → Columns → List Case
P5 rows verdict held = compares (1 ∷ []) "dup*" "id+dup;dup*" rows 2 verdict held []

-- the starting rows of 1, 2 and 3 packets
abbrev starts1 : Columns
starts1 = columns (0 ∷ []) (1 ∷ []) (1 ∷ []) (0 ∷ [])

abbrev starts2 : Columns
starts2 = columns (0 ∷ 1 ∷ []) (1 ∷ 1 ∷ []) (1 ∷ 1 ∷ []) (0 ∷ 1 ∷ [])

abbrev starts3 : Columns
starts3 = columns (0 ∷ 1 ∷ 2 ∷ []) (1 ∷ 1 ∷ 1 ∷ []) (1 ∷ 1 ∷ 1 ∷ []) (0 ∷ 1 ∷ 2 ∷ [])

-- ---- the tables of A.4's lines

-- a refusal of a left and a right table
abbrev refuses_tables : Table → Table → ℕ → ℕ → ℕ → Case
refuses_tables t u number side place = gives (call_one t u pass) (legality_of_one (Err (refusal number side place)))

abbrev eight_and : Table → Table
eight_and t = "a" of 1 then "b" of 1 then "c" of 1 then "d" of 1 then "e" of 1 then "g" of 1 then "h" of 1 then "i" of 1 then t

abbrev eight : Table
eight = eight_and no_name

-- sw and port on the left; vlan, port and sw on the right
abbrev switches : Table
switches = "sw" of 2 then "port" of 2 then no_name

abbrev lans : Table
lans = "vlan" of 2 then "port" of 2 then "sw" of 2 then no_name

-- ---- the table, in four parts: each is held against the definitions by a computation of its own

unfoldable pub of_document01 : List Case
of_document01 =
    -- P1, with one row, since nothing is mentioned (A.6)
    compares (2 ∷ []) "drop" "id" 5 3 (Right 1 0) starts1 (0 ∷ [])
    -- P2
    ++ compares (2 ∷ []) "f0=0;dup" "dup;f0=0" 5 3 (Equal 4) P2_rows []
    ++ judges (2 ∷ []) P2_left P2_right (0 ∷ 1 ∷ 0 ∷ 1 ∷ []) (1 ∷ 1 ∷ 2 ∷ 0 ∷ []) (1 ∷ 1 ∷ 2 ∷ 2 ∷ []) Accepted
    -- P3 and P4
    ∷ compares (2 ∷ []) "f0=0+f0=1" "id" 5 3 (Equal 2) starts2 []
    ++ compares (3 ∷ []) "f0=0+f0=1" "id" 5 3 (Right 1 2) starts3 (2 ∷ [])
    -- P5
    ++ P5 5 (Equal 3) (columns (0 ∷ 0 ∷ 0 ∷ []) (1 ∷ 2 ∷ 2 ∷ []) (1 ∷ 2 ∷ 4 ∷ []) (0 ∷ 0 ∷ 1 ∷ []))
    -- P6
    ++ P5 2 (Full (refusal 11 0 2) 1) (columns (0 ∷ 0 ∷ []) (1 ∷ 2 ∷ []) (1 ∷ 2 ∷ []) (0 ∷ 0 ∷ []))
    ++ P5 3 (Equal 3) (columns (0 ∷ 0 ∷ 0 ∷ []) (1 ∷ 2 ∷ 2 ∷ []) (1 ∷ 2 ∷ 4 ∷ []) (0 ∷ 0 ∷ 1 ∷ []))
    -- P7; with a trace list of 1 it is 12
    ++ compares (1 ∷ []) "dup" "dup;dup" 5 3 (Left 2 0) (columns (0 ∷ 0 ∷ []) (1 ∷ 2 ∷ []) (1 ∷ 2 ∷ []) (0 ∷ 0 ∷ [])) (0 ∷ 0 ∷ [])
    ++ compares (1 ∷ []) "dup" "dup;dup" 5 1 (Refused (refusal 12 0 2)) (columns (0 ∷ 0 ∷ []) (1 ∷ 2 ∷ []) (1 ∷ 2 ∷ []) (0 ∷ 0 ∷ [])) []
    -- P8
    ++ compares (2 ∷ []) "f0<-1;f0=1" "f0<-1" 5 3 (Equal 2) starts2 []
    -- P9
    ++ compares (2 ∷ []) "f0<-0+f0<-1" "id" 5 3 (Left 1 0) starts2 (1 ∷ [])
    -- P10
    ++ compares (1 ∷ []) "dup;drop" "drop" 5 3 (Equal 2) (columns (0 ∷ 0 ∷ []) (1 ∷ 2 ∷ []) (1 ∷ 0 ∷ []) (0 ∷ 0 ∷ [])) []
    -- P11
    ++ judges (2 ∷ []) P2_left P2_right (0 ∷ 1 ∷ 0 ∷ []) (1 ∷ 1 ∷ 2 ∷ []) (1 ∷ 1 ∷ 2 ∷ []) (RuleD 1 1)
    -- sizes 32, 32 pass and 5, 205 give 3 at field 1, where both fields are mentioned (A.6)
    ∷ gives (both_legal (32 ∷ 32 ∷ []) both_fields pass) (legality (Ok (0, 0)))
    ∷ gives (both_legal (5 ∷ 205 ∷ []) both_fields pass) (legality (Err (refusal 3 0 1)))
    ∷ gives (search (5 ∷ 205 ∷ []) both_fields pass (lending 5 3)) (searched (Refused (refusal 3 0 1)) (lending 5 3))
    -- 63 dups pass, 64 don't: the 64th dup is node 125
    ∷ gives (both_legal (1 ∷ []) (text_policy (dups 62)) (text_policy (dups 62))) (legality (Ok (63, 63)))
    ∷ gives (both_legal (1 ∷ []) (text_policy (dups 62)) (text_policy (dups 63))) (legality (Err (refusal 9 2 125)))
    -- 64 parentheses pass, 65 don't
    ∷ gives (read (nested 64) (nines 2) (nines 2) (nines 2)) (read_as (Ok 1) (as_lists (1 ∷ 9 ∷ []) (0 ∷ 9 ∷ []) (0 ∷ 9 ∷ [])))
    ∷ unread (nested 65) 2 15 64
    -- the trace checker: left and right on P7, both and neither on P2; a trace of length 0 is neither, also where both policies are id
    ∷ follows (1 ∷ []) (nodes "dup") (nodes "dup;dup") 0 (0 ∷ 0 ∷ []) OnlyLeft
    ∷ follows (1 ∷ []) (nodes "dup") (nodes "dup;dup") 0 (0 ∷ 0 ∷ 0 ∷ []) OnlyRight
    ∷ follows (2 ∷ []) P2_left P2_right 0 (0 ∷ 0 ∷ []) Both
    ∷ follows (2 ∷ []) P2_left P2_right 1 (1 ∷ 1 ∷ []) Neither
    ∷ follows (2 ∷ []) (nodes "id") (nodes "id") 0 [] Neither
    -- 13: the entering packet at place 0, the second of the trace at place 2, before "length 0 is neither"
    ∷ follows (2 ∷ []) P2_left P2_right 2 [] (NotFollowed (refusal 13 0 0))
    ∷ follows (2 ∷ []) P2_left P2_right 0 (0 ∷ 2 ∷ []) (NotFollowed (refusal 13 0 2))
    -- packet 4 of sizes 2 and 3 is (1, 1), field 0 counting slowest; 13 turning: the number, a value's field, a list of another length
    ∷ gives (values_of (2 ∷ 3 ∷ []) both_fields pass 4 (nines 2)) (turned (Ok tt) (1 ∷ 1 ∷ []))
    ∷ gives (number_for (2 ∷ 3 ∷ []) both_fields pass (1 ∷ 1 ∷ [])) (numbered (Ok 4))
    ∷ gives (values_of (2 ∷ 3 ∷ []) both_fields pass 6 (nines 2)) (turned (Err (refusal 13 0 0)) (nines 2))
    ∷ gives (values_of (2 ∷ 3 ∷ []) both_fields pass 6 (nines 1)) (turned (Err (refusal 13 0 2)) (nines 1))
    ∷ gives (number_for (2 ∷ 3 ∷ []) both_fields pass (1 ∷ 3 ∷ [])) (numbered (Err (refusal 13 0 1)))
    -- 10: a work list one word short, row lists unequal; nothing is written
    ∷ gives (check_rows (2 ∷ []) P2_left P2_right (0 ∷ 1 ∷ []) (1 ∷ 1 ∷ []) (1 ∷ 1 ∷ []) (nines 16383)) (judged (NotChecked (refusal 10 0 0)) (nines 16383))
    ∷ gives (check_trace (1 ∷ []) pass pass 0 (0 ∷ []) (nines 16383)) (followed (NotFollowed (refusal 10 0 0)) (nines 16383))
    ∷ gives (search (1 ∷ []) pass pass (lent (nines 2) (nines 2) (nines 2) (nines 3) (nines 2) (nines words))) (searched (Refused (refusal 10 0 0)) (lent (nines 2) (nines 2) (nines 2) (nines 3) (nines 2) (nines words)))
    -- the other rules on P2's table: (a) a mask of a bit that is no dup's; (b) packet 1 has no starting row; (c) P1's outputs differ at row 0
    ∷ judges (2 ∷ []) P2_left P2_right (0 ∷ 1 ∷ []) (1 ∷ 1 ∷ []) (1 ∷ 4 ∷ []) (RuleA 1)
    ∷ judges (2 ∷ []) P2_left P2_right (0 ∷ 0 ∷ []) (1 ∷ 2 ∷ []) (1 ∷ 2 ∷ []) (RuleB 1)
    ∷ judges (2 ∷ []) (nodes "drop") (nodes "id") (0 ∷ []) (1 ∷ []) (1 ∷ []) (RuleC 0)
    -- further pairs: `!=` in a text; a test of field 1; every kind; the order of a row's successors; dups numbered in node order; two telling packets
    ∷ compares (2 ∷ []) "f0!=0" "f0=1" 5 3 (Equal 2) starts2 []
    ++ compares (2 ∷ 3 ∷ []) "f1=2" "f0=1" 6 3 (Left 1 2) (columns (0 ∷ 1 ∷ 2 ∷ 3 ∷ 4 ∷ 5 ∷ []) (1 ∷ 1 ∷ 1 ∷ 1 ∷ 1 ∷ 1 ∷ []) (1 ∷ 1 ∷ 1 ∷ 1 ∷ 1 ∷ 1 ∷ []) (0 ∷ 1 ∷ 2 ∷ 3 ∷ 4 ∷ 5 ∷ [])) (2 ∷ [])
    ++ finds (2 ∷ []) every_kind (nodes "f0=0;dup;(id+f0<-1)") 5 3 (Equal 3) (columns (0 ∷ 1 ∷ 0 ∷ []) (1 ∷ 1 ∷ 2 ∷ []) (1 ∷ 1 ∷ 2 ∷ []) (0 ∷ 1 ∷ 0 ∷ [])) []
    ∷ gives (both_legal (2 ∷ []) every_kind (nodes "f0=0;dup;(id+f0<-1)")) (legality (Ok (1, 1)))
    ∷ compares (2 ∷ []) "f0<-0;dup+f0<-1;dup" "f0<-0;dup+f0<-1;dup" 5 3 (Equal 4) (columns (0 ∷ 1 ∷ 0 ∷ 1 ∷ []) (1 ∷ 1 ∷ 2 ∷ 4 ∷ []) (1 ∷ 1 ∷ 2 ∷ 4 ∷ []) (0 ∷ 1 ∷ 0 ∷ 0 ∷ [])) []
    ++ finds (1 ∷ []) turned_round turned_round 5 3 (Equal 3) (columns (0 ∷ 0 ∷ 0 ∷ []) (1 ∷ 4 ∷ 2 ∷ []) (1 ∷ 4 ∷ 2 ∷ []) (0 ∷ 0 ∷ 1 ∷ [])) []
    ∷ compares (2 ∷ []) "drop" "f0<-0+f0<-1" 5 3 (Right 1 0) starts2 (0 ∷ [])
    -- causes 4 to 9: lists unequal, empty, over 512
    ++ refuses pass (as_lists (1 ∷ []) [] (0 ∷ [])) 4 2 0
    ∷ refuses (as_lists [] [] []) pass 4 1 0
    ∷ refuses pass (as_lists (replicate 513 1) (replicate 513 0) (replicate 513 0)) 4 2 0
    -- of two causes the earlier, of two sides the left, of two nodes the lower
    ∷ refuses (as_lists (1 ∷ 10 ∷ []) (1 ∷ 0 ∷ []) (0 ∷ 0 ∷ [])) pass 5 1 1
    ∷ refuses (as_lists (1 ∷ []) (1 ∷ []) (0 ∷ [])) (as_lists (10 ∷ []) (0 ∷ []) (0 ∷ [])) 5 2 0
    ∷ refuses (as_lists (10 ∷ []) (0 ∷ []) (0 ∷ [])) (as_lists (10 ∷ 10 ∷ []) (0 ∷ 0 ∷ []) (0 ∷ 0 ∷ [])) 5 1 0
    ∷ refuses pass (as_lists (10 ∷ 10 ∷ []) (0 ∷ 0 ∷ []) (0 ∷ 0 ∷ [])) 5 2 0
    -- a value equal to its field's size, an undeclared field, a star's second entry, an unused entry
    ∷ refuses (as_lists (2 ∷ []) (1 ∷ []) (3 ∷ [])) pass 6 1 0
    ∷ refuses (as_lists (4 ∷ []) (2 ∷ []) (0 ∷ [])) pass 6 1 0
    ∷ refuses (as_lists (1 ∷ 8 ∷ []) (0 ∷ 0 ∷ []) (0 ∷ 1 ∷ [])) pass 6 1 1
    ∷ refuses (as_lists (5 ∷ []) (0 ∷ []) (7 ∷ [])) pass 6 1 0
    -- a child not below its parent; a node twice a child of one parent; a node that is no child
    ∷ refuses (as_lists (1 ∷ 8 ∷ []) (0 ∷ 1 ∷ []) (0 ∷ 0 ∷ [])) pass 7 1 1
    ∷ refuses (as_lists (1 ∷ 6 ∷ []) (0 ∷ 0 ∷ []) (0 ∷ 0 ∷ [])) pass 8 1 0
    ∷ refuses (as_lists (1 ∷ 1 ∷ []) (0 ∷ 0 ∷ []) (0 ∷ 0 ∷ [])) pass 8 1 0
    ∷ refuses (as_lists (1 ∷ 8 ∷ 6 ∷ []) (0 ∷ 0 ∷ 1 ∷ []) (0 ∷ 0 ∷ 1 ∷ [])) pass 8 1 1
    -- one policy alone: its dups, or a refusal with side 0
    ∷ gives (one_legal (2 ∷ []) every_kind) (legality_of_one (Ok 1))
    ∷ gives (one_legal (2 ∷ []) (as_lists (5 ∷ []) (0 ∷ []) (7 ∷ []))) (legality_of_one (Err (refusal 6 0 0)))
    -- causes 14 to 17: each over the whole text before the next
    ∷ unread (bytes "id+;00") 9 14 4
    ∷ unread (bytes "id+ ") 9 16 4
    ∷ unread (bytes "id;dup*") 3 17 4
    ∷ []

unfoldable pub of_document02 : List Case
of_document02 =
    -- A.1: a negated sequence; a negation before and after a dup; `!` binds closer than `*`; a negation in a star
    compares (2 ∷ 2 ∷ []) "!(f0=0;f1=0)" "f0!=0+f1!=0" 5 3 (Equal 4) (columns (0 ∷ 1 ∷ 2 ∷ 3 ∷ []) (1 ∷ 1 ∷ 1 ∷ 1 ∷ []) (1 ∷ 1 ∷ 1 ∷ 1 ∷ []) (0 ∷ 1 ∷ 2 ∷ 3 ∷ [])) []
    ++ compares (2 ∷ []) "dup;!f0=0" "!f0=0;dup" 5 3 (Equal 4) A1_rows []
    ++ judges (2 ∷ []) (nodes "dup;!f0=0") (nodes "!f0=0;dup") (0 ∷ 1 ∷ 0 ∷ 1 ∷ []) (1 ∷ 1 ∷ 2 ∷ 2 ∷ []) (1 ∷ 1 ∷ 0 ∷ 2 ∷ []) Accepted
    ∷ follows (2 ∷ []) (nodes "!f0=0") (nodes "f0=0") 1 (1 ∷ []) OnlyLeft
    ∷ follows (2 ∷ []) (nodes "!f0=0") (nodes "f0=0") 0 (0 ∷ []) OnlyRight
    ∷ compares (2 ∷ []) "!f0=0*" "id" 5 3 (Equal 2) starts2 []
    ++ compares (3 ∷ []) "(f0<-1;!f0=0)*" "id+f0<-1" 5 3 (Equal 3) starts3 []
    -- kind 9's entries, child and place in the tree: 6, 7 and 8
    ++ refuses (as_lists (1 ∷ 9 ∷ []) (0 ∷ 0 ∷ []) (0 ∷ 1 ∷ [])) pass 6 1 1
    ∷ refuses (as_lists (1 ∷ 9 ∷ []) (0 ∷ 1 ∷ []) (0 ∷ 0 ∷ [])) pass 7 1 1
    ∷ refuses (as_lists (5 ∷ 9 ∷ 1 ∷ []) (0 ∷ 0 ∷ 0 ∷ []) (0 ∷ 0 ∷ 0 ∷ [])) pass 8 1 1
    -- 19: a star, a dup and a change anywhere below, of nested negations the inner one; before 9, and nothing is written
    ∷ refuses (nodes "!(f0=0*)") pass 19 1 2
    ∷ refuses pass (nodes "!!dup") 19 2 1
    ∷ refuses (nodes "!(f0=0+dup)") (nodes "!dup") 19 1 3
    ∷ refuses (nodes "!!(f0=0;f1<-2)") pass 19 1 3
    ∷ gives (both_legal (1 ∷ []) (text_policy (dups 63)) (nodes "!dup")) (legality (Err (refusal 19 2 1)))
    ∷ gives (one_legal (2 ∷ []) (nodes "!dup")) (legality_of_one (Err (refusal 19 0 1)))
    ∷ gives (one_legal (2 ∷ []) (nodes "!(!f0=0+drop;f0!=1;id)")) (legality_of_one (Ok 0))
    ∷ gives (search_texts (2 ∷ []) (bytes "id") (bytes "!dup") (lending 5 3)) (searched (Refused (refusal 19 2 1)) (lending 5 3))
    ∷ gives (search (2 ∷ []) (nodes "!dup") pass (lending 5 3)) (searched (Refused (refusal 19 1 1)) (lending 5 3))
    ∷ gives (check_rows (2 ∷ []) (nodes "!dup") pass [] [] [] (nines words)) (judged (NotChecked (refusal 19 1 1)) (nines words))
    ∷ gives (check_trace (2 ∷ []) pass (nodes "!dup") 0 [] (nines words)) (followed (NotFollowed (refusal 19 2 1)) (nines words))
    -- `!` in a text: `!` directly before `=` is a part of `!=`
    ∷ gives (read (bytes "!f0=0*") (nines 4) (nines 4) (nines 4)) (read_as (Ok 3) (as_lists (2 ∷ 9 ∷ 8 ∷ 9 ∷ []) (0 ∷ 0 ∷ 1 ∷ 9 ∷ []) (0 ∷ 0 ∷ 0 ∷ 9 ∷ [])))
    ∷ unread (bytes "f0 ! = 0") 9 16 3
    ∷ unread (bytes "!!=0") 9 16 1
    ∷ unread (bytes "!") 9 16 1
    ∷ unread (bytes "!!!id") 3 17 4
    -- A.2: P2's table and P11 by records, parents unread; bit 63 keeps (a) with 63 dups and breaks it with 62
    ∷ judges_records (2 ∷ []) P2_left P2_right (record4 0 1 1 65535 ∷ record4 1 1 1 65535 ∷ record4 0 2 2 65535 ∷ record4 1 0 2 65535 ∷ []) Accepted
    ∷ judges_records (2 ∷ []) P2_left P2_right (record4 0 1 1 0 ∷ record4 1 1 1 1 ∷ record4 0 2 2 0 ∷ []) (RuleD 1 1)
    ∷ judges (1 ∷ []) (text_policy (dups 62)) pass (0 ∷ []) (9223372036854775808 ∷ []) (0 ∷ []) (RuleB 0)
    ∷ judges (1 ∷ []) pass (text_policy (dups 61)) (0 ∷ []) (1 ∷ []) (9223372036854775808 ∷ []) (RuleA 0)
    -- A.3: P5 with no row and with one; P2 with three, where the last row listed is deeper than the row being handled; a row of depth 2;
    -- one row for two packets
    ∷ P5 0 (Full (refusal 11 0 0) 0) (columns [] [] [] [])
    ++ P5 1 (Full (refusal 11 0 1) 0) (columns (0 ∷ []) (1 ∷ []) (1 ∷ []) (0 ∷ []))
    ++ compares (2 ∷ []) "f0=0;dup" "dup;f0=0" 3 3 (Full (refusal 11 0 3) 0) (columns (0 ∷ 1 ∷ 0 ∷ []) (1 ∷ 1 ∷ 2 ∷ []) (1 ∷ 1 ∷ 2 ∷ []) (0 ∷ 1 ∷ 0 ∷ [])) []
    ++ compares (1 ∷ []) "dup;dup;dup" "dup;dup;dup;drop+dup;dup;dup" 3 3 (Full (refusal 11 0 3) 2) (columns (0 ∷ 0 ∷ 0 ∷ []) (1 ∷ 2 ∷ 4 ∷ []) (1 ∷ 18 ∷ 36 ∷ []) (0 ∷ 0 ∷ 1 ∷ [])) []
    ++ compares (2 ∷ []) "f0=0+f0=1" "id" 1 3 (Full (refusal 11 0 1) 0) starts1 []
    -- A.5: the bytes at the edges of their classes, a letter making the word "1" a bad one at byte 3
    ++ read_with 9 1
    ∷ read_with 32 1
    ∷ refused_with 33 16 4
    ∷ refused_with 47 14 4
    ∷ read_with 48 10
    ∷ read_with 57 19
    ∷ refused_with 58 14 4
    ∷ refused_with 60 14 4
    ∷ refused_with 61 16 4
    ∷ refused_with 64 14 4
    ∷ refused_with 65 14 3
    ∷ refused_with 90 14 3
    ∷ refused_with 91 14 4
    ∷ refused_with 96 14 4
    ∷ refused_with 97 14 3
    ∷ refused_with 122 14 3
    ∷ refused_with 123 14 4
    ∷ refused_with 127 14 4
    ∷ refused_with 128 14 4
    ∷ refused_with 255 14 4
    ∷ []

-- A.4
unfoldable pub of_tables : List Case
of_tables =
    -- a field of one side only: the other side's policy passes it on
    gives (call_texts ("sw" of 2 then no_name) ("port" of 2 then no_name) (bytes "sw=0") (bytes "port=0") (lending 4 1))
    (searched (Left 1 1) (holding 4 1 (columns (0 ∷ 1 ∷ 2 ∷ 3 ∷ []) (1 ∷ 1 ∷ 1 ∷ 1 ∷ []) (1 ∷ 1 ∷ 1 ∷ 1 ∷ []) (0 ∷ 1 ∷ 2 ∷ 3 ∷ [])) (1 ∷ [])))
    -- joint numbers: the left table's names, then those that only the right one has; a word of the other side's table alone is bad
    ∷ gives (call_read switches lans 2 (bytes "vlan=0") (nines 1) (nines 1) (nines 1)) (read_as (Ok 1) (as_lists (2 ∷ []) (2 ∷ []) (0 ∷ [])))
    ∷ gives (call_read switches lans 2 (bytes "sw=1") (nines 1) (nines 1) (nines 1)) (read_as (Ok 1) (as_lists (2 ∷ []) (0 ∷ []) (1 ∷ [])))
    ∷ gives (call_read switches lans 1 (bytes "id;vlan=0") (nines 3) (nines 3) (nines 3)) (read_as (Err (refusal 14 0 3)) (as_lists (nines 3) (nines 3) (nines 3)))
    ∷ gives (call_read switches lans 7 (bytes "vlan=0") (nines 1) (nines 1) (nines 1)) (read_as (Err (refusal 14 0 0)) (as_lists (nines 1) (nines 1) (nines 1)))
    ∷ unread (bytes "f2=0") 9 14 0
    -- a node list may use any joint field, on either side
    ∷ gives (call_both switches lans (as_lists (2 ∷ []) (2 ∷ []) (1 ∷ [])) pass) (legality (Ok (0, 0)))
    ∷ gives (call_both switches lans (as_lists (2 ∷ []) (3 ∷ []) (0 ∷ [])) pass) (legality (Err (refusal 6 1 0)))
    -- 4 with side 0 first; 20 by table, also past eight; 21 after 20 and before 1 and 2
    ∷ refuses_tables (table (nines 17) (0 ∷ [])) ("dup" of 0 then no_name) 4 0 0
    ∷ refuses_tables ("sw" of 2 then "sw" of 3 then no_name) ("dup" of 1 then no_name) 20 1 1
    ∷ refuses_tables no_name ("dup" of 1 then no_name) 20 2 0
    ∷ refuses_tables ("a" of 1 then "j" of 1 then eight) ("b" of 1 then no_name) 20 1 2
    ∷ refuses_tables (eight_and ("dup" of 1 then no_name)) ("b" of 1 then no_name) 20 1 8
    ∷ refuses_tables (table (16 ∷ replicate 15 97) (1 ∷ [])) ("b" of 1 then no_name) 20 1 0
    ∷ refuses_tables ("sw" of 2 then "port" of 4 then no_name) ("port" of 5 then "sw" of 2 then no_name) 21 1 1
    ∷ refuses_tables ("sw" of 2 then no_name) ("sw" of 0 then no_name) 21 1 0
    -- 1: an empty table, eight fields and another; eight in both pass; 2 at the joint field
    ∷ refuses_tables no_name ("sw" of 2 then no_name) 1 0 0
    ∷ refuses_tables ("sw" of 2 then no_name) no_name 1 0 0
    ∷ refuses_tables eight ("j" of 1 then no_name) 1 0 0
    ∷ gives (call_one eight eight pass) (legality_of_one (Ok 0))
    ∷ refuses_tables ("a" of 1 then no_name) ("b" of 0 then no_name) 2 0 1
    -- nothing is written; the tables come before the text
    ∷ gives (call_read ("id" of 1 then no_name) ("a" of 1 then no_name) 2 (bytes "?") (nines 1) (nines 1) (nines 1)) (read_as (Err (refusal 20 1 0)) (as_lists (nines 1) (nines 1) (nines 1)))
    ∷ gives (call_search ("A" of 1 then no_name) ("a" of 1 then no_name) pass pass (lending 1 1)) (searched (Refused (refusal 20 1 0)) (lending 1 1))
    -- 3 at the joint field, after the texts (A.6)
    ∷ gives (call_texts ("sw" of 5 then no_name) ("port" of 205 then no_name) (bytes "sw=0") (bytes "port=0") (lending 1 1)) (searched (Refused (refusal 3 0 1)) (lending 1 1))
    ∷ gives (call_texts ("sw" of 5 then no_name) ("port" of 205 then no_name) (bytes "sw=0") (bytes "port=0;?") (lending 1 1)) (searched (Refused (refusal 14 0 7)) (lending 1 1))
    -- values over the joint fields; a cell's bytes past the length are not read
    ∷ gives (call_number switches lans three_fields pass (1 ∷ 0 ∷ 1 ∷ [])) (numbered (Ok 5))
    ∷ gives (call_values switches lans pass three_fields 5 (nines 3)) (turned (Ok tt) (1 ∷ 0 ∷ 1 ∷ []))
    ∷ gives (call_values switches lans pass three_fields 5 (nines 2)) (turned (Err (refusal 13 0 3)) (nines 2))
    ∷ gives (call_number (table (2 ∷ 115 ∷ 119 ∷ nines 13) (2 ∷ [])) ("sw" of 2 then no_name) (nodes "f0=0") pass (1 ∷ [])) (numbered (Ok 1))
    ∷ []

-- A.6
unfoldable pub of_mentions : List Case
of_mentions =
    -- a field that nobody mentions counts for nothing: N = 2 of sizes 1,000 and 2
    compares (1000 ∷ 2 ∷ []) "f1=0" "id" 5 3 (Right 1 1) starts2 (1 ∷ [])
    ++ judges (1000 ∷ 2 ∷ []) (nodes "f1=0") (nodes "f1!=1") (0 ∷ 1 ∷ []) (1 ∷ 1 ∷ []) (1 ∷ 1 ∷ []) Accepted
    ∷ follows (1000 ∷ 2 ∷ []) (nodes "f1=0") pass 1 (1 ∷ []) OnlyRight
    ∷ follows (1000 ∷ 2 ∷ []) (nodes "f1=0") pass 0 (2 ∷ []) (NotFollowed (refusal 13 0 1))
    -- turned into values it shows 0; turned back its value is tested, and not counted
    ∷ gives (values_of (1000 ∷ 2 ∷ []) (nodes "f1=0") pass 1 (nines 2)) (turned (Ok tt) (0 ∷ 1 ∷ []))
    ∷ gives (values_of (1000 ∷ 2 ∷ []) (nodes "f1=0") pass 2 (nines 2)) (turned (Err (refusal 13 0 0)) (nines 2))
    ∷ gives (number_for (1000 ∷ 2 ∷ []) (nodes "f1=0") pass (999 ∷ 1 ∷ [])) (numbered (Ok 1))
    ∷ gives (number_for (1000 ∷ 2 ∷ []) (nodes "f1=0") pass (1000 ∷ 1 ∷ [])) (numbered (Err (refusal 13 0 0)))
    ∷ gives (number_for (1000 ∷ 2 ∷ []) (nodes "f1=0") pass (1 ∷ [])) (numbered (Err (refusal 13 0 2)))
    -- no field mentioned: N = 1
    ∷ compares (65535 ∷ 65535 ∷ []) "id" "dup" 5 3 (Left 1 0) starts1 (0 ∷ [])
    ++ compares (5 ∷ 205 ∷ []) "id" "id" 5 3 (Equal 1) starts1 []
    -- before mentioned fields of sizes 2 and 3 one of 5,000; between them
    ++ gives (search_texts (5000 ∷ 2 ∷ 3 ∷ []) (bytes "f1=1;f2<-2;dup") (bytes "f1=1;dup;f2<-2") (lending 10 2))
    (searched (Right 2 3) (holding 10 2 (columns (0 ∷ 1 ∷ 2 ∷ 3 ∷ 4 ∷ 5 ∷ 3 ∷ 5 ∷ 4 ∷ 5 ∷ []) (1 ∷ 1 ∷ 1 ∷ 1 ∷ 1 ∷ 1 ∷ 0 ∷ 2 ∷ 0 ∷ 2 ∷ []) (1 ∷ 1 ∷ 1 ∷ 1 ∷ 1 ∷ 1 ∷ 2 ∷ 0 ∷ 2 ∷ 2 ∷ []) (0 ∷ 1 ∷ 2 ∷ 3 ∷ 4 ∷ 5 ∷ 3 ∷ 3 ∷ 4 ∷ 5 ∷ [])) (3 ∷ 5 ∷ [])))
    ∷ gives (values_of (5000 ∷ 2 ∷ 3 ∷ []) (as_lists (2 ∷ []) (1 ∷ []) (1 ∷ [])) (as_lists (4 ∷ []) (2 ∷ []) (2 ∷ [])) 3 (nines 3)) (turned (Ok tt) (0 ∷ 1 ∷ 0 ∷ []))
    ∷ gives (search_texts (2 ∷ 5000 ∷ 3 ∷ []) (bytes "f0=1;f2=2") (bytes "f0=1") (lending 6 1))
    (searched (Right 1 3) (holding 6 1 (columns (0 ∷ 1 ∷ 2 ∷ 3 ∷ 4 ∷ 5 ∷ []) (1 ∷ 1 ∷ 1 ∷ 1 ∷ 1 ∷ 1 ∷ []) (1 ∷ 1 ∷ 1 ∷ 1 ∷ 1 ∷ 1 ∷ []) (0 ∷ 1 ∷ 2 ∷ 3 ∷ 4 ∷ 5 ∷ [])) (3 ∷ [])))
    -- mentioned by the right policy alone, under a negation that nothing reaches
    ∷ compares (2 ∷ []) "id" "id+drop;!f0=0" 5 3 (Equal 2) starts2 []
    -- 3 over mentioned fields alone, its place the joint field
    ++ gives (search_texts (1024 ∷ 5000 ∷ 2 ∷ []) (bytes "f0=0;f2=0") (bytes "id") (lending 1 1)) (searched (Refused (refusal 3 0 2)) (lending 1 1))
    ∷ gives (search_texts (1024 ∷ 5000 ∷ 2 ∷ []) (bytes "f0=0") (bytes "f1=0") (lending 1 1)) (searched (Refused (refusal 3 0 1)) (lending 1 1))
    ∷ gives (one_legal (5 ∷ 205 ∷ []) (nodes "f0=0")) (legality_of_one (Ok 0))
    ∷ gives (one_legal (5 ∷ 205 ∷ []) both_fields) (legality_of_one (Err (refusal 3 0 1)))
    -- 3 after 4 to 9 and 19, on either policy
    ∷ gives (both_legal (5 ∷ 205 ∷ []) both_fields (text_policy (dups 63))) (legality (Err (refusal 9 2 125)))
    ∷ gives (both_legal (5 ∷ 205 ∷ []) both_fields (nodes "!dup")) (legality (Err (refusal 19 2 1)))
    ∷ gives (values_of (5 ∷ 205 ∷ []) both_fields (as_lists (10 ∷ []) (0 ∷ []) (0 ∷ [])) 0 []) (turned (Err (refusal 5 2 0)) [])
    -- and before 10 and 13; nothing is written
    ∷ gives (check_rows (5 ∷ 205 ∷ []) both_fields pass [] [] (1 ∷ []) (nines 1)) (judged (NotChecked (refusal 3 0 1)) (nines 1))
    ∷ gives (check_trace (5 ∷ 205 ∷ []) both_fields pass 9 (9 ∷ []) (nines words)) (followed (NotFollowed (refusal 3 0 1)) (nines words))
    ∷ gives (values_of (5 ∷ 205 ∷ []) both_fields pass 0 []) (turned (Err (refusal 3 0 1)) [])
    ∷ gives (number_for (5 ∷ 205 ∷ []) pass both_fields (5 ∷ [])) (numbered (Err (refusal 3 0 1)))
    ∷ []

unfoldable pub cases : List Case
cases = of_document01 ++ of_document02 ++ of_tables ++ of_mentions
