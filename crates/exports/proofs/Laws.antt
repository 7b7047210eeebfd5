-- From a call's promise and the numbers of what it answered to the promise of its export. Assumes nothing.
use Prim.Native.Nat.{ℕ}
use mathlib.Core.List.{List, [], ◌∷◌}
use lib.ListN.{get_or}
use mathlib.Core.Path.{◌≡◌, sym, ap, subst, ◌∙◌}
use Rattle.fields.specs.Tables.{Table}
use Rattle.policy.specs.NodeLists.{NodeLists}
use Rattle.grammar.specs.Answer.{Answer, TextRead}
use Rattle.verdict.specs.declared.Verdict.{Verdict}
use Rattle.index.specs.declared.RowLists.{RowLists}
use Rattle.search.specs.Call.{SearchLists, lent, lent_in, Searched}
use Rattle.evidence.specs.declared.Evidence.{Evidence}
use Rattle.evidence.specs.Calls.{CheckedRows}
use Rattle.traces.specs.declared.TraceChecked.{TraceChecked}
use Rattle.traces.specs.Checking.{CheckedTrace}
use Rattle.search_texts.specs.Call.{TextsSearched}
use Rattle.answer_numbers.specs.Numbers.{count_numbers, verdict_numbers, evidence_numbers, trace_numbers}
use Rattle.exports.specs.Promises.{ReadOut, SearchedOut, TextsOut, EvidenceOut, TraceOut}

module _ {left right left' right' : Table} (same_tables : left ∷ right ∷ [] ≡ left' ∷ right' ∷ []) where
  -- what holds of the tables that the lists are put into holds of the lists
  of_tables : (P : Table → Table → Type 0) → P left right → P left' right'
  of_tables P p = subst (P left') (ap (λ (ts : List Table). get_or ts 1 right) same_tables) (subst (λ t. P t right) (ap (λ (ts : List Table). get_or ts 0 left) same_tables) p)

  pub read_out : {side : ℕ} {text kind first second answer kind' first' second' : List ℕ} {r : Answer} → TextRead left right side text kind first second r kind' first' second' → answer ≡ count_numbers r
      → ReadOut left' right' side text kind first second answer kind' first' second'
  read_out {side} {text} {kind} {first} {second} {answer} {kind'} {first'} {second'} {r} read n =
      of_tables (λ t u. ReadOut t u side text kind first second answer kind' first' second')
      record { numbers = n ∙ ap count_numbers read.answer; promised = subst (λ (v : Answer). TextRead left right side text kind first second v kind' first' second') read.answer read }

  pub texts_out : {left_text right_text : List ℕ} {x : SearchLists} {answer : List ℕ} {r : Verdict} (rows : RowLists) {trace work P Q S T : List ℕ} → TextsSearched left right left_text right_text x r (lent_in rows trace work)
      → P ≡ rows.packets.now → Q ≡ rows.left.now → S ≡ rows.right.now → T ≡ rows.parents.now → answer ≡ verdict_numbers r → TextsOut left' right' left_text right_text x answer (lent P Q S T trace work)
  texts_out {left_text} {right_text} {x} {answer} rows {trace} {work} {P} {Q} {S} {T} done p q s t n =
      of_tables (λ l r. TextsOut l r left_text right_text x answer (lent P Q S T trace work))
      (subst (TextsOut left right left_text right_text x answer) (λ i. lent (sym p i) (sym q i) (sym s i) (sym t i) trace work)
      record { numbers = n ∙ ap verdict_numbers done.answers; promised = subst (λ (v : Verdict). TextsSearched left right left_text right_text x v (lent_in rows trace work)) done.answers done })

module _ {ts us : List Table} {L M R S : NodeLists} (same_tables : ts ≡ us) (same_left : L ≡ M) (same_right : R ≡ S) where
  -- what holds of the tables and policies that the lists are put into holds of the lists
  of_lists : (P : List Table → NodeLists → NodeLists → Type 0) → P ts L R → P us M S
  of_lists P p = subst (P us M) same_right (subst (λ N. P us N R) same_left (subst (λ vs. P vs L R) same_tables p))

  pub searched_out : {x y : SearchLists} {answer : List ℕ} {r : Verdict} → Searched ts L R x r y → answer ≡ verdict_numbers r → SearchedOut us M S x answer y
  searched_out {x} {y} {answer} {r} done n =
      of_lists (λ vs N O. SearchedOut vs N O x answer y)
      record { numbers = n ∙ ap verdict_numbers done.answers; promised = subst (λ (v : Verdict). Searched ts L R x v y) done.answers done }

  pub evidence_out : {packets lefts rights work answer work' : List ℕ} {r : Evidence} → CheckedRows ts L R packets lefts rights work r work' → answer ≡ evidence_numbers r → EvidenceOut us M S packets lefts rights work answer work'
  evidence_out {packets} {lefts} {rights} {work} {answer} {work'} {r} done n =
      of_lists (λ vs N O. EvidenceOut vs N O packets lefts rights work answer work')
      record { numbers = n ∙ ap evidence_numbers done.answers; promised = subst (λ (v : Evidence). CheckedRows ts L R packets lefts rights work v work') done.answers done }

  pub trace_out : {α : ℕ} {trace work answer work' : List ℕ} {r : TraceChecked} → CheckedTrace ts L R α trace work r work' → answer ≡ trace_numbers r → TraceOut us M S α trace work answer work'
  trace_out {α} {trace} {work} {answer} {work'} {r} done n =
      of_lists (λ vs N O. TraceOut vs N O α trace work answer work')
      record { numbers = n ∙ ap trace_numbers done.answers; promised = subst (λ (v : TraceChecked). CheckedTrace ts L R α trace work v work') done.answers done }

module _ {ts : List Table} {L R : NodeLists} where
  -- "both ways of lending give equal answers": a table in columns, and records with these columns
  pub lent_either_way : {packets lefts rights work answer work' other other' : List ℕ} → EvidenceOut ts L R packets lefts rights work answer work' → EvidenceOut ts L R packets lefts rights work other other'
      → (answer ≡ other) × (work' ≡ other')
  lent_either_way a b = (a.numbers ∙ sym b.numbers, a.promised.works ∙ sym b.promised.works)
