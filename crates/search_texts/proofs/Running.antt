-- From the search on the texts' nodes to the promise about the texts.
use Prim.Native.Nat.{ℕ, ◌<◌, ◌≤◌}
use native.Mathlib.Omega.{arith}
use mathlib.Core.List.{List, [], ◌∷◌}
use mathlib.Core.Logic.{◌↔◌}
use mathlib.Core.Path.{◌≡◌, sym, ◌∙◌, ap, subst}
use lib.ListN.{length, take}
use Rattle.packet.specs.declared.Refusal.{Refusal}
use Rattle.packet.specs.Refusals.{Tested}
use Rattle.std.specs.Prelude.{Result, Ok, Err}
use Rattle.packet.specs.Refusals.{first_refused}
use Rattle.packet.specs.Packets.{Declared}
use Rattle.packet.proofs.Stages.{first_refused_next, first_refused_last, first_refused_refused}
use Rattle.fields.specs.Tables.{Table, joint_sizes, tables_stage}
use Rattle.policy.specs.Order.{in_order, stages_of, pair_of}
use Rattle.policy.proofs.OrderLaws as order
use Rattle.policy.specs.Meaning.{TraceSet, Traces, declared, SameTraces, SameShortTraces, SameTracesDeclared, SameShortTracesDeclared, TellsDeclared}
use Rattle.classes.specs.Classing.{TellsOver}
use Rattle.policy.specs.NodeLists.{NodeLists, policy_of}
use Rattle.policy.specs.NodesOfTree.{tree_size}
use Rattle.pair.specs.Sides.{Side, left, right, other, at, policies}
use Rattle.lent_lists.specs.LentLists.{lists_stage, lent_tests}
use Rattle.grammar.specs.Answer.{text_tree}
use Rattle.grammar.proofs.NodeLaws.{text_traces}
use Rattle.verdict.specs.declared.Verdict.{Verdict}
use Rattle.verdict.specs.declared.Verdict.TheVariants.{Refused}
use Rattle.search.specs.Call.{SearchLists, verdict_after, lent_after, search_tests, search_verdict, search_leaves, Searched}
use Rattle.search.proofs.Answering.{refused_equal, refused_telling, refused_full}
use Rattle.search_texts.specs.Call.{text_nodes, text_stage, text_tables, left_names, right_names, text_policies, texts_classes, TextsTell, texts_tests, texts_answer, texts_rows, texts_verdict, texts_leaves, TextsSearched, TextRead, TextsRead, held_nodes}
use Rattle.search_texts.specs.declared.TextNodes.{TextNodes}
use Rattle.search_texts.proofs.Reading.{stage_answer}

zero≢one : ◌≡◌ {A = ℕ} 0 1 → ⊥
zero≢one z = omega arith

passed≢stopped : {r : Refusal} → ◌≡◌ {A = Tested} (Ok tt) (Err r) → ⊥
passed≢stopped e = zero≢one (let z : ◌≡◌ {A = ℕ} 0 1 = cc in z)

-- ---- the traces of the nodes are those of the text

module _ (left_table right_table : Table) (left-text right-text : List ℕ) (el : text_stage (left_names left_table right_table) left-text ≡ Ok tt) (er : text_stage (right_names left_table right_table) right-text ≡ Ok tt) where
  abbrev ln : List (List ℕ)
  ln = left_names left_table right_table

  abbrev rn : List (List ℕ)
  rn = right_names left_table right_table

  tree_traces : (names : List (List ℕ)) (text : List ℕ) → text_stage names text ≡ Ok tt → Traces declared (policy_of (text_nodes names text)) ≡ Traces declared (text_tree names text)
  unfolding text_nodes
  tree_traces names text e = text_traces names text 512 (tree_size (text_tree names text)) (stage_answer names text e) declared

  side_is : (s : Side) → Traces declared (at s (policies (text_nodes ln left-text) (text_nodes rn right-text))).tree ≡ Traces declared (at s (text_policies left_table right_table left-text right-text)).tree
  unfolding at
  side_is left = tree_traces ln left-text el
  side_is right = tree_traces rn right-text er

  -- what holds of the traces of both policies holds of the texts'
  both_are : (H : TraceSet declared → TraceSet declared → Type 0) (s t : Side) → H (Traces declared (at s (policies (text_nodes ln left-text) (text_nodes rn right-text))).tree) (Traces declared (at t (policies (text_nodes ln left-text) (text_nodes rn right-text))).tree)
      → H (Traces declared (at s (text_policies left_table right_table left-text right-text)).tree) (Traces declared (at t (text_policies left_table right_table left-text right-text)).tree)
  both_are H s t h = subst (λ X. H X (Traces declared (at t (text_policies left_table right_table left-text right-text)).tree)) (side_is s) (subst (λ Y. H (Traces declared (at s (policies (text_nodes ln left-text) (text_nodes rn right-text))).tree) Y) (side_is t) h)

  texts_same : (sizes : List ℕ) → SameTracesDeclared sizes (policy_of (text_nodes ln left-text)) (policy_of (text_nodes rn right-text)) ↔ SameTracesDeclared sizes (text_tree ln left-text) (text_tree rn right-text)
  unfolding SameTraces at
  texts_same sizes =
      both_are (λ X Y. SameTracesDeclared sizes (policy_of (text_nodes ln left-text)) (policy_of (text_nodes rn right-text)) ↔ ((α : List ℕ) → Declared sizes α → (t : List (List ℕ)) → X α t ↔ Y α t)) left right (λ h. h, λ h. h)

  texts_short : (sizes : List ℕ) (d : ℕ) → SameShortTracesDeclared sizes d (policy_of (text_nodes ln left-text)) (policy_of (text_nodes rn right-text)) → SameShortTracesDeclared sizes d (text_tree ln left-text) (text_tree rn right-text)
  unfolding SameShortTraces at
  texts_short sizes d f = both_are (λ X Y. (α : List ℕ) → Declared sizes α → (t : List (List ℕ)) → length t ≤ d → X α t ↔ Y α t) left right f

  texts_tell : (sizes : List ℕ) (s : Side) (α : List ℕ) (t : List (List ℕ)) → TellsDeclared sizes (at s (policies (text_nodes ln left-text) (text_nodes rn right-text))).tree (at (other s) (policies (text_nodes ln left-text) (text_nodes rn right-text))).tree α t
      → TellsDeclared sizes (at s (text_policies left_table right_table left-text right-text)).tree (at (other s) (text_policies left_table right_table left-text right-text)).tree α t
  texts_tell sizes s α t d =
      record {
        enters = d.enters;
        has = both_are (λ X Y. X α t) s s d.has;
        lacks = both_are (λ X Y. Y α t → ⊥) s (other s) d.lacks;
        shortest = both_are (λ X Y. (β : List ℕ) → Declared sizes β → (u : List (List ℕ)) → length u < length t → X β u ↔ Y β u) s (other s) d.shortest;
      }

  texts_tell_over : (s : Side) (α : ℕ) (t : List ℕ) → TellsOver (texts_classes left_table right_table left-text right-text) (joint_sizes (text_tables left_table right_table)) (at s (policies (text_nodes ln left-text) (text_nodes rn right-text))).tree (at (other s) (policies (text_nodes ln left-text) (text_nodes rn right-text))).tree α t
      → TextsTell left_table right_table left-text right-text s α t
  texts_tell_over s α t d = record { inside = d.inside; shown = texts_tell _ s _ _ d.shown; along = λ β e f. texts_tell _ s _ _ (d.along β e f) }

-- ---- the texts as they are read

pub renamed : {ns ms : List (List ℕ)} (text : List ℕ) (r : Result TextNodes Refusal) → ns ≡ ms → TextRead ns text r → TextRead ms text r
renamed text r p h = subst (λ (ks : List (List ℕ)). TextRead ks text r) p h

pub texts_handed : (left_table right_table : Table) (left-text right-text : List ℕ) {e : Refusal} (r : Result (TextNodes × TextNodes) Refusal) → r ≡ Err e → ((x : SearchLists) → texts_tests left_table right_table left-text right-text x ≡ Err e) → TextsRead left_table right_table left-text right-text r
texts_handed left_table right_table left-text right-text r is h = subst (λ (a : Result (TextNodes × TextNodes) Refusal). TextsRead left_table right_table left-text right-text a) (sym is) h

-- ---- the public call

module _ (left_table right_table : Table) (left-text right-text : List ℕ) (x : SearchLists) where
  pub refused_by : {r : Refusal} → texts_tests left_table right_table left-text right-text x ≡ Err r → TextsSearched left_table right_table left-text right-text x (Refused r) x
  unfolding texts_verdict texts_leaves verdict_after lent_after
  refused_by {r} e =
      record {
        answers = sym (ap (λ (t : Tested). verdict_after t (texts_answer left_table right_table left-text right-text x)) e);
        leaves = sym (ap (λ (t : Tested). lent_after t (texts_rows left_table right_table left-text right-text x) (texts_answer left_table right_table left-text right-text x) x) e);
        equal_same = λ rows q. absurd (refused_equal q);
        same_equal = λ p. absurd (passed≢stopped (sym p ∙ e));
        different_tells = λ s n α q. absurd (refused_telling s n α q);
        full_exactly = λ p. absurd (passed≢stopped (sym p ∙ e));
        full_place = λ q d f. absurd (refused_full f);
        full_same = λ q d f. absurd (refused_full f);
      }

  abbrev lists : Tested
  lists = lists_stage (length x.packets ∷ length x.lefts ∷ length x.rights ∷ length x.parents ∷ []) (length x.work)

  abbrev ts : List Table
  ts = text_tables left_table right_table

  abbrev lnames : List (List ℕ)
  lnames = left_names left_table right_table

  abbrev rnames : List (List ℕ)
  rnames = right_names left_table right_table

  abbrev text_tests : Tested
  text_tests = first_refused (text_stage lnames left-text ∷ text_stage rnames right-text ∷ [])

  texts_passed : text_stage lnames left-text ≡ Ok tt → text_stage rnames right-text ≡ Ok tt → {v : Verdict} {y : SearchLists} → Searched ts (text_nodes lnames left-text) (text_nodes rnames right-text) x v y → TextsSearched left_table right_table left-text right-text x v y
  unfolding texts_tests search_tests lent_tests search_verdict search_leaves texts_verdict texts_leaves
  texts_passed l r {v} {y} s =
      let q : text_tests ≡ Ok tt = first_refused_next (text_stage lnames left-text) (text_stage rnames right-text ∷ []) l ∙ first_refused_last (text_stage rnames right-text) ∙ r in
      let same : texts_tests left_table right_table left-text right-text x ≡ search_tests ts (text_nodes lnames left-text) (text_nodes rnames right-text) x =
      ap (λ (u : Tested). in_order (stages_of ts u (pair_of (text_nodes lnames left-text) (text_nodes rnames right-text)) lists (Ok tt))) q in
      record {
        answers = s.answers ∙ sym (ap (λ (t : Tested). verdict_after t (texts_answer left_table right_table left-text right-text x)) same);
        leaves = s.leaves ∙ sym (ap (λ (t : Tested). lent_after t (texts_rows left_table right_table left-text right-text x) (texts_answer left_table right_table left-text right-text x) x) same);
        equal_same = λ rows f. (texts_same left_table right_table left-text right-text l r (joint_sizes ts)).0 (s.equal_same rows f);
        same_equal = λ f g. s.same_equal (sym same ∙ f) ((texts_same left_table right_table left-text right-text l r (joint_sizes ts)).1 g);
        different_tells = λ sd n α f. (let t = s.different_tells sd n α f in record { long = t.long; tells = texts_tell_over left_table right_table left-text right-text l r sd α (take n y.trace) t.tells });
        full_exactly = λ f. s.full_exactly (sym same ∙ f);
        full_place = s.full_place;
        full_same = λ r' d f. texts_short left_table right_table left-text right-text l r (joint_sizes ts) d (s.full_same r' d f);
      }

  -- the nodes as they were read
  pub searched : (p q : TextNodes) → TextRead lnames left-text (Ok p) → TextRead rnames right-text (Ok q) → {L R : NodeLists} → L ≡ held_nodes p → R ≡ held_nodes q → {v : Verdict} {y : SearchLists} → Searched ts L R x v y → TextsSearched left_table right_table left-text right-text x v y
  searched p q f g {L} l r {v} {y} s =
      texts_passed f.0 g.0 (subst (λ (M : NodeLists). Searched ts M (text_nodes rnames right-text) x v y) (l ∙ f.2) (subst (λ (M : NodeLists). Searched ts L M x v y) (r ∙ g.2) s))

  -- ---- what refuses the call

  pub tables_tested : {r : Refusal} → tables_stage ts ≡ Err r → texts_tests left_table right_table left-text right-text x ≡ Err r
  unfolding texts_tests
  tables_tested e = order.tables_refused ts _ _ _ _ e

  pub tables_refused : {r : Refusal} → tables_stage ts ≡ Err r → TextsSearched left_table right_table left-text right-text x (Refused r) x
  tables_refused e = refused_by (tables_tested e)

  texts_refused : {r : Refusal} → tables_stage ts ≡ Ok tt → text_tests ≡ Err r → texts_tests left_table right_table left-text right-text x ≡ Err r
  unfolding texts_tests
  texts_refused e q = order.texts_refused ts _ _ _ _ e q

  pub left_refused : {r : Refusal} → tables_stage ts ≡ Ok tt → text_stage lnames left-text ≡ Err r → texts_tests left_table right_table left-text right-text x ≡ Err r
  left_refused {r} e f = texts_refused e (first_refused_refused (text_stage lnames left-text) (text_stage rnames right-text ∷ []) r f)

  pub right_refused : {r : Refusal} → tables_stage ts ≡ Ok tt → text_stage lnames left-text ≡ Ok tt → text_stage rnames right-text ≡ Err r → texts_tests left_table right_table left-text right-text x ≡ Err r
  right_refused e l f = texts_refused e (first_refused_next (text_stage lnames left-text) (text_stage rnames right-text ∷ []) l ∙ first_refused_last (text_stage rnames right-text) ∙ f)
