-- The call's answer: which cause refuses, what accepting means, and the row order of an equal pair.
-- Assumes nothing.
use Prim.Native.Nat.{ℕ, ◌≤◌}
use native.Mathlib.Nat.{le_refl, le_trans}
use native.Mathlib.Omega.{arith}
use mathlib.Core.Bool.{true≢false}
use mathlib.Core.List.{List, [], ◌∷◌}
use mathlib.Core.Logic.{◌↔◌}
use mathlib.Core.Path.{◌≡◌, refl, sym, ◌∙◌, ap, ap₂, subst}
use lib.ListN.{length, take, length-take, length-map}
use borrow.Author.Tests.{eq-eqb, le-ltb}
use Rattle.packet.specs.Lowest.{lowest}
use Rattle.packet.specs.Refusals.{refused_at, at_place}
use Rattle.packet.specs.declared.Refusal.{Refusal}
use Rattle.packet.specs.Refusals.{Tested}
use Rattle.std.specs.Prelude.{Ok, Err}
use Rattle.fields.specs.Tables.{Table, joint_sizes}
use Rattle.policy.specs.NodeLists.{NodeLists, policy_of}
use Rattle.policy.specs.Order.{pair_core, pair_tests}
use Rattle.policy.specs.Meaning.{SameTracesBelow, SameTracesDeclared}
use Rattle.legality.specs.declared.LegalCall.{LegalCall as Found}
use Rattle.legality.specs.Answers.{front_tests, FrontOf}
use Rattle.system.specs.System.{System}
use Rattle.system.specs.RowOrder.{Entry, finished, turn, run, full, equal as all_handled, held}
use Rattle.system.proofs.Answers.{full_iff, answer_finished, held_stopped}
use Rattle.system.proofs.Runs.{finished≢handling}
use Rattle.pair.specs.Sides.{policies}
use Rattle.pair.specs.Pair.{pair_system}
use Rattle.pair.specs.Search.{Columns, equal, columns_of, search_answer, held_columns}
use Rattle.pair.specs.Rules.{RulesAnswer, accepted, rule_a, rule_b, rule_c, rule_d, Judged}
use Rattle.pair.specs.Evidence.{table_of, evidence_answer, RowRules}
use Rattle.pair.proofs.Lawful.{EvaluablePair, legal_pair}
use Rattle.pair.proofs.Evidence.{evidence_judged, accepted_same, evidence_iff, search_accepted, row_order_accepted}
use Rattle.index.specs.Columns.{EvenColumns}
use Rattle.lent_lists.specs.LentLists.{misfit, rows_misfit, lists_stage, work_after}
use Rattle.lent_lists.proofs.Testing.{front_as, LegalCall, tests_passed, pair_lent, lent_pair, lists_passed, row_list_fits, rows_few}
use Rattle.classes.proofs.Pairs.{left_named, right_named, same_declared}
use Rattle.evidence.specs.declared.Evidence.{Evidence}
use Rattle.evidence.specs.declared.Evidence.TheVariants.{Accepted, RuleA, RuleB, RuleC, RuleD, Refused as NotChecked}
use Rattle.evidence.specs.Calls.{as_evidence, evidence_of, evidence_tests, evidence_call, HoldRowOrder, CheckedRows}
use Rattle.std.specs.Prelude.{Option}
use Rattle.row_rules.specs.Presence.{DupsFit, strays}
use Rattle.evidence.specs.InnerSteps.{dups_of, StrayIs, LentTable, TableChecked}
use Rattle.evidence.proofs.Stepping.{dups_few}

-- ---- the cases of the answer tell the rule and the spot

told : Evidence → RulesAnswer
told Accepted = accepted
told (RuleA i) = rule_a i
told (RuleB α) = rule_b α
told (RuleC i) = rule_c i
told (RuleD i γ) = rule_d i γ
told (NotChecked r) = rule_a 0

told_reported : (x : RulesAnswer) → told (as_evidence x) ≡ x
unfolding told as_evidence
told_reported accepted = refl
told_reported (rule_a i) = refl
told_reported (rule_b α) = refl
told_reported (rule_c i) = refl
told_reported (rule_d i γ) = refl

reported_same : (x y : RulesAnswer) → as_evidence x ≡ as_evidence y → x ≡ y
reported_same x y e = sym (told_reported x) ∙ ap told e ∙ told_reported y

not_accepted : {r : Refusal} → NotChecked r ≡ Accepted → ⊥
not_accepted e = true≢false (cc)

accepted_passed : (t : Tested) (x : RulesAnswer) → evidence_of t x ≡ Accepted → (t ≡ Ok tt) × (x ≡ accepted)
unfolding evidence_of as_evidence
accepted_passed (Ok _) x e = (refl, reported_same x accepted e)
accepted_passed (Err r) x e = absurd (not_accepted e)

take_few : {A : Type 0} (n : ℕ) (l : List A) → length (take n l) ≤ n
take_few n l = omega (arith, length-take n l)

-- ---- cause 10

pub lists_pass : (n work : ℕ) → n ≤ 65535 → 16384 ≤ work → lists_stage (n ∷ n ∷ n ∷ []) work ≡ Ok tt
unfolding lists_stage rows_misfit misfit refused_at at_place
lists_pass n work few long = rw (eq-eqb n n refl, le-ltb 65535 n few, le-ltb work 16384 long) refl

pub three_passed : (a b c work : ℕ) → lists_stage (a ∷ b ∷ c ∷ []) work ≡ Ok tt → (b ≡ a) × (c ≡ a) × (a ≤ 65535) × (16384 ≤ work)
unfolding rows_misfit
three_passed a b c work e =
    let x = lists_passed _ work e in
    let y = row_list_fits a b _ x.0 in
    let z = row_list_fits a c _ y.1 in
    (y.0, z.0, rows_few a z.1, x.1)

module _ (ts : List Table) (L R : NodeLists) where
  module _ (e : pair_tests ts L R ≡ Ok tt) where
    passed_call : LegalCall ts L R (Ok tt)
    passed_call = tests_passed ts L R (Ok tt) (pair_lent ts L R (Ok tt) e refl)

    pair_evaluable : EvaluablePair (pair_core ts L R) (policies L R)
    pair_evaluable = legal_pair (pair_core ts L R) L R passed_call.left_legal passed_call.right_legal

    -- over the core sizes and from every declared packet the same
    pair_declared : SameTracesBelow (pair_core ts L R) (policy_of L) (policy_of R) ↔ SameTracesDeclared (joint_sizes ts) (policy_of L) (policy_of R)
    pair_declared = same_declared ts L R passed_call.pair _ _ (left_named ts L R passed_call.pair) (right_named ts L R passed_call.pair)

  module _ (packets lefts rights : List ℕ) where
    -- two policies that no cause refuses, and lists that fit
    tests_pass : (words : ℕ) → pair_tests ts L R ≡ Ok tt → lists_stage (length packets ∷ length lefts ∷ length rights ∷ []) words ≡ Ok tt → evidence_tests ts L R packets lefts rights words ≡ Ok tt
    unfolding evidence_tests
    tests_pass words e l = pair_lent ts L R _ e l

    evaluable : (words : ℕ) → evidence_tests ts L R packets lefts rights words ≡ Ok tt → EvaluablePair (pair_core ts L R) (policies L R)
    unfolding evidence_tests
    evaluable words e = pair_evaluable (lent_pair ts L R _ e)

    -- accepted exactly when no cause refuses and the four row rules hold
    pub call_accepted : (words : ℕ) → (evidence_call ts L R packets lefts rights words ≡ Accepted)
        ↔ ((evidence_tests ts L R packets lefts rights words ≡ Ok tt) × RowRules (pair_core ts L R) (policies L R) packets lefts rights)
    unfolding evidence_call evidence_of as_evidence
    call_accepted words = (
      λ e.
          let x = accepted_passed _ _ e in
          (x.0, (evidence_iff (pair_core ts L R) (policies L R) (evaluable words x.0) packets lefts rights).0 x.1),
      λ k.
          ap (λ (t : Tested). evidence_of t (evidence_answer (pair_core ts L R) (policies L R) packets lefts rights)) k.0
          ∙ ap as_evidence ((evidence_iff (pair_core ts L R) (policies L R) (evaluable words k.0) packets lefts rights).1 k.1),
    )

    -- accepted: the same traces from every packet
    pub call_sound : (words : ℕ) → evidence_call ts L R packets lefts rights words ≡ Accepted → SameTracesDeclared (joint_sizes ts) (policy_of L) (policy_of R)
    unfolding evidence_call evidence_tests
    call_sound words e =
        let x = accepted_passed _ _ e in
        (pair_declared (lent_pair ts L R _ x.0)).0 (accepted_same (pair_core ts L R) (policies L R) (evaluable words x.0) packets lefts rights x.1)

    -- where no cause refuses, the answer names the first broken rule and its spot
    pub call_judged : (words : ℕ) → evidence_tests ts L R packets lefts rights words ≡ Ok tt → (x : RulesAnswer) → evidence_call ts L R packets lefts rights words ≡ as_evidence x
        → Judged (pair_system (pair_core ts L R) (policies L R)) (table_of (pair_core ts L R) (policies L R) packets lefts rights) x
    unfolding evidence_call evidence_of
    call_judged words p x e =
        let same : evidence_answer (pair_core ts L R) (policies L R) packets lefts rights ≡ x = reported_same _ x (sym (ap (λ (t : Tested). evidence_of t (evidence_answer (pair_core ts L R) (policies L R) packets lefts rights)) p) ∙ e) in
        subst (Judged (pair_system (pair_core ts L R) (policies L R)) (table_of (pair_core ts L R) (policies L R) packets lefts rights)) same
        (evidence_judged (pair_core ts L R) (policies L R) (evaluable words p) packets lefts rights)

  -- ---- the rows that a search of an equal pair lists

  module _ (room words : ℕ) (few : room ≤ 65535) (pass : pair_tests ts L R ≡ Ok tt) (long : 16384 ≤ words) where
    abbrev H : Columns
    H = held_columns (pair_core ts L R) (policies L R) room

    held_length : length (held (pair_system (pair_core ts L R) (policies L R)) room) ≤ 65535
    unfolding held
    held_length = le_trans (take_few room _) few

    held_tests : evidence_tests ts L R H.packets H.lefts H.rights words ≡ Ok tt
    unfolding held_columns columns_of
    held_tests =
        tests_pass H.packets H.lefts H.rights words pass
        (ap (λ (ns : List ℕ). lists_stage ns words) lengths ∙ lists_pass _ words held_length long)
      where
        es : List (Entry (pair_system (pair_core ts L R) (policies L R)))
        es = held (pair_system (pair_core ts L R) (policies L R)) room

        lengths : (length H.packets ∷ length H.lefts ∷ length H.rights ∷ []) ≡ (length es ∷ length es ∷ length es ∷ [])
        lengths = rw (length-map es (λ e. e.row.packet), length-map es (λ e. e.row.state.left), length-map es (λ e. e.row.state.right)) refl

    held_accepted : evidence_answer (pair_core ts L R) (policies L R) H.packets H.lefts H.rights ≡ accepted → evidence_call ts L R H.packets H.lefts H.rights words ≡ Accepted
    unfolding evidence_call evidence_of as_evidence
    held_accepted e = ap₂ evidence_of held_tests e

    -- the rows of a search that answered equal are accepted
    pub equal_accepted : (trace count : ℕ) → search_answer (pair_core ts L R) (policies L R) room trace ≡ equal count → evidence_call ts L R H.packets H.lefts H.rights words ≡ Accepted
    equal_accepted trace count e = held_accepted (search_accepted (pair_core ts L R) (policies L R) (pair_evaluable pass) room trace count e)

  -- the row order of an equal pair is accepted
  pub call_complete : (packets lefts rights : List ℕ) (words : ℕ) → pair_tests ts L R ≡ Ok tt → SameTracesDeclared (joint_sizes ts) (policy_of L) (policy_of R) → HoldRowOrder (pair_core ts L R) L R packets lefts rights → 16384 ≤ words
      → evidence_call ts L R packets lefts rights words ≡ Accepted
  call_complete packets lefts rights words pass same h long =
      ap (λ (p : List ℕ). evidence_call ts L R p lefts rights words) h.packets_held
      ∙ ap₂ (λ (l r : List ℕ). evidence_call ts L R (held_columns (pair_core ts L R) (policies L R) h.room).packets l r words) h.lefts_held h.rights_held
      ∙ held_accepted h.room words h.few pass long (row_order_accepted (pair_core ts L R) (policies L R) (pair_evaluable pass) h.room ((pair_declared pass).1 same) h.enough)

  -- the rows listed when all of them are handled are the row order
  pub whole_order : (k : ℕ) → turn (pair_system (pair_core ts L R) (policies L R)) (run (pair_system (pair_core ts L R) (policies L R)) k) ≡ finished → length (run (pair_system (pair_core ts L R) (policies L R)) k).rows ≤ 65535
      → (let H = columns_of (pair_core ts L R) (policies L R) (run (pair_system (pair_core ts L R) (policies L R)) k).rows in HoldRowOrder (pair_core ts L R) L R H.packets H.lefts H.rights)
  unfolding held_columns
  whole_order k end few =
      record {
        room = length (run S k).rows;
        few = few;
        enough = λ m. not_full (sym ((full_iff S (length (run S k).rows)).1 m) ∙ answer_finished S (length (run S k).rows) k end (le_refl _));
        packets_held = ap (λ (es : List (Entry S)). (columns_of (pair_core ts L R) (policies L R) es).packets) same;
        lefts_held = ap (λ (es : List (Entry S)). (columns_of (pair_core ts L R) (policies L R) es).lefts) same;
        rights_held = ap (λ (es : List (Entry S)). (columns_of (pair_core ts L R) (policies L R) es).rights) same;
      }
    where
      S : System
      S = pair_system (pair_core ts L R) (policies L R)

      not_full : {c d : ℕ} → full d ≡ all_handled c → ⊥
      not_full e = true≢false (cc)

      same : (run S k).rows ≡ held S (length (run S k).rows)
      same = sym (held_stopped S (length (run S k).rows) k (λ q. finished≢handling (sym end ∙ q)) (le_refl _))

  -- ---- the call

  module _ (packets lefts rights work : List ℕ) where
    -- the answer and the work list from what the causes say
    checked_rows : (t : Tested) → evidence_tests ts L R packets lefts rights (length work) ≡ t → (answer : Evidence) → answer ≡ evidence_of t (evidence_answer (pair_core ts L R) (policies L R) packets lefts rights)
        → (work' : List ℕ) → work' ≡ work_after t work → CheckedRows ts L R packets lefts rights work answer work'
    unfolding evidence_call
    checked_rows t e answer f work' g =
        record {
          answers = is;
          works = g ∙ ap (λ (u : Tested). work_after u work) (sym e);
          accepts = (λ h. (call_accepted packets lefts rights (length work)).0 (sym is ∙ h), λ k. is ∙ (call_accepted packets lefts rights (length work)).1 k);
          rejects = λ p x h. call_judged packets lefts rights (length work) p x (sym is ∙ h);
          sound = λ h. call_sound packets lefts rights (length work) (sym is ∙ h);
          complete = λ p s o l. is ∙ call_complete packets lefts rights (length work) p s o l;
        }
      where
        is : answer ≡ evidence_call ts L R packets lefts rights (length work)
        is = f ∙ ap (λ (u : Tested). evidence_of u (evidence_answer (pair_core ts L R) (policies L R) packets lefts rights)) (sym e)

    -- the tests as they were made
    module _ {said : Tested} (lists : said ≡ lists_stage (length packets ∷ length lefts ∷ length rights ∷ []) (length work)) where
      tests_made : front_tests ts 1 L R said ≡ evidence_tests ts L R packets lefts rights (length work)
      unfolding evidence_tests
      tests_made = ap (front_tests ts 1 L R) lists ∙ front_as ts L R _

      pub refused : {r : Refusal} → front_tests ts 1 L R said ≡ Err r → CheckedRows ts L R packets lefts rights work (NotChecked r) work
      unfolding evidence_of work_after
      refused {r} e = checked_rows (Err r) (sym tests_made ∙ e) (NotChecked r) refl work refl

      -- the causes pass: F is what the front tells
      module _ {F : Found} (front : FrontOf ts 1 L R said (Ok F)) where
        tests_passing : evidence_tests ts L R packets lefts rights (length work) ≡ Ok tt
        tests_passing = sym tests_made ∙ front.0

        pub lent : LentTable (pair_core ts L R) L R packets lefts rights F.packets work
        unfolding evidence_tests
        lent =
            let h = tests_passed ts L R _ tests_passing in
            let n = three_passed _ _ _ _ h.passed in
            record {
              allowed = record { legal = h.legal_sizes; left_legal = h.left_legal; right_legal = h.right_legal; packet_count = front.1.packets };
              table = record { left = n.0; right = n.1 };
              numbered = n.2;
              long = n.3;
            }

        -- what the search for a row that breaks rule (a) asks, with the dups of the policies
        module _ {dups : List ℕ} (e : dups ≡ F.left_dups ∷ F.right_dups ∷ []) where
          dups_known : DupsFit dups × (dups ≡ dups_of L R)
          dups_known = dups_few (pair_core ts L R) L R packets lefts rights lent front.1.left_dups front.1.right_dups e

          pub stray_asks : EvenColumns packets lefts rights × ((length packets ≤ 65535) × DupsFit dups)
          stray_asks = (lent.table, (lent.numbered, dups_known.0))

          -- the sizes are the core sizes as they were found
          pub table_asks : {spot : Option ℕ} → spot ≡ lowest (strays packets lefts rights F.packets dups) (length packets)
              → LentTable (take F.count F.core) L R packets lefts rights F.packets work × StrayIs L R packets lefts rights F.packets spot
          table_asks f = (subst (λ (s : List ℕ). LentTable s L R packets lefts rights F.packets work) (sym front.1.core) lent, record { first = f ∙ ap (λ (ds : List ℕ). lowest (strays packets lefts rights F.packets ds) (length packets)) dups_known.1 })

        pub table_answered : (answer : Evidence) (work' : List ℕ) → TableChecked (take F.count F.core) L R packets lefts rights work answer work' → CheckedRows ts L R packets lefts rights work answer work'
        unfolding evidence_of work_after
        table_answered answer work' c =
            let t = subst (λ (s : List ℕ). TableChecked s L R packets lefts rights work answer work') front.1.core c in
            checked_rows (Ok tt) tests_passing answer t.answers work' t.cleared
