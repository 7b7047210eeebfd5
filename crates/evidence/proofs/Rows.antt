-- The checker's steps over loaded policies: one row, then row by row.
-- Assumes nothing.
use Prim.Native.Nat.{ℕ, zero, suc, ◌+◌, ◌≤◌, ◌<◌}
use native.Mathlib.Nat.{le_antisymm, not-suc-le-zero}
use native.Mathlib.Numerals.{add-one}
use native.Mathlib.Omega.{arith}
use mathlib.Core.Bool.{true, ◌&&◌}
use mathlib.Core.List.{List}
use mathlib.Core.Logic.{◌⊎◌, inl, inr}
use Rattle.std.specs.Prelude.{Option}
use mathlib.Core.Path.{◌≡◌, refl, sym, ◌∙◌, ap, ap₂, subst}
use lib.Dec.{eqb}
use lib.ListN.{length, get_or, replicate}
use borrow.Author.Tests.{eqb-true}
use Rattle.packet.specs.Lowest.{lowest}
use Rattle.packet.specs.Sizes.{product}
use Rattle.packet.proofs.Tests.{and_true, last_or_before}
use Rattle.policy.specs.NodeLists.{NodeLists}
use Rattle.marks.proofs.Touched.{blank_new}
use Rattle.marks.specs.Marks.{Marking}
use Rattle.system.specs.System.{System}
use Rattle.system.specs.RowOrder.{lowest_telling}
use Rattle.pair.specs.Sides.{Side, left, right, policies}
use Rattle.pair.specs.Pair.{pair_system}
use Rattle.pair.specs.Rules.{Table, RulesAnswer, accepted, rule_c, rule_d, and_then, broken_at, breaks_d, check_row, check_rows}
use Rattle.pair.specs.Evidence.{table_of}
use Rattle.index.specs.declared.Row.{Row as MaskRow}
use Rattle.index.specs.Columns.{left_of, right_of, row_at, masks_agree, rows_agree}
use Rattle.index.specs.Index.{Indexed}
use Rattle.compare.specs.declared.Compared.{Compared}
use Rattle.compare.specs.declared.Compared.TheVariants.{Same, Left, Right}
use Rattle.compare.specs.Comparison.{differs_at, pair_row, BothLoaded, BothMarking, BothBlank, CompareReady, ComparedRow, ComparedStates}
use Rattle.compare.proofs.Telling.{same_lowest, differs_lowest}
use Rattle.evidence.specs.declared.Evidence.TheVariants.{Accepted, RuleC, RuleD}
use Rattle.evidence.specs.declared.RowAnswer.{RowAnswer}
use Rattle.evidence.specs.declared.RowAnswer.TheVariants.{Keeps, Outputs, Next}
use Rattle.row_rules.specs.Presence.{next_missing, Repeated}
use Rattle.evidence.specs.Calls.{as_evidence}
use Rattle.evidence.specs.InnerSteps.{row_told, TableReady, RowChecked, RowsChecked}
use Rattle.evidence.proofs.Joining.{lowest_agree, missing_is}
use Rattle.std.specs.Prelude.{Some, None}
use Rattle.evidence.proofs.Repeats.{repeat_keeps}

-- ---- one row

module _ {sizes : List ℕ} {nodes tests : List (List ℕ)} {packets lefts rights : List ℕ} {count : ℕ} {trees work : List ℕ} (ready : TableReady sizes nodes tests packets lefts rights count trees work) where
  count_is : count ≡ product sizes
  count_is = ready.cleared.lent.allowed.packet_count

  count_small : count ≤ 1024
  count_small = omega (arith, count_is, ready.cleared.lent.allowed.legal.small)

  module _ {i : ℕ} (inside : i < length packets) {x : MaskRow} (is_row : x ≡ row_at packets lefts rights i) where
    pub compare_ready : {next : List (List ℕ)} → BothBlank next → CompareReady sizes nodes tests x.packet next work
    compare_ready blank =
        record {
          lists = ready.lists;
          others = ready.others;
          loaded = ready.loaded;
          packet = subst (λ (n : ℕ). x.packet < n) count_is (subst (λ (y : MaskRow). y.packet < count) (sym is_row) (ready.cleared.small.small i inside));
          blank = blank;
          long = ready.cleared.lent.long;
          zero = ready.cleared.zero;
        }

    module _ {next : List (List ℕ)} {work' : List ℕ} {answer : Compared} (compared : ComparedStates sizes nodes tests x work answer next work') where
      -- what emptying the next lists asks
      pub forget_ready : (count ≤ 1024) × BothMarking count next
      forget_ready = (count_small, subst (λ k. BothMarking k next) (sym count_is) compared.marking)

      -- what rule (d) asks
      pub next_ready : Indexed packets lefts rights count (length packets) trees × (Marking count (left_of next) × Marking count (right_of next) × (count ≤ 1024))
      next_ready = (ready.indexed, (forget_ready.1.left_marking, forget_ready.1.right_marking, count_small))

      module _ (L R : NodeLists) (both : BothLoaded sizes L R nodes tests) where
        abbrev S : System
        S = pair_system sizes (policies L R)

        abbrev T : Table (pair_system sizes (policies L R))
        T = table_of sizes (policies L R) packets lefts rights

        at_row : ComparedRow sizes L R (T.row i) answer next
        at_row = subst (λ (y : MaskRow). ComparedRow sizes L R (pair_row sizes L R y) answer next) is_row (compared.compared L R both)

        told_outputs : (s : Side) (γ : ℕ) → answer ≡ differs_at s γ → rule_c i ≡ check_row S T i
        unfolding check_row lowest_telling and_then broken_at
        told_outputs s γ e =
            ap (λ (o : Option ℕ). and_then (broken_at (λ γ. rule_c i) o) (broken_at (rule_d i) (lowest (breaks_d S T i) (product sizes))))
            (sym (differs_lowest sizes L R (T.row i) s γ (sym at_row.answers ∙ e)).0)

        next_is : (γ : ℕ) → γ < product sizes → next_missing packets lefts rights γ (get_or (left_of next) γ 0) (get_or (right_of next) γ 0) ≡ breaks_d S T i γ
        unfolding breaks_d
        next_is γ h = ap₂ (next_missing packets lefts rights γ) (at_row.left_next γ h) (at_row.right_next γ h) ∙ missing_is sizes L R packets lefts rights γ _ _

        told_next : answer ≡ Same → (s : Option ℕ) → s ≡ lowest (λ γ. next_missing packets lefts rights γ (get_or (left_of next) γ 0) (get_or (right_of next) γ 0)) count → broken_at (rule_d i) s ≡ check_row S T i
        unfolding check_row lowest_telling and_then broken_at
        told_next same s missing =
            ap₂ (λ (o p : Option ℕ). and_then (broken_at (λ γ. rule_c i) o) (broken_at (rule_d i) p))
            (sym (same_lowest sizes L R (T.row i) (sym at_row.answers ∙ same)))
            (missing ∙ lowest_agree _ _ count (product sizes) count_is next_is)

      outputs_differ : (s : Side) (γ : ℕ) → answer ≡ differs_at s γ → RowChecked sizes nodes tests packets lefts rights i work Outputs next work'
      unfolding row_told
      outputs_differ s γ e =
          record { told = λ L R b. told_outputs L R b s γ e; blank = λ k. absurd (not_keeps k); kept = compared.kept }
        where
          not_keeps : Outputs ≡ Keeps → ⊥
          not_keeps k = let y : ◌≡◌ {A = ℕ} 0 1 = cc in omega arith

      pub outputs_apart : ((γ : ℕ) × (answer ≡ Left γ)) ⊎ ((γ : ℕ) × (answer ≡ Right γ)) → RowChecked sizes nodes tests packets lefts rights i work Outputs next work'
      outputs_apart (inl p) = outputs_differ left p.0 p.1
      outputs_apart (inr p) = outputs_differ right p.0 p.1

      module _ (same : answer ≡ Same) {spot : Option ℕ} (missing : spot ≡ lowest (λ γ. next_missing packets lefts rights γ (get_or (left_of next) γ 0) (get_or (right_of next) γ 0)) count) where
        pub row_next : (γ : ℕ) → spot ≡ Some γ → RowChecked sizes nodes tests packets lefts rights i work (Next γ) next work'
        unfolding row_told broken_at
        row_next γ e = record { told = λ L R b. told_next L R b same (Some γ) (sym e ∙ missing); blank = λ k. absurd (not_keeps k); kept = compared.kept }
          where
            not_keeps : Next γ ≡ Keeps → ⊥
            not_keeps k = let y : ◌≡◌ {A = ℕ} 0 1 = cc in omega arith

        pub row_keeps : spot ≡ None → {next' : List (List ℕ)} → BothBlank next' → RowChecked sizes nodes tests packets lefts rights i work Keeps next' work'
        unfolding row_told broken_at
        row_keeps e blank = record { told = λ L R b. told_next L R b same None (sym e ∙ missing); blank = λ k. blank; kept = compared.kept }

-- ---- row by row

-- a row that breaks a rule ends the check
rows_end : (S : System) (T : Table S) (x : RulesAnswer) → ((y : RulesAnswer) → and_then x y ≡ x) → (i n : ℕ) → i < n → check_rows S T i ≡ accepted → x ≡ check_row S T i → check_rows S T n ≡ x
unfolding check_rows and_then
rows_end S T x ends i zero h keep e = absurd (not-suc-le-zero h)
rows_end S T x ends i (suc n) h keep e = go (last_or_before h) (λ l. rows_end S T x ends i n l keep e)
  where
    go : (i < n) ⊎ (i ≡ n) → (i < n → check_rows S T n ≡ x) → and_then (check_rows S T n) (check_row S T n) ≡ x
    go (inl l) ih = ap (λ (y : RulesAnswer). and_then y (check_row S T n)) (ih l) ∙ ends (check_row S T n)
    go (inr q) ih = ap₂ and_then (ap (check_rows S T) (sym q) ∙ keep) (ap (check_row S T) (sym q) ∙ sym e)

module _ (sizes : List ℕ) (L R : NodeLists) (packets lefts rights : List ℕ) where
  row_same : (j i : ℕ) → rows_agree (row_at packets lefts rights j) (row_at packets lefts rights i) ≡ true
      → (table_of sizes (policies L R) packets lefts rights).row j ≡ (table_of sizes (policies L R) packets lefts rights).row i
  unfolding rows_agree masks_agree
  row_same j i e =
      let both = and_true (eqb (get_or packets j 0) (get_or packets i 0)) (eqb (get_or lefts j 0) (get_or lefts i 0) && eqb (get_or rights j 0) (get_or rights i 0)) e in
      let states = and_true (eqb (get_or lefts j 0) (get_or lefts i 0)) (eqb (get_or rights j 0) (get_or rights i 0)) both.1 in
      let p : get_or packets j 0 ≡ get_or packets i 0 = eqb-true _ _ both.0 in
      let l : get_or lefts j 0 ≡ get_or lefts i 0 = eqb-true _ _ states.0 in
      let r : get_or rights j 0 ≡ get_or rights i 0 = eqb-true _ _ states.1 in
      λ k. record { packet = p k; state = record { left = l k; right = r k } }

-- the first i rows keep (c) and (d), whatever policies are loaded, and the next lists are empty
pub record RowsTo (sizes : List ℕ) (nodes tests : List (List ℕ)) (packets lefts rights work₀ work : List ℕ) (next : List (List ℕ)) (i : ℕ) : Type 0 where
  pub within : i ≤ length packets
  pub keep : (L R : NodeLists) → BothLoaded sizes L R nodes tests → check_rows (pair_system sizes (policies L R)) (table_of sizes (policies L R) packets lefts rights) i ≡ accepted
  pub blank : BothBlank next
  pub kept : work ≡ work₀

module _ {sizes : List ℕ} {nodes tests : List (List ℕ)} {packets lefts rights : List ℕ} where
  pub rows_none : {work : List ℕ} → RowsTo sizes nodes tests packets lefts rights work work (replicate 2 (replicate 1056 0)) 0
  unfolding check_rows
  rows_none = record { within = omega arith; keep = λ L R b. refl; blank = record { two = refl; left_blank = blank_new; right_blank = blank_new }; kept = refl }

  module _ {work₀ work : List ℕ} {next : List (List ℕ)} {i : ℕ} (to : RowsTo sizes nodes tests packets lefts rights work₀ work next i) where
    pub rows_ready : {count : ℕ} {trees : List ℕ} → TableReady sizes nodes tests packets lefts rights count trees work₀ → TableReady sizes nodes tests packets lefts rights count trees work
    rows_ready {count} {trees} = subst (TableReady sizes nodes tests packets lefts rights count trees) (sym to.kept)

    module _ (inside : i < length packets) {next' : List (List ℕ)} {work' : List ℕ} {answer : RowAnswer} (row : RowChecked sizes nodes tests packets lefts rights i work answer next' work') where
      pub rows_more : answer ≡ Keeps → RowsTo sizes nodes tests packets lefts rights work₀ work' next' (i + 1)
      unfolding row_told check_rows and_then
      rows_more e =
          record {
            within = omega arith;
            keep = λ L R b. ap (check_rows _ _) (add-one i) ∙ ap₂ and_then (to.keep L R b) (sym (ap (row_told i) (sym e) ∙ row.told L R b));
            blank = row.blank e;
            kept = row.kept ∙ to.kept;
          }

      -- a row that breaks a rule ends the check
      rows_broken : (x : RulesAnswer) → ((y : RulesAnswer) → and_then x y ≡ x) → row_told i answer ≡ x → RowsChecked sizes nodes tests packets lefts rights work₀ (as_evidence x) work'
      rows_broken x ends e =
          record { answers = λ L R b. sym (ap as_evidence (rows_end _ _ x ends i (length packets) inside (to.keep L R b) (sym e ∙ row.told L R b))); kept = row.kept ∙ to.kept }

      pub rows_outputs : answer ≡ Outputs → RowsChecked sizes nodes tests packets lefts rights work₀ (RuleC i) work'
      unfolding row_told as_evidence and_then
      rows_outputs e = rows_broken (rule_c i) (λ y. refl) (ap (row_told i) e)

      pub rows_next : (γ : ℕ) → answer ≡ Next γ → RowsChecked sizes nodes tests packets lefts rights work₀ (RuleD i γ) work'
      unfolding row_told as_evidence and_then
      rows_next γ e = rows_broken (rule_d i γ) (λ y. refl) (ap (row_told i) e)

    -- a repeat of a row that keeps (c) and (d)
    pub rows_repeat : i < length packets → Repeated packets lefts rights i → RowsTo sizes nodes tests packets lefts rights work₀ work next (i + 1)
    unfolding check_rows and_then
    rows_repeat inside q =
        record {
          within = omega arith;
          keep = λ L R b.
              ap (check_rows _ _) (add-one i)
              ∙ ap₂ and_then (to.keep L R b) (repeat_keeps _ _ i q.first q.before (row_same sizes L R packets lefts rights q.first i q.same) (to.keep L R b));
          blank = to.blank;
          kept = to.kept;
        }

    pub rows_all : length packets ≤ i → RowsChecked sizes nodes tests packets lefts rights work₀ Accepted work
    unfolding as_evidence
    rows_all h = record { answers = λ L R b. ap as_evidence (sym (to.keep L R b) ∙ ap (check_rows _ _) (le_antisymm to.within h)); kept = to.kept }
