-- The checker's steps over the node lists: the starting rows, the table.
-- Assumes nothing.
use Prim.Native.Nat.{ℕ, ◌/◌, ◌≤◌}
use native.Mathlib.Nat.{le_refl}
use native.Mathlib.Omega.{arith}
use mathlib.Core.List.{List, [], ◌∷◌}
use Rattle.std.specs.Prelude.{Option}
use mathlib.Core.Path.{◌≡◌, refl, sym, ◌∙◌, ap, ap₂, subst}
use lib.ListN.{length, get_or, replicate, length-replicate, get_or-replicate}
use Rattle.packet.specs.Lowest.{lowest}
use Rattle.packet.specs.Sizes.{product}
use Rattle.policy.specs.NodeLists.{NodeLists, node_count, dups_below}
use Rattle.system.specs.System.{System}
use Rattle.pair.specs.Sides.{policies}
use Rattle.pair.specs.Pair.{pair_system}
use Rattle.pair.specs.Rules.{Table, rule_a, rule_b, and_then, broken_at, breaks_a, breaks_b, check_rows, check_rules}
use Rattle.pair.specs.Evidence.{table_of, evidence_answer}
use Rattle.index.specs.Index.{Indexed}
use Rattle.index.proofs.Growth.{indexed_none}
use Rattle.compare.specs.Comparison.{LoadReady, BothLoaded}
use Rattle.compare.proofs.Comparing.{load_asks}
use Rattle.evidence.specs.declared.Evidence.{Evidence}
use Rattle.evidence.specs.declared.Evidence.TheVariants.{RuleA, RuleB}
use Rattle.row_rules.specs.Presence.{DupsFit, start_missing}
use Rattle.row_rules.proofs.Looking.{two_fit}
use Rattle.evidence.specs.Calls.{as_evidence}
use Rattle.evidence.specs.InnerSteps.{dups_of, StrayIs, LentTable, Cleared, Vacant, TableReady, RowsChecked, StartsChecked, TableChecked}
use Rattle.std.specs.Prelude.{Some, None}
use Rattle.evidence.proofs.Joining.{lowest_stray, packets_small, lowest_start}

-- the spot found, as the lowest of a test
found : {spot s : Option ℕ} {o p : Option ℕ} → spot ≡ o → o ≡ p → spot ≡ s → p ≡ s
found e f g = sym (e ∙ f) ∙ g

module _ (sizes : List ℕ) (L R : NodeLists) (packets lefts rights : List ℕ) where
  abbrev S : System
  S = pair_system sizes (policies L R)

  abbrev T : Table (pair_system sizes (policies L R))
  T = table_of sizes (policies L R) packets lefts rights

  -- ---- the starting rows

  module _ {count : ℕ} {work : List ℕ} (C : Cleared sizes L R packets lefts rights count work) where
    -- a list of 0 of this length can index the rows
    pub vacant : (k : ℕ) → 4096 ≤ k / 3 → length packets ≤ k / 3 → Vacant packets lefts rights count (replicate k 0)
    vacant k wide room =
        let n = C.lent.numbered in
        let e = C.lent.allowed.packet_count in
        let f = C.lent.allowed.legal.small in
        record {
          none = indexed_none packets lefts rights count k C.lent.table (omega arith) (omega arith);
          all = record { within = le_refl (length packets); room = subst (λ m. length packets ≤ m / 3) (sym (length-replicate {A = ℕ} k 0)) room; small = C.small.small };
        }

    pub load_ready : LoadReady sizes L R count (replicate 2 (replicate 576 0)) (replicate 2 (replicate 8224 0))
    load_ready = load_asks C.lent.allowed.legal C.lent.allowed.left_legal C.lent.allowed.right_legal C.lent.allowed.packet_count

    pub loaded_ready : {nodes tests : List (List ℕ)} {trees : List ℕ} → BothLoaded sizes L R nodes tests → Indexed packets lefts rights count (length packets) trees
        → TableReady sizes nodes tests packets lefts rights count trees work
    loaded_ready l I = record { lists = L; others = R; loaded = l; cleared = C; indexed = I }

    module _ {spot : Option ℕ} (missing : spot ≡ lowest (start_missing packets lefts rights) count) where
      start_is : {s : Option ℕ} → spot ≡ s → lowest (breaks_b S T) (product sizes) ≡ s
      start_is = found missing (lowest_start sizes L R packets lefts rights count C.lent.allowed.packet_count)

      pub starts_broken : (α : ℕ) → spot ≡ Some α → StartsChecked sizes L R packets lefts rights work (RuleB α) work
      unfolding as_evidence and_then broken_at
      starts_broken α e = record { answers = sym (ap (λ (o : Option ℕ). as_evidence (and_then (broken_at rule_b o) (check_rows S T (length packets)))) (start_is e)); kept = refl }

      pub starts_kept : spot ≡ None → {nodes tests : List (List ℕ)} → BothLoaded sizes L R nodes tests
          → {answer : Evidence} {work' : List ℕ} → RowsChecked sizes nodes tests packets lefts rights work answer work' → StartsChecked sizes L R packets lefts rights work answer work'
      unfolding and_then broken_at
      starts_kept e l rows =
          record {
            answers = rows.answers L R l ∙ sym (ap (λ (o : Option ℕ). as_evidence (and_then (broken_at rule_b o) (check_rows S T (length packets)))) (start_is e));
            kept = rows.kept;
          }

  -- ---- the table

  -- a state has room for a bit of each dup
  pub dups_few : {count : ℕ} {work : List ℕ} (lent : LentTable sizes L R packets lefts rights count work) {dl dr : ℕ} → dl ≡ dups_below L (node_count L) → dr ≡ dups_below R (node_count R)
      → {dups : List ℕ} → dups ≡ dl ∷ dr ∷ [] → DupsFit dups × (dups ≡ dups_of L R)
  dups_few lent {dl} {dr} el er e =
      let a = lent.allowed.left_legal.well_formed.dups in
      let b = lent.allowed.right_legal.well_formed.dups in
      (subst DupsFit (sym e) (two_fit {l = dl} {r = dr} (omega arith) (omega arith)), e ∙ ap₂ (λ (x y : ℕ). x ∷ y ∷ []) el er)

  module _ {count : ℕ} {work clear : List ℕ} (lent : LentTable sizes L R packets lefts rights count work) (isClear : clear ≡ replicate (length work) 0)
      {spot : Option ℕ} (stray : StrayIs L R packets lefts rights count spot) where
    stray_is : {s : Option ℕ} → spot ≡ s → lowest (breaks_a S T) (length packets) ≡ s
    stray_is = found stray.first (lowest_stray sizes L R packets lefts rights count lent.allowed.packet_count)

    pub table_broken : (i : ℕ) → spot ≡ Some i → TableChecked sizes L R packets lefts rights work (RuleA i) clear
    unfolding as_evidence evidence_answer check_rules and_then broken_at
    table_broken i e =
        record {
          answers = sym (ap (λ (o : Option ℕ). as_evidence (and_then (broken_at rule_a o) (and_then (broken_at rule_b (lowest (breaks_b S T) (product sizes))) (check_rows S T (length packets))))) (stray_is e));
          cleared = isClear;
        }

    pub table_cleared : spot ≡ None → Cleared sizes L R packets lefts rights count clear
    table_cleared e =
        record {
          lent = record { allowed = lent.allowed; table = lent.table; numbered = lent.numbered; long = subst (λ (n : ℕ). 16384 ≤ n) (sym (ap length isClear ∙ length-replicate (length work) 0)) lent.long };
          small = packets_small sizes L R packets lefts rights count lent.allowed.packet_count (sym stray.first ∙ e);
          zero = λ i h. ap (λ (w : List ℕ). get_or w i 0) isClear ∙ get_or-replicate (length work) i 0 0 (omega (arith, lent.long));
        }

    pub table_kept : spot ≡ None → {answer : Evidence} {work' : List ℕ} → StartsChecked sizes L R packets lefts rights clear answer work' → TableChecked sizes L R packets lefts rights work answer work'
    unfolding evidence_answer check_rules and_then broken_at
    table_kept e starts =
        record {
          answers =
              starts.answers
              ∙ sym (ap (λ (o : Option ℕ). as_evidence (and_then (broken_at rule_a o) (and_then (broken_at rule_b (lowest (breaks_b S T) (product sizes))) (check_rows S T (length packets))))) (stray_is e));
          cleared = starts.kept ∙ isClear;
        }
