-- Records whose columns were read: what the checks ask of them, and that their columns are checked.
-- Assumes nothing.
use Prim.Native.Nat.{ℕ, ◌≤◌}
use native.Mathlib.Omega.{arith}
use mathlib.Core.Bool.{true≢false}
use mathlib.Core.List.{List, [], ◌∷◌}
use mathlib.Core.Path.{◌≡◌, refl, sym, ◌∙◌, ap, ap₂, subst}
use lib.ListN.{length, get_or, take}
use lib.Seq.{length-take-le}
use Rattle.packet.specs.Lowest.{lowest}
use Rattle.packet.specs.declared.Refusal.{Refusal}
use Rattle.packet.specs.Refusals.{Tested}
use Rattle.std.specs.Prelude.{Ok, Err}
use Rattle.fields.specs.Tables.{Table}
use Rattle.policy.specs.NodeLists.{NodeLists}
use Rattle.policy.specs.Order.{pair_tests}
use Rattle.legality.specs.declared.LegalCall.{LegalCall as Found}
use Rattle.legality.specs.Answers.{front_tests, FrontOf}
use Rattle.lent_lists.specs.LentLists.{lists_stage, lent_tests}
use Rattle.lent_lists.proofs.Testing.{front_as, tests_passed, pair_lent, lent_pair}
use Rattle.std.specs.Prelude.{Option}
use Rattle.row_rules.specs.Presence.{strays, before}
use Rattle.row_rules.proofs.Looking.{before_or_end}
use Rattle.evidence.specs.declared.Evidence.{Evidence}
use Rattle.evidence.specs.declared.Evidence.TheVariants.{Refused as NotChecked}
use Rattle.evidence.specs.InnerSteps.{dups_of, StrayIs, LentTable, TableChecked, BoundsOf, ReadTable, ReadChecked}
use Rattle.evidence.proofs.Answering.{lists_pass, three_passed, refused, lent, table_answered}

-- ---- the bounds

module _ (ts : List Table) (L R : NodeLists) (rows : ℕ) {said : Tested} (lists : said ≡ lists_stage (rows ∷ rows ∷ rows ∷ []) 16384) where
  bounds_tests : front_tests ts 1 L R said ≡ lent_tests ts L R (lists_stage (rows ∷ rows ∷ rows ∷ []) 16384)
  bounds_tests = ap (front_tests ts 1 L R) lists ∙ front_as ts L R _

  -- what passes with a work list that is long enough passes but for the records' number
  pub bounds_none : {r : Refusal} → front_tests ts 1 L R said ≡ Err r → BoundsOf ts L R rows (record { rows = 0; count = 0; left_dups = 0; right_dups = 0 })
  bounds_none {r} e =
      record { few = omega arith; within = omega arith; fit = (omega arith, omega arith); passed = λ p few. absurd (not_both (sym (bounds_pass p few) ∙ e)) }
    where
      bounds_pass : pair_tests ts L R ≡ Ok tt → rows ≤ 65535 → front_tests ts 1 L R said ≡ Ok tt
      bounds_pass p few = bounds_tests ∙ pair_lent ts L R _ p (lists_pass rows 16384 few (omega arith))

      not_both : ◌≡◌ {A = Tested} (Ok tt) (Err r) → ⊥
      not_both h = true≢false (cc)

  pub bounds_all : {F : Found} → FrontOf ts 1 L R said (Ok F) → {dups : List ℕ} → dups ≡ F.left_dups ∷ F.right_dups ∷ []
      → BoundsOf ts L R rows (record { rows = rows; count = F.packets; left_dups = get_or dups 0 0; right_dups = get_or dups 1 0 })
  bounds_all {F} front d =
      let h = tests_passed ts L R _ (sym bounds_tests ∙ front.0) in
      let n = three_passed _ _ _ _ h.passed in
      let a = h.left_legal.well_formed.dups in
      let b = h.right_legal.well_formed.dups in
      let l = front.1.left_dups in
      let r = front.1.right_dups in
      subst (λ (ds : List ℕ). BoundsOf ts L R rows (record { rows = rows; count = F.packets; left_dups = get_or ds 0 0; right_dups = get_or ds 1 0 })) (sym d)
      record { few = n.2; within = omega arith; fit = (omega arith, omega arith); passed = λ p few. (refl, front.1.packets, ap₂ (λ (x y : ℕ). x ∷ y ∷ []) l r) }

-- ---- the check

module _ (ts : List Table) (L R : NodeLists) (packets lefts rights : List ℕ) (rows : ℕ) (work : List ℕ)
    {said : Tested} (lists : said ≡ lists_stage (rows ∷ rows ∷ rows ∷ []) (length work)) where
  -- the same of columns of that length
  of_columns : (P Q S : List ℕ) → length P ≡ rows → length Q ≡ rows → length S ≡ rows → said ≡ lists_stage (length P ∷ length Q ∷ length S ∷ []) (length work)
  of_columns P Q S a b c = lists ∙ sym (rw (a, b, c) refl)

  pub read_refused : {r : Refusal} → front_tests ts 1 L R said ≡ Err r → ReadChecked ts L R packets lefts rights rows work (NotChecked r) work
  read_refused e = record { columns = λ P Q S a b c f. refused ts L R P Q S work (of_columns P Q S a b c) e }

  module _ {stray : ℕ} (T : ReadTable ts L R packets lefts rights rows stray) {F : Found} (front : FrontOf ts 1 L R said (Ok F)) where
    lent_passed : lent_tests ts L R (lists_stage (rows ∷ rows ∷ rows ∷ []) (length work)) ≡ Ok tt
    lent_passed = sym (ap (front_tests ts 1 L R) lists ∙ front_as ts L R _) ∙ front.0

    pub read_few : rows ≤ 65535
    read_few = let h = tests_passed ts L R _ lent_passed in (three_passed _ _ _ _ h.passed).2

    pairs_passed : pair_tests ts L R ≡ Ok tt
    pairs_passed = lent_pair ts L R _ lent_passed

    pub read_long : (rows ≤ length packets) × (rows ≤ length lefts) × (rows ≤ length rights)
    read_long = T.long read_few

    taken : (length (take rows packets) ≡ rows) × (length (take rows lefts) ≡ rows) × (length (take rows rights) ≡ rows)
    taken = (length-take-le rows packets read_long.0, length-take-le rows lefts read_long.1, length-take-le rows rights read_long.2)

    pub read_asks : {spot : Option ℕ} → spot ≡ before rows stray
        → LentTable (take F.count F.core) L R (take rows packets) (take rows lefts) (take rows rights) F.packets work × StrayIs L R (take rows packets) (take rows lefts) (take rows rights) F.packets spot
    read_asks {spot} e = (subst (λ (s : List ℕ). LentTable s L R (take rows packets) (take rows lefts) (take rows rights) F.packets work) (sym front.1.core) (lent ts L R (take rows packets) (take rows lefts) (take rows rights) work (of_columns (take rows packets) (take rows lefts) (take rows rights) taken.0 taken.1 taken.2) front), record { first = e ∙ first })
      where
        first : before rows stray ≡ lowest (strays (take rows packets) (take rows lefts) (take rows rights) F.packets (dups_of L R)) (length (take rows packets))
        first =
            ap (before rows) (T.first pairs_passed read_few)
            ∙ before_or_end _ rows
            ∙ ap₂ (λ (c n : ℕ). lowest (strays (take rows packets) (take rows lefts) (take rows rights) c (dups_of L R)) n) (sym front.1.packets) (sym taken.0)

    pub read_answered : {answer : Evidence} {work' : List ℕ} → TableChecked (take F.count F.core) L R (take rows packets) (take rows lefts) (take rows rights) work answer work' → ReadChecked ts L R packets lefts rights rows work answer work'
    read_answered {answer} {work'} t = record {
      columns = λ P Q S a b c f.
          let g = f pairs_passed read_few in
          table_answered ts L R P Q S work (of_columns P Q S a b c) front answer work'
          (subst (λ (x : List ℕ). TableChecked (take F.count F.core) L R P Q x work answer work') g.2
          (subst (λ (x : List ℕ). TableChecked (take F.count F.core) L R P x (take rows rights) work answer work') g.1
          (subst (λ (x : List ℕ). TableChecked (take F.count F.core) L R x (take rows lefts) (take rows rights) work answer work') g.0 t)));
    }
