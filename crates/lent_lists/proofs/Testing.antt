-- The causes up to 10: the tests as they were made, and what holds where they pass. Assumes nothing.
use Prim.Native.Nat.{ℕ, suc, ◌<◌, ◌≤◌}
use native.Mathlib.Omega.{arith}
use mathlib.Core.Bool.{Bool, true, false, ◌||◌, not}
use mathlib.Core.List.{List, [], ◌∷◌}
use mathlib.Core.Path.{◌≡◌, refl, ap, ◌∙◌}
use lib.Dec.{ltb}
use borrow.Author.Tests.{ltb-false, lt-ltb, le-ltb, eqb-true, eq-eqb, ne_eqb, not-false}
use lib.ListN.{length, get_or, drop, drop_of_length-le}
use lib.Seq.{drop-cons}
use Rattle.packet.specs.Refusals.{Tested}
use Rattle.std.specs.Prelude.{Ok, Err}
use Rattle.packet.specs.Refusals.{refusal, refused_at, at_place, at_zero}
use Rattle.packet.specs.Sizes.{LegalSizes}
use Rattle.packet.proofs.Stages.{refused_at_passed, at_place_none}
use Rattle.packet.proofs.Tests.{or_false}
use Rattle.fields.specs.Tables.{Table}
use Rattle.policy.specs.Order.{pair_of, pair_tests, pair_core}
use Rattle.classes.proofs.Pairs.{LegalPair, passing_pair, OnClasses, left_named, right_named}
use Rattle.pair.specs.Sides.{Side, left, right, at, policies}
use Rattle.legality.specs.Answers.{front_tests}
use Rattle.policy.specs.InnerEach.{Each}
use Rattle.policy.specs.Legality.{Legal}
use Rattle.policy.specs.NodeLists.{NodeLists}
use Rattle.policy.proofs.OrderLaws.{passing, sizes_legal, policies_legal, still_passing}
use Rattle.lent_lists.specs.LentLists.{misfit, rows_misfit, lists_stage, lent_tests}

-- ---- cause 10

module _ (n : ℕ) (ms : List ℕ) where
  -- the lists from the i-th on decide
  pub misfit_here : (i : ℕ) → i < length ms → (get_or ms i 0 ≡ n → ⊥) → misfit n (drop i ms) ≡ true
  unfolding misfit
  misfit_here i h d = ap (misfit n) (drop-cons ms i 0 h) ∙ ap (λ (b : Bool). not b || misfit n (drop (suc i) ms)) (ne_eqb (get_or ms i 0) n d)

  pub misfit_on : (i : ℕ) → i < length ms → get_or ms i 0 ≡ n → misfit n (drop i ms) ≡ misfit n (drop (suc i) ms)
  unfolding misfit
  misfit_on i h e = ap (misfit n) (drop-cons ms i 0 h) ∙ ap (λ (b : Bool). not b || misfit n (drop (suc i) ms)) (eq-eqb (get_or ms i 0) n e)

  pub misfit_end : (i : ℕ) → length ms ≤ i → misfit n (drop i ms) ≡ ltb 65535 n
  unfolding misfit
  misfit_end i h = ap (misfit n) (drop_of_length-le ms h)

pub no_rows : (rows : List ℕ) → length rows ≡ 0 → false ≡ rows_misfit rows
unfolding rows_misfit
no_rows [] e = refl
no_rows (n ∷ ms) e = absurd (omega arith)

module _ (rows : List ℕ) (work : ℕ) where
  pub stage_misfit : rows_misfit rows ≡ true → lists_stage rows work ≡ Err (refusal 10 0 0)
  unfolding lists_stage refused_at at_place
  stage_misfit e = rw e refl

  pub stage_short : rows_misfit rows ≡ false → work < 16384 → lists_stage rows work ≡ Err (refusal 10 0 0)
  unfolding lists_stage refused_at at_place
  stage_short e h = rw (e, lt-ltb work 16384 h) refl

  pub stage_passes : rows_misfit rows ≡ false → 16384 ≤ work → lists_stage rows work ≡ Ok tt
  unfolding lists_stage refused_at at_place
  stage_passes e h = rw (e, le-ltb work 16384 h) refl

-- ---- the causes up to 10

-- each side's policy names values that are alone in their classes
pub side_named : (ts : List Table) (L R : NodeLists) → LegalPair ts L R → (s : Side) → OnClasses ts L R (at s (policies L R)).tree
unfolding at
side_named ts L R g left = left_named ts L R g
side_named ts L R g right = right_named ts L R g

module _ (ts : List Table) (L R : NodeLists) (lists : Tested) where
  -- the front's tests are those of the call
  pub front_as : front_tests ts 1 L R lists ≡ lent_tests ts L R lists
  unfolding lent_tests
  front_as = refl

  -- what holds where the causes before 10 pass
  pub record LegalCall : Type 0 where
    pub legal_sizes : LegalSizes (pair_core ts L R)
    pub left_legal : Legal (pair_core ts L R) L
    pub right_legal : Legal (pair_core ts L R) R
    pub pair : LegalPair ts L R
    pub passed : lists ≡ Ok tt

  pub tests_passed : lent_tests ts L R lists ≡ Ok tt → LegalCall
  unfolding lent_tests Each
  tests_passed e =
      let h = passing _ _ _ _ _ e in
      let g = policies_legal _ _ _ _ _ h in
      record { legal_sizes = sizes_legal _ _ _ _ _ h; left_legal = g.0; right_legal = g.1.0; pair = passing_pair ts L R _ _ _ h; passed = h.lists_pass }

  -- two policies that the causes before 10 let pass, and lists that 10 lets pass
  pub pair_lent : pair_tests ts L R ≡ Ok tt → lists ≡ Ok tt → lent_tests ts L R lists ≡ Ok tt
  unfolding pair_tests lent_tests
  pair_lent e h = still_passing ts (pair_of L R) _ _ _ e refl h refl

  pub lent_pair : lent_tests ts L R lists ≡ Ok tt → pair_tests ts L R ≡ Ok tt
  unfolding pair_tests lent_tests
  lent_pair e = still_passing ts (pair_of L R) _ _ _ e refl refl refl

-- ---- stage "lists"

-- the work list is long enough, and nothing is wrong with the row lists
pub lists_passed : (rows : List ℕ) (work : ℕ) → lists_stage rows work ≡ Ok tt → (rows_misfit rows ≡ false) × (16384 ≤ work)
unfolding lists_stage
lists_passed rows work e =
    let h = or_false _ _ (at_place_none 0 _ (refused_at_passed 10 0 _ e)) in
    (h.0, ltb-false work 16384 h.1)

-- a row list has the length of the first
pub row_list_fits : (n m : ℕ) (ms : List ℕ) → misfit n (m ∷ ms) ≡ false → (m ≡ n) × (misfit n ms ≡ false)
unfolding misfit
row_list_fits n m ms e = let h = or_false _ _ e in (eqb-true m n (not-false _ h.0), h.1)

pub rows_few : (n : ℕ) → misfit n [] ≡ false → n ≤ 65535
unfolding misfit
rows_few n e = ltb-false 65535 n e

-- with no row list the length of the work list decides
pub work_passes : (work : ℕ) → 16384 ≤ work → lists_stage [] work ≡ Ok tt
unfolding lists_stage rows_misfit refused_at at_place
work_passes work h = ap (λ (b : Bool). refused_at 10 0 (at_zero b)) (le-ltb work 16384 h)
