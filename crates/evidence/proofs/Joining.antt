-- The tests of the columns are the row rules of the two policies.
-- Assumes nothing.
use Prim.Native.Nat.{ℕ, zero, suc, ◌<◌}
use native.Mathlib.Nat.{le_refl}
use native.Mathlib.Omega.{arith}
use mathlib.Core.Bool.{Bool, not, ◌||◌}
use mathlib.Core.List.{List}
use Rattle.std.specs.Prelude.{None}
use mathlib.Core.Path.{◌≡◌, refl, ◌∙◌, ap, ap₂}
use lib.ListN.{length}
use borrow.Author.Tests.{ltb-true, not-false}
use Rattle.packet.specs.Lowest.{lowest}
use Rattle.packet.specs.Sizes.{product}
use Rattle.packet.proofs.Lowest.{lowest_none, lowest_same}
use Rattle.packet.proofs.Tests.{and_true}
use Rattle.policy.specs.NodeLists.{NodeLists}
use Rattle.automaton.specs.State.{any_below}
use Rattle.system.specs.System.{System, Row}
use Rattle.system.specs.RowOrder as order
use Rattle.pair.specs.Sides.{at, on_both, policies}
use Rattle.pair.specs.Pair as pair
use Rattle.pair.specs.Pair.{both_zero, bits_of_dups, pair_system}
use Rattle.pair.specs.Rules.{Table, present, breaks_a, breaks_b}
use Rattle.pair.specs.Evidence.{table_of}
use Rattle.index.specs.Columns.{Small, row_at, masks_agree, rows_agree, listed_below}
use Rattle.evidence.specs.InnerSteps.{dups_of}
use Rattle.row_rules.specs.Presence.{mask_row, states_in_range, row_in_range, zero_states, in_columns, strays, start_missing, next_missing}

-- tests that agree below n find the same
pub lowest_agree : (test other : ℕ → Bool) (n m : ℕ) → n ≡ m → ((i : ℕ) → i < m → test i ≡ other i) → lowest test n ≡ lowest other m
lowest_agree test other n m e same = ap (lowest test) e ∙ lowest_same test other m m (le_refl m) same (λ i g h. absurd (omega (arith, g, h)))

module _ (sizes : List ℕ) (L R : NodeLists) (packets lefts rights : List ℕ) where
  abbrev S : System
  S = pair_system sizes (policies L R)

  abbrev T : Table (pair_system sizes (policies L R))
  T = table_of sizes (policies L R) packets lefts rights

  abbrev row_of : ℕ → ℕ → ℕ → Row (pair_system sizes (policies L R))
  row_of α l r = record { packet = α; state = record { left = l; right = r } }

  scan_is : (n α l r : ℕ) → listed_below (row_at packets lefts rights) n (mask_row α l r) ≡ any_below n (λ i. order.same_row S (T.row i) (row_of α l r))
  unfolding listed_below any_below order.same_row rows_agree masks_agree pair.same_states on_both at
  scan_is zero α l r = refl
  scan_is (suc n) α l r = ap₂ ◌||◌ (scan_is n α l r) refl

  -- a row of the columns is present in the table
  pub columns_present : (α l r : ℕ) → in_columns packets lefts rights α l r ≡ present S T (row_of α l r)
  unfolding in_columns present
  columns_present = scan_is (length packets)

  -- rule (a)
  module _ (count : ℕ) (n : count ≡ product sizes) where
    strays_is : (i : ℕ) → strays packets lefts rights count (dups_of L R) i ≡ breaks_a S T i
    unfolding strays row_in_range states_in_range breaks_a bits_of_dups on_both at
    strays_is i = rw n refl

    pub lowest_stray : lowest (strays packets lefts rights count (dups_of L R)) (length packets) ≡ lowest (breaks_a S T) (length packets)
    lowest_stray = lowest_agree _ _ (length packets) (length packets) refl (λ i h. strays_is i)

    -- where rule (a) is kept, each packet is below N
    pub packets_small : lowest (strays packets lefts rights count (dups_of L R)) (length packets) ≡ None → Small packets count
    unfolding strays row_in_range
    packets_small e = record { small = λ i h. ltb-true _ _ (and_true _ _ (not-false _ (lowest_none _ _ e i h))).0 }

  -- rule (b)
  pub lowest_start : (count : ℕ) → count ≡ product sizes → lowest (start_missing packets lefts rights) count ≡ lowest (breaks_b S T) (product sizes)
  unfolding start_missing breaks_b
  lowest_start count e = lowest_agree _ _ count (product sizes) e (λ α h. ap not (columns_present α 1 1))

  -- rule (d)
  pub missing_is : (γ l r : ℕ) → next_missing packets lefts rights γ l r ≡ not (both_zero sizes (policies L R) (record { left = l; right = r }) || present S T (row_of γ l r))
  unfolding next_missing zero_states both_zero on_both at
  missing_is γ l r = ap (λ (b : Bool). not (zero_states l r || b)) (columns_present γ l r)
