-- What an answer says of its row, and of a run of the row order.
-- Assumes nothing.
use Prim.Native.Nat.{ℕ, ◌<◌}
use mathlib.Core.Bool.{false}
use mathlib.Core.List.{List}
use mathlib.Core.Logic.{◌↔◌}
use Rattle.std.specs.Prelude.{Option, None, Some}
use mathlib.Core.Path.{◌≡◌, refl, sym, ap, ◌∙◌, subst}
use native.Mathlib.Omega.{arith}
use lib.ListN.{length}
use Rattle.packet.specs.Sizes.{product}
use Rattle.packet.proofs.Lowest.{Found, lowest_is, lowest_none, none_lowest}
use Rattle.policy.specs.NodeLists.{NodeLists}
use Rattle.system.specs.System.{System, Row, tells}
use Rattle.system.specs.RowOrder.{lowest_telling, Run, current, turn, telling, handling}
use Rattle.system.proofs.Runs.{turn_telling, turn_row}
use Rattle.pair.specs.Sides.{Side, left, right, policies}
use Rattle.pair.specs.Pair.{pair_system}
use Rattle.pair.specs.Search.{side_of}
use Rattle.compare.specs.declared.Compared.TheVariants.{Same}
use Rattle.compare.specs.Comparison.{differs_at, compared_of, answer_at}

differs_same : (s t : Side) (γ δ : ℕ) → differs_at t δ ≡ differs_at s γ → (δ ≡ γ) × (t ≡ s)
differs_same left left γ δ e = (cc, refl)
differs_same left right γ δ e = absurd (let y : ◌≡◌ {A = ℕ} 0 1 = cc in omega arith)
differs_same right left γ δ e = absurd (let y : ◌≡◌ {A = ℕ} 0 1 = cc in omega arith)
differs_same right right γ δ e = (cc, refl)

differs_not_same : (s : Side) (γ : ℕ) → differs_at s γ ≡ Same → ⊥
differs_not_same left γ e = let y : ◌≡◌ {A = ℕ} 0 1 = cc in omega arith
differs_not_same right γ e = let y : ◌≡◌ {A = ℕ} 0 1 = cc in omega arith

module _ (side : ℕ → Side) where
  none_same : (o : Option ℕ) → compared_of side o ≡ Same → o ≡ None
  unfolding compared_of
  none_same None e = refl
  none_same (Some γ) e = absurd (differs_not_same (side γ) γ e)

  some_differs : (s : Side) (γ : ℕ) (o : Option ℕ) → compared_of side o ≡ differs_at s γ → (o ≡ Some γ) × (side γ ≡ s)
  unfolding compared_of
  some_differs s γ None e = absurd (differs_not_same s γ (sym e))
  some_differs s γ (Some δ) e = let h = differs_same s (side δ) γ δ e in (ap Some h.0, ap side (sym h.0) ∙ h.1)

module _ (sizes : List ℕ) (L R : NodeLists) where
  abbrev S : System
  S = pair_system sizes (policies L R)

  module _ (row : Row (pair_system sizes (policies L R))) where
    -- the same outputs: no packet tells
    pub same_lowest : answer_at sizes L R row ≡ Same → lowest_telling S row ≡ None
    unfolding answer_at
    same_lowest = none_same (side_of sizes (policies L R) row) (lowest_telling S row)

    -- the answer's packet is the lowest that tells, and its side has it
    pub differs_lowest : (s : Side) (γ : ℕ) → answer_at sizes L R row ≡ differs_at s γ → (lowest_telling S row ≡ Some γ) × (side_of sizes (policies L R) row γ ≡ s)
    unfolding answer_at
    differs_lowest s γ = some_differs (side_of sizes (policies L R) row) s γ (lowest_telling S row)

    pub same_iff : (answer_at sizes L R row ≡ Same) ↔ ((γ : ℕ) → γ < product sizes → tells S row γ ≡ false)
    unfolding answer_at lowest_telling compared_of
    same_iff = (λ e. lowest_none (tells S row) (product sizes) (same_lowest e), λ f. ap (compared_of (side_of sizes (policies L R) row)) (none_lowest (tells S row) (product sizes) f))

  -- a run's row, compared
  module _ (x : Run (pair_system sizes (policies L R))) (left_over : x.handled < length x.rows) where
    pub same_turn : answer_at sizes L R (current S x) ≡ Same → turn S x ≡ handling
    same_turn e = turn_row S x left_over ((same_iff (current S x)).0 e)

    pub differs_turn : (s : Side) (γ : ℕ) → answer_at sizes L R (current S x) ≡ differs_at s γ → turn S x ≡ telling γ
    unfolding lowest_telling
    differs_turn s γ e =
        turn_telling S x γ left_over
        (subst (Found (tells S (current S x)) (product sizes)) (differs_lowest (current S x) s γ e).0 (lowest_is (tells S (current S x)) (product sizes)))
