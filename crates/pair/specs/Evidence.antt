-- The evidence checker's answer: the row rules for two policies and a table in three columns (document 01, "Row rules for evidence").
use Rattle.std.specs.Prelude.{ℕ, suc, ◌^◌, ◌<◌, List, ◌⊎◌, ◌≡◌, length, get_or}
use Rattle.packet.specs.Sizes.{product}
use Rattle.automaton.specs.State.{output_mask, next_mask}
use Rattle.pair.specs.Sides.{Pair, NumberedPolicy}
use Rattle.pair.specs.Pair.{pair_system}
use Rattle.pair.specs.Rules.{Table, RulesAnswer, check_rules}

-- the row stands in the table of three columns
pub record InTable (packets lefts rights : List ℕ) (α l r : ℕ) : Type 0 where
  pub place : ℕ
  pub inside : place < length packets
  pub packet : get_or packets place 0 ≡ α
  pub left : get_or lefts place 0 ≡ l
  pub right : get_or rights place 0 ≡ r

module _ (sizes : List ℕ) (ps : Pair NumberedPolicy) where
  -- row i is the i-th packet, left state and right state; parents play no part
  abbrev pub table_of : List ℕ → List ℕ → List ℕ → Table (pair_system sizes ps)
  table_of packets lefts rights =
      record {
        count = length packets;
        row = λ i. record { packet = get_or packets i 0; state = record { left = get_or lefts i 0; right = get_or rights i 0 } };
      }

  unfoldable pub evidence_answer : List ℕ → List ℕ → List ℕ → RulesAnswer
  evidence_answer packets lefts rights = check_rules (pair_system sizes ps) (table_of packets lefts rights)

  -- The four row rules in document 01's words.
  pub record RowRules (packets lefts rights : List ℕ) : Type 0 where
    -- (a) each packet is below N, each mask has only bits 0 to that policy's number of dups
    pub a : (i : ℕ) → i < length packets
        → (get_or packets i 0 < product sizes) × (get_or lefts i 0 < 2 ^ suc ps.left.dups) × (get_or rights i 0 < 2 ^ suc ps.right.dups)
    -- (b) every (α, 1, 1) is present
    pub b : (α : ℕ) → α < product sizes → InTable packets lefts rights α 1 1
    -- (c) in each row the outputs are equal
    pub c : (i : ℕ) → i < length packets
        → output_mask sizes ps.left.tree (get_or lefts i 0) (get_or packets i 0) ≡ output_mask sizes ps.right.tree (get_or rights i 0) (get_or packets i 0)
    -- (d) in each row, for each γ, the next row is present or has both states 0
    pub d : (i : ℕ) → i < length packets → (γ : ℕ) → γ < product sizes
        → InTable packets lefts rights γ (next_mask sizes ps.left.tree ps.left.dups (get_or lefts i 0) (get_or packets i 0) γ) (next_mask sizes ps.right.tree ps.right.dups (get_or rights i 0) (get_or packets i 0) γ)
        ⊎ ((next_mask sizes ps.left.tree ps.left.dups (get_or lefts i 0) (get_or packets i 0) γ ≡ 0) × (next_mask sizes ps.right.tree ps.right.dups (get_or rights i 0) (get_or packets i 0) γ ≡ 0))
