-- Output, next and the row rules in document 01's words: by one-packet traces of marked remainders and by `Reaches`, with no set worked out.
-- The laws of `proofs/ByTraces.antt` say that the row order and the row rules are these.
use Rattle.std.specs.Prelude.{ℕ, ◌<◌, ◌≤◌, true, List, [], ◌∷◌, ◌⊎◌, ◌↔◌, ◌≡◌, T, length, get_or}
use Rattle.packet.specs.Sizes.{product}
use Rattle.policy.specs.Meaning.{numbered, Traces}
use Rattle.packet_set.specs.Bits.{bit}
use Rattle.automaton.specs.Reaches.{Reaches}
use Rattle.automaton.specs.Remainder.{remainder}
use Rattle.system.specs.System.{Row, next_row, tells}
use Rattle.pair.specs.Sides.{Side, left, right, other, Pair, at, NumberedPolicy}
use Rattle.pair.specs.Pair.{both_zero, pair_system}
use Rattle.pair.specs.Evidence.{InTable}

module _ (sizes : List ℕ) (ps : Pair NumberedPolicy) where
  -- γ is a one-packet trace, from β, of some remainder that the side's state m marks
  unfoldable pub Outputs : Side → ℕ → ℕ → ℕ → Type 0
  Outputs s m β γ = (i : ℕ) × T (bit m i) × Traces (numbered sizes) (remainder (at s ps).tree i) β (γ ∷ [])

  -- some remainder that the side's state m marks reaches dup i, from β, with packet γ before any other dup
  unfoldable pub ReachesDup : Side → ℕ → ℕ → ℕ → ℕ → Type 0
  ReachesDup s m β γ i = (j : ℕ) × T (bit m j) × Reaches (numbered sizes) (remainder (at s ps).tree j) i β γ

  -- n is the side's state next at γ: it marks each dup so reached, and nothing else
  unfoldable pub IsNext : Side → ℕ → ℕ → ℕ → ℕ → Type 0
  IsNext s m β γ n = (i : ℕ) → T (bit n i) ↔ ReachesDup s m β γ i

  -- packet γ is in exactly one of the two outputs, that of side s
  unfoldable pub OnlyOutputs : Side → Pair ℕ → ℕ → ℕ → Type 0
  OnlyOutputs s m β γ = Outputs s (at s m) β γ × (Outputs (other s) (at (other s) m) β γ → ⊥)

  -- What handling a row of the row order looks at.
  pub record RowByTraces (r : Row (pair_system sizes ps)) : Type 0 where
    -- the packets that tell are those in exactly one of the two outputs
    pub telling : (γ : ℕ) → (tells (pair_system sizes ps) r γ ≡ true) ↔ ((s : Side) × OnlyOutputs s r.state r.packet γ)
    -- the row appended at γ has packet γ and the two states next at γ
    pub packet : (γ : ℕ) → (next_row (pair_system sizes ps) r γ).packet ≡ γ
    pub next : (s : Side) (γ : ℕ) → IsNext s (at s r.state) r.packet γ (at s (next_row (pair_system sizes ps) r γ).state)
    -- "unless both states are 0"
    pub zeros : (γ : ℕ) → (both_zero sizes ps (next_row (pair_system sizes ps) r γ).state ≡ true) ↔ ((s : Side) → IsNext s (at s r.state) r.packet γ 0)

  -- the mask has only bits 0 to the side's number of dups
  unfoldable pub OnlyDups : Side → ℕ → Type 0
  OnlyDups s m = (i : ℕ) → T (bit m i) → i ≤ (at s ps).dups

  module _ (packets lefts rights : List ℕ) where
    -- the row next of row i at γ stands in the table
    pub record NextStands (i γ : ℕ) : Type 0 where
      pub place : ℕ
      pub inside : place < length packets
      pub packet : get_or packets place 0 ≡ γ
      pub left : IsNext left (get_or lefts i 0) (get_or packets i 0) γ (get_or lefts place 0)
      pub right : IsNext right (get_or rights i 0) (get_or packets i 0) γ (get_or rights place 0)

    -- the row next of row i at γ has both states 0
    unfoldable pub NextZero : ℕ → ℕ → Type 0
    NextZero i γ = IsNext left (get_or lefts i 0) (get_or packets i 0) γ 0 × IsNext right (get_or rights i 0) (get_or packets i 0) γ 0

    -- The four row rules by traces.
    pub record RulesByTraces : Type 0 where
      -- (a) each packet is below N, each mask has only bits 0 to that policy's number of dups
      pub a : (i : ℕ) → i < length packets → (get_or packets i 0 < product sizes) × OnlyDups left (get_or lefts i 0) × OnlyDups right (get_or rights i 0)
      -- (b) every (α, 1, 1) is present
      pub b : (α : ℕ) → α < product sizes → InTable packets lefts rights α 1 1
      -- (c) in each row the outputs are equal
      pub c : (i : ℕ) → i < length packets → (γ : ℕ) → Outputs left (get_or lefts i 0) (get_or packets i 0) γ ↔ Outputs right (get_or rights i 0) (get_or packets i 0) γ
      -- (d) in each row, for each γ, the next row is present or has both states 0
      pub d : (i : ℕ) → i < length packets → (γ : ℕ) → γ < product sizes → NextStands i γ ⊎ NextZero i γ

-- the same rows stand in two tables, in whatever order and however often
unfoldable pub SameRows : (packets lefts rights packets' lefts' rights' : List ℕ) → Type 0
SameRows packets lefts rights packets' lefts' rights' = (α l r : ℕ) → InTable packets lefts rights α l r ↔ InTable packets' lefts' rights' α l r
