-- Two policies as a system (document 01, "States and rows"): a state is the two policies' masks.
use Rattle.std.specs.Prelude.{ℕ, Bool, List, eqb}
use Rattle.std.specs.Bool.{xor}
use Rattle.packet.specs.Sizes.{product}
use Rattle.policy.specs.Meaning.{numbered, Traces}
use Rattle.packet_set.specs.Bits.{bit, only_bits}
use Rattle.automaton.specs.State.{output_mask, next_mask}
use Rattle.system.specs.System.{System}
use Rattle.pair.specs.Sides.{Side, left, right, Pair, at, each, on_both, NumberedPolicy}

module _ (sizes : List ℕ) (ps : Pair NumberedPolicy) where
  -- t is a trace of the side's policy from α (Figure 1)
  unfoldable pub SideTraces : Side → ℕ → List ℕ → Type 0
  SideTraces s α t = Traces (numbered sizes) (at s ps).tree α t

  -- the output of a side's state at packet β
  unfoldable pub output_at : Side → ℕ → Pair ℕ → ℕ
  output_at s β m = output_mask sizes (at s ps).tree (at s m) β

  -- a side's state next at γ
  unfoldable pub next_at : Side → ℕ → Pair ℕ → ℕ → ℕ
  next_at s β m γ = next_mask sizes (at s ps).tree (at s ps).dups (at s m) β γ

  unfoldable pub same_states : Pair ℕ → Pair ℕ → Bool
  same_states m n = on_both (λ s. eqb (at s m) (at s n))

  -- both states are 0
  unfoldable pub both_zero : Pair ℕ → Bool
  both_zero m = on_both (λ s. eqb (at s m) 0)

  -- packet γ is in exactly one of the two outputs
  unfoldable pub in_one_output : ℕ → Pair ℕ → ℕ → Bool
  in_one_output β m γ = xor (bit (output_at left β m) γ) (bit (output_at right β m) γ)

  -- each mask has only bits 0 to that policy's number of dups
  unfoldable pub bits_of_dups : Pair ℕ → Bool
  bits_of_dups m = on_both (λ s. only_bits (at s m) (at s ps).dups)

  abbrev pub pair_system : System
  pair_system =
      record {
        State = Pair ℕ;
        same = same_states;
        packets = product sizes;
        start = each (λ s. 1);
        next = λ β m γ. each (λ s. next_at s β m γ);
        dead = both_zero;
        telling = in_one_output;
        valid = bits_of_dups;
      }
