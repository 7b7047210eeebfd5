-- The marks of next, packet by packet, and the packets that have some: a next list is 1,024 masks and then a packet set.
use Rattle.std.specs.Prelude.{ℕ, ◌+◌, ◌<◌, ◌≤◌, false, List, ◌⊎◌, ◌≡◌, T, length, get_or}
use Rattle.packet_set.specs.Bits.{bit}
use Rattle.spans.specs.Spans.{touched}

-- a packet that is not touched has no mark, and touched packets are below N
pub record Marking (N : ℕ) (next : List ℕ) : Type 0 where
  pub rest : (γ : ℕ) → γ < 1024 → touched next γ ≡ false → get_or next γ 0 ≡ 0
  pub below : (γ : ℕ) → T (touched next γ) → γ < N

-- nothing is marked, and nothing touched
pub record Unmarked (next : List ℕ) : Type 0 where
  pub masks : (γ : ℕ) → γ < 1024 → get_or next γ 0 ≡ 0
  pub untouched : (γ : ℕ) → touched next γ ≡ false

-- an empty next list
pub record Blank (next : List ℕ) : Type 0 where
  pub long : length next ≡ 1056
  pub unmarked : Unmarked next

-- of the 32 packets from `start` on, those that the word has, and those that had no mark, have none; all else is as it was
pub record Forgotten (start word : ℕ) (next next' : List ℕ) : Type 0 where
  pub gone : (j : ℕ) → j < 32 → (bit word j ≡ false → get_or next (start + j) 0 ≡ 0) → get_or next' (start + j) 0 ≡ 0
  pub kept : (i : ℕ) → (i < start) ⊎ (start + 32 ≤ i) → get_or next' i 0 ≡ get_or next i 0
