-- A field changed in a whole set at once, by words: what lies u strides on is brought together.
use Rattle.std.specs.Prelude.{ℕ, ◌+◌, ◌*◌, ◌≤◌, ◌<◌, List, ◌≡◌, T, length, get_or}
use Rattle.packet_set.specs.Bits.{bit}
use Rattle.packet_set.specs.InnerMembers.{member}

-- the word has the 32 bits from bit b on of two words
pub record JoinedWord (low high b word : ℕ) : Type 0 where
  pub first : (j : ℕ) → b + j < 32 → bit word j ≡ bit low (b + j)
  pub second : (j i : ℕ) → j < 32 → b + j ≡ 32 + i → bit word j ≡ bit high i

-- the word has the 32 bits from bit `at` on
pub record Window (pad : List ℕ) (at word : ℕ) : Type 0 where
  pub bits : (j : ℕ) → j < 32 → bit word j ≡ member pad (at + j)

-- a set with 32 words of 0 before and after it
pub record Padded (set pad : List ℕ) : Type 0 where
  pub wide : length pad ≡ 96
  pub before : (i : ℕ) → i < 32 → get_or pad i 0 ≡ 0
  pub here : (i : ℕ) → i < 32 → get_or pad (32 + i) 0 ≡ get_or set i 0
  pub after : (i : ℕ) → 64 ≤ i → get_or pad i 0 ≡ 0

-- the word has the 32 bits from each of n places on, a stride apart
pub record Gathered (pad : List ℕ) (at stride n word : ℕ) : Type 0 where
  pub all : (b u : ℕ) → b < 32 → u < n → T (member pad (at + u * stride + b)) → T (bit word b)
  pub only : (b : ℕ) → b < 32 → T (bit word b) → (u : ℕ) × (u < n) × T (member pad (at + u * stride + b))

-- the same of the bits that the mask has
pub record Masked (pad : List ℕ) (at stride n mask word : ℕ) : Type 0 where
  pub all : (b u : ℕ) → b < 32 → u < n → T (member pad (at + u * stride + b)) → T (bit mask b) → T (bit word b)
  pub only : (b : ℕ) → b < 32 → T (bit word b) → T (bit mask b) × ((u : ℕ) × (u < n) × T (member pad (at + u * stride + b)))

-- the first words of a set are what is gathered there and in the mask
pub record Folded (pad mask : List ℕ) (words at stride size : ℕ) (set set' : List ℕ) : Type 0 where
  pub long : length set' ≡ length set
  pub done : (i : ℕ) → i < words → Masked pad (at + 32 * i) stride size (get_or mask i 0) (get_or set' i 0)
  pub left : (i : ℕ) → words ≤ i → get_or set' i 0 ≡ get_or set i 0
