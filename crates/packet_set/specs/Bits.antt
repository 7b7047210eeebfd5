-- Bits of a number, over any width: the marks of a state (document 01, "States and rows") and the packets of one word of a set.
use Rattle.std.specs.Prelude.{ℕ, zero, suc, ◌+◌, ◌/◌, ◌%◌, ◌^◌, Bool, cond, eqb, ltb}
use Rattle.std.specs.Int.Bits.{bit_or}

-- the width of a state
abbrev pub mask_bits : ℕ
mask_bits = 64

-- bit i of m is 1
unfoldable pub bit : ℕ → ℕ → Bool
bit m i = eqb (m / 2 ^ i % 2) 1

-- m with bit i set
unfoldable pub marked : ℕ → ℕ → ℕ
marked m i = bit_or m (2 ^ i)

-- m has only bits 0 to d
unfoldable pub only_bits : ℕ → ℕ → Bool
only_bits m d = ltb m (2 ^ suc d)

-- the number below 2 ^ w whose bits are those that pass the test
unfoldable pub mask_of : ℕ → (ℕ → Bool) → ℕ
mask_of zero test = 0
mask_of (suc w) test = mask_of w test + cond (test w) (2 ^ w) 0
