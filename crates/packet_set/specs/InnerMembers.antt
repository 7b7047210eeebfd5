-- Sets of packets as 32 words of 32 bits. A set function works on the first k words and keeps the other words of its first set;
-- k = words_for N words hold every packet below N.
use Rattle.std.specs.Prelude.{ℕ, zero, suc, ◌+◌, ◌*◌, ◌/◌, ◌%◌, Bool, ◌&&◌, List, [], ◌∷◌, get_or, set, replicate, T, leb, Option}
use Rattle.std.specs.Int.Bits.{bit_or, bit_and, bit_xor}
use Rattle.packet_set.specs.Bits.{bit, marked}
use Rattle.packet.specs.Lowest.{lowest}

-- packet γ is in the set: bit γ % 32 of word γ / 32
unfoldable pub member : List ℕ → ℕ → Bool
member s γ = bit (get_or s (γ / 32) 0) (γ % 32)

-- how many words n packets need
unfoldable pub words_for : ℕ → ℕ
words_for n = (n + 31) / 32

unfoldable pub empty_set : List ℕ
empty_set = replicate 32 0

-- the set with packet γ besides
unfoldable pub with_packet : List ℕ → ℕ → List ℕ
with_packet s γ = set s (γ / 32) (marked (get_or s (γ / 32) 0) (γ % 32))

-- f on the first k words of two sets; the other words are the first set's
unfoldable pub wordwise : (ℕ → ℕ → ℕ) → ℕ → List ℕ → List ℕ → List ℕ
wordwise f zero a b = a
wordwise f (suc k) [] b = []
wordwise f (suc k) (x ∷ a) [] = f x 0 ∷ wordwise f k a []
wordwise f (suc k) (x ∷ a) (y ∷ b) = f x y ∷ wordwise f k a b

unfoldable pub union_of : ℕ → List ℕ → List ℕ → List ℕ
union_of = wordwise bit_or

-- the bits of w that b does not have
abbrev pub without : ℕ → ℕ → ℕ
without w b = bit_xor w (bit_and w b)

unfoldable pub exclusive_or_of : ℕ → List ℕ → List ℕ → List ℕ
exclusive_or_of = wordwise bit_xor

-- the lowest packet in the first k words that is not below `from`
unfoldable pub lowest_in : ℕ → ℕ → List ℕ → Option ℕ
lowest_in k from s = lowest (λ γ. leb from γ && member s γ) (32 * k)

-- a set by its members
abbrev pub Members : Type 0
Members = ℕ → Bool

-- the members of X are members of Y
abbrev pub Within : Members → Members → Type 0
Within X Y = (γ : ℕ) → T (X γ) → T (Y γ)
