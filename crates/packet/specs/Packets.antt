-- Packets as numbers in mixed radix, field 0 varying slowest (document 01, "Packets"). Any number of fields, no bound on N.
use Rattle.std.specs.Prelude.{ℕ, suc, ◌<◌, ◌+◌, ◌*◌, ◌/◌, ◌%◌, List, [], ◌∷◌, get_or, set, drop}
use Rattle.packet.specs.Sizes.{product}

-- a packet's number from the values of its fields
unfoldable pub number_of : List ℕ → List ℕ → ℕ
number_of [] vs = 0
number_of (s ∷ ss) [] = 0
number_of (s ∷ ss) (v ∷ vs) = v * product ss + number_of ss vs

-- the values of a packet's fields from its number
unfoldable pub values_of : List ℕ → ℕ → List ℕ
values_of [] α = []
values_of (s ∷ ss) α = α / product ss ∷ values_of ss (α % product ss)

-- the value of field f in packet α
unfoldable pub value_at : List ℕ → ℕ → ℕ → ℕ
value_at sizes f α = get_or (values_of sizes α) f 0

-- packet α with field f changed to v
unfoldable pub changed : List ℕ → ℕ → ℕ → ℕ → ℕ
changed sizes f v α = number_of sizes (set (values_of sizes α) f v)

-- a declared packet: a value for each field, below the field's size
unfoldable pub Declared : List ℕ → List ℕ → Type 0
Declared [] [] = Unit
Declared [] (v ∷ vs) = ⊥
Declared (s ∷ ss) [] = ⊥
Declared (s ∷ ss) (v ∷ vs) = (v < s) × Declared ss vs

-- how far apart two packets are that differ by one in field f alone
unfoldable pub stride : List ℕ → ℕ → ℕ
stride sizes f = product (drop (suc f) sizes)
