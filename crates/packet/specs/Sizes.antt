-- Sizes of the fields and the packet count N (document 01, "Packets" and causes 1 to 3).
use Rattle.std.specs.Prelude.{ℕ, suc, ◌*◌, ◌≤◌, ◌<◌, Bool, ◌||◌, List, [], ◌∷◌, Result, Ok, Err, ltb, eqb, length, get_or, take}
use Rattle.packet.specs.declared.Refusal.{Refusal}
use Rattle.packet.specs.Lowest.{lowest}
use Rattle.packet.specs.Refusals.{Tested, refused_at, at_zero, first_refused}

-- a value where a stage passes
unfoldable pub counted : Tested → ℕ → Result ℕ Refusal
counted (Ok _) n = Ok n
counted (Err r) n = Err r

-- the product of the sizes; of the core sizes (document 02, A.6) it is the packet count N
unfoldable pub product : List ℕ → ℕ
product [] = 1
product (s ∷ ss) = s * product ss

-- cause 1: k is not 1 to 8
unfoldable pub bad_count : List ℕ → Bool
bad_count sizes = eqb (length sizes) 0 || ltb 8 (length sizes)

-- cause 2: the size of field i is 0
unfoldable pub zero_size : List ℕ → ℕ → Bool
zero_size sizes i = eqb (get_or sizes i 0) 0

-- cause 3: the running product up to and with field i is over 1,024
unfoldable pub product_over : List ℕ → ℕ → Bool
product_over sizes i = ltb 1024 (product (take (suc i) sizes))

-- causes 1 and 2, the last of stage "fields"
unfoldable pub fields_stage : List ℕ → Tested
fields_stage sizes = first_refused (refused_at 1 0 (at_zero (bad_count sizes)) ∷ refused_at 2 0 (lowest (zero_size sizes) (length sizes)) ∷ [])

-- stage "product": cause 3
unfoldable pub product_stage : List ℕ → Tested
product_stage sizes = refused_at 3 0 (lowest (product_over sizes) (length sizes))

-- what such a stage says, with the packet count where it passes
unfoldable pub packet_count : List ℕ → Result ℕ Refusal
packet_count sizes = counted (product_stage sizes) (product sizes)

-- none of causes 1 to 3 holds
pub record LegalSizes (sizes : List ℕ) : Type 0 where
  pub some : 0 < length sizes
  pub few : length sizes ≤ 8
  pub positive : (i : ℕ) → i < length sizes → 0 < get_or sizes i 0
  pub small : product sizes ≤ 1024
