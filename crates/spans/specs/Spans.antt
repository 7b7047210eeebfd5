-- Packet sets with the span of words that they may occupy, packet sets side by side in a list, and marks gathered by packets.
use Rattle.std.specs.Prelude.{ℕ, ◌+◌, ◌*◌, ◌/◌, ◌%◌, ◌<◌, ◌≤◌, Bool, false, true, ◌&&◌, ◌||◌, not, cond, List, ◌⊎◌, ◌≡◌, T, eqb, ltb, length, get_or}
use Rattle.packet_set.specs.Bits.{bit, marked}
use Rattle.packet_set.specs.InnerMembers.{Members, member}

-- the packet set in the 32 words from word 32 n on
unfoldable pub slot : List ℕ → ℕ → Members
slot list n γ = ltb γ 1024 && bit (get_or list (32 * n + γ / 32) 0) (γ % 32)

-- the marks gathered so far: γ has mark i
unfoldable pub has_mark : List ℕ → ℕ → Members
has_mark next i γ = ltb γ 1024 && bit (get_or next γ 0) i

-- the packets that may have marks: the 32 words after the marks of 1,024 packets
unfoldable pub touched : List ℕ → Members
touched next = slot next 32

-- a packet set whose words outside the span are 0
pub record Spanned (from to : ℕ) (set : List ℕ) : Type 0 where
  pub wide : length set ≡ 32
  pub within : to ≤ 32
  pub outside : (i : ℕ) → (i < from) ⊎ (to ≤ i) → get_or set i 0 ≡ 0

-- word i of the list is now f i
pub record Rewritten (f : ℕ → ℕ) (old now : List ℕ) : Type 0 where
  pub long : length now ≡ length old
  pub words : (i : ℕ) → get_or now i 0 ≡ f i

-- the words where slot n becomes 0
unfoldable pub cleared_word : List ℕ → ℕ → ℕ → ℕ
cleared_word work n i = cond (eqb (i / 32) n) 0 (get_or work i 0)

-- the entries where the packets in word i of a set get the mark
unfoldable pub marked_entry : List ℕ → ℕ → ℕ → ℕ → ℕ → ℕ
marked_entry next label i word γ = cond (eqb (γ / 32) i && bit word (γ % 32)) (marked (get_or next γ 0) label) (get_or next γ 0)

-- the words from r to s hold both spans (an empty span is within any)
pub record Hull (a b c d r s : ℕ) : Type 0 where
  pub first : (i : ℕ) → a ≤ i → i < b → (r ≤ i) × (i < s)
  pub second : (i : ℕ) → c ≤ i → i < d → (r ≤ i) × (i < s)
  pub within : b ≤ 32 → d ≤ 32 → s ≤ 32

-- a set with these members, in the span
pub record Holds (from to : ℕ) (set : List ℕ) (X : Members) : Type 0 where
  pub spanned : Spanned from to set
  pub members : (γ : ℕ) → member set γ ≡ X γ

-- what is left of a set; `some` false: its words are 0
pub record Left (some : Bool) (set : List ℕ) : Type 0 where
  pub none : some ≡ false → Spanned 0 0 set
  pub found : some ≡ true → (γ : ℕ) × T (member set γ)

-- The set has entered slot n, and node n is seen; the set keeps what is new.
pub record Noted (n from to : ℕ) (work seen set : List ℕ) (some : Bool) (work' seen' set' : List ℕ) : Type 0 where
  pub slots : (m γ : ℕ) → slot work' m γ ≡ slot work m γ || (eqb m n && member set γ)
  pub seen_nodes : (m : ℕ) → member seen' m ≡ member seen m || eqb m n
  pub new : Holds from to set' (λ γ. member set γ && not (slot work n γ))
  pub told : Left some set'
  pub beyond : (i : ℕ) → 16384 ≤ i → get_or work' i 0 ≡ get_or work i 0
  pub long : length seen' ≡ length seen

-- Each packet of the set has got the mark.
pub record GotMark (label : ℕ) (set next next' : List ℕ) : Type 0 where
  pub marks : (i γ : ℕ) → has_mark next' i γ ≡ has_mark next i γ || (eqb i label && member set γ)
  pub touches : (γ : ℕ) → touched next' γ ≡ touched next γ || member set γ
  pub long : length next' ≡ length next

-- Slots that were seen are 0, and so are all slots; the list is else as it was.
pub record Unseen (work work' : List ℕ) : Type 0 where
  pub clear : (i : ℕ) → i < 16384 → get_or work' i 0 ≡ 0
  pub beyond : (i : ℕ) → 16384 ≤ i → get_or work' i 0 ≡ get_or work i 0
