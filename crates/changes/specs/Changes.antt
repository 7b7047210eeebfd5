-- A set of packets after one field is changed in each.
use Rattle.std.specs.Prelude.{ℕ, ◌<◌, false, List, ◌⊎◌, ◌≡◌, T}
use Rattle.packet.specs.Packets.{changed}
use Rattle.packet.specs.Sizes.{product, LegalSizes}
use Rattle.policy.specs.Legality.{bad_field}
use Rattle.packet_set.specs.InnerMembers.{member}
use Rattle.spans.specs.Spans.{Spanned}

-- what a change asks: a field and a value of it that are declared, and a set of packets below N
pub record Changing (sizes : List ℕ) (field value from to : ℕ) (set : List ℕ) : Type 0 where
  pub legal : LegalSizes sizes
  pub is_in_field : bad_field sizes field value ≡ false
  pub spanned : Spanned from to set
  pub below : (α : ℕ) → T (member set α) → α < product sizes

-- The set has become the packets that the change makes of its members.
pub record Changed (sizes : List ℕ) (field value : ℕ) (set : List ℕ) (from to : ℕ) (set' : List ℕ) : Type 0 where
  pub spanned : Spanned from to set'
  pub all : (α : ℕ) → T (member set α) → T (member set' (changed sizes field value α))
  pub only : (γ : ℕ) → T (member set' γ) → (α : ℕ) × T (member set α) × (γ ≡ changed sizes field value α)

-- The set has got the packet besides.
pub record Added (packet : ℕ) (set : List ℕ) (from to : ℕ) (set' : List ℕ) : Type 0 where
  pub spanned : Spanned from to set'
  pub members : (γ : ℕ) → T (member set' γ) → T (member set γ) ⊎ (γ ≡ packet)
  pub old : (γ : ℕ) → T (member set γ) → T (member set' γ)
  pub new : T (member set' packet)
