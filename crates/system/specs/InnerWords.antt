-- Words of packets, and where a word leads.
use Rattle.std.specs.Prelude.{◌≡◌, false, List, [], ◌∷◌, ℕ, ◌<◌, length}
use Rattle.system.specs.System.{System, Row, start_row, next_row, tells}

-- each packet of the word is below n
pub data PacketWord (n : ℕ) : List ℕ → Type 0 where
  end : PacketWord n []
  then : {γ : ℕ} {w : List ℕ} → γ < n → PacketWord n w → PacketWord n (γ ∷ w)

module _ (S : System) where
  -- the row that a word leads to, from a row
  unfoldable pub leads_to : Row S → List ℕ → Row S
  leads_to r [] = r
  leads_to r (γ ∷ w) = leads_to (next_row S r γ) w

  -- no packet tells after a word of fewer than d packets, from any packet
  pub record SilentBelow (d : ℕ) : Type 0 where
    pub silent : (α : ℕ) → α < S.packets → (w : List ℕ) → PacketWord S.packets w → length w < d
        → (γ : ℕ) → γ < S.packets → tells S (leads_to (start_row S α) w) γ ≡ false

  -- no packet tells after any word
  pub record Silent : Type 0 where
    pub silent : (α : ℕ) → α < S.packets → (w : List ℕ) → PacketWord S.packets w
        → (γ : ℕ) → γ < S.packets → tells S (leads_to (start_row S α) w) γ ≡ false
