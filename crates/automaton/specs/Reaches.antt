-- "Reaches dup i with packet γ before any other dup" (document 01, "States and rows"), over any packet structure.
use Rattle.std.specs.Prelude.{ℕ, [], ◌∷◌, ◌⊎◌, ◌≡◌}
use Rattle.policy.specs.Meaning.{Packets, Traces}
use Rattle.policy.specs.Tree.{Policy, drop, id, field, dup, sum, seq, star, neg}

module _ (P : Packets) where
  -- p passes from β to μ and records nothing
  unfoldable pub Passes : Policy → P.Packet → P.Packet → Type 0
  Passes p β μ = Traces P p β (μ ∷ [])

  -- from packet β, p reaches dup i with packet γ before any other dup
  unfoldable pub Reaches : Policy → ℕ → P.Packet → P.Packet → Type 0
  Reaches drop i β γ = ⊥
  Reaches id i β γ = ⊥
  Reaches (field a) i β γ = ⊥
  Reaches (dup j) i β γ = (i ≡ j) × (γ ≡ β)
  Reaches (sum p q) i β γ = Reaches p i β γ ⊎ Reaches q i β γ
  Reaches (seq p q) i β γ = Reaches p i β γ ⊎ ((μ : P.Packet) × Passes p β μ × Reaches q i μ γ)
  Reaches (star p) i β γ = (μ : P.Packet) × Passes (star p) β μ × Reaches p i μ γ
  Reaches (neg p) i β γ = ⊥
