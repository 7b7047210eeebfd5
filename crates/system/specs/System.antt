-- A deterministic system: what the row order needs to know of the states that its rows carry.
-- Two policies are one instance (a state is two masks); a query over several policies is another.
use Rattle.std.specs.Prelude.{◌≡◌, Bool, true, false, ℕ, ◌<◌}

pub record System : Type 1 where
  pub State : Type 0
  -- equality of states
  pub same : State → State → Bool
  -- N, the number of packets
  pub packets : ℕ
  -- the state of the starting rows
  pub start : State
  -- `next β s γ`: the state next at γ, from state s and packet β
  pub next : ℕ → State → ℕ → State
  -- nothing is left: no row is listed for such a state ("both states are 0")
  pub dead : State → Bool
  -- `telling β s γ`: packet γ tells at state s and packet β ("is in exactly one of the two outputs")
  pub telling : ℕ → State → ℕ → Bool
  -- what rule (a) asks of a state
  pub valid : State → Bool

-- What the laws of the row order ask of a system.
pub record Lawful (S : System) : Type 0 where
  pub same_refl : (s : S.State) → S.same s s ≡ true
  pub same_eq : (s t : S.State) → S.same s t ≡ true → s ≡ t
  pub dead_silent : (β : ℕ) (s : S.State) (γ : ℕ) → β < S.packets → γ < S.packets → S.dead s ≡ true → S.telling β s γ ≡ false
  pub dead_next : (β : ℕ) (s : S.State) (γ : ℕ) → β < S.packets → γ < S.packets → S.dead s ≡ true → S.dead (S.next β s γ) ≡ true
  pub start_valid : S.valid S.start ≡ true
  pub next_valid : (β : ℕ) (s : S.State) (γ : ℕ) → β < S.packets → γ < S.packets → S.valid s ≡ true → S.valid (S.next β s γ) ≡ true

-- A row: a packet and a state.
pub record Row (S : System) : Type 0 where
  pub packet : ℕ
  pub state : S.State

module _ (S : System) where
  -- the starting row of packet α
  abbrev pub start_row : ℕ → Row S
  start_row α = record { packet = α; state = S.start }

  -- the row next at γ
  abbrev pub next_row : Row S → ℕ → Row S
  next_row r γ = record { packet = γ; state = S.next r.packet r.state γ }

  -- packet γ tells at the row
  abbrev pub tells : Row S → ℕ → Bool
  tells r γ = S.telling r.packet r.state γ
