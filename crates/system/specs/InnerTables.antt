-- Tables of rows, whoever made them: any relation "is a row of the table".
use Rattle.std.specs.Prelude.{◌≡◌, true, false, List, ◌⊎◌, ℕ, ◌<◌, length}
use Rattle.system.specs.System.{System, Row, start_row, next_row, tells}
use Rattle.system.specs.RowOrder.{Entry, entry_at}

module _ (S : System) where
  -- Rules (b), (c) and (d): every starting row is there; no row tells; next rows are there or dead. The rows are a bisimulation.
  pub record Closed (Is : Row S → Type 0) : Type 0 where
    pub starting : (α : ℕ) → α < S.packets → Is (start_row S α)
    pub silent : (r : Row S) → Is r → (γ : ℕ) → γ < S.packets → tells S r γ ≡ false
    pub onward : (r : Row S) → Is r → (γ : ℕ) → γ < S.packets → (S.dead (next_row S r γ).state ≡ true) ⊎ Is (next_row S r γ)

  -- Rule (a): each packet is below N, each state valid.
  pub record InRange (Is : Row S → Type 0) : Type 0 where
    pub small : (r : Row S) → Is r → r.packet < S.packets
    pub valid : (r : Row S) → Is r → S.valid r.state ≡ true

  -- the row stands in the list
  pub record Listed (es : List (Entry S)) (r : Row S) : Type 0 where
    pub place : ℕ
    pub inside : place < length es
    pub there : (entry_at S es place).row ≡ r
