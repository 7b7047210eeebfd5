-- Where words lead: packets stay below N, states stay valid, and what is dead stays dead.
use mathlib.Core.Path.{◌≡◌, refl}
use mathlib.Core.Bool.{true, false}
use mathlib.Core.List.{List, [], ◌∷◌, ◌++◌}
use Prim.Native.Nat.{ℕ, ◌<◌}
use Rattle.system.specs.System.{System, Lawful, Row, next_row, tells}
use Rattle.system.specs.InnerWords.{PacketWord, end, then, leads_to}

pub word_append : {n : ℕ} {v w : List ℕ} → PacketWord n v → PacketWord n w → PacketWord n (v ++ w)
word_append end b = b
word_append (then h a) b = then h (word_append a b)

pub word_snoc : {n γ : ℕ} {w : List ℕ} → PacketWord n w → γ < n → PacketWord n (w ++ (γ ∷ []))
word_snoc a h = word_append a (then h end)

module _ (S : System) where
  pub follow_append : (r : Row S) (v w : List ℕ) → leads_to S r (v ++ w) ≡ leads_to S (leads_to S r v) w
  unfolding leads_to
  follow_append r [] w = refl
  follow_append r (γ ∷ v) w = follow_append (next_row S r γ) v w

  pub follow_snoc : (r : Row S) (w : List ℕ) (γ : ℕ) → leads_to S r (w ++ (γ ∷ [])) ≡ next_row S (leads_to S r w) γ
  unfolding leads_to
  follow_snoc r w γ = follow_append r w (γ ∷ [])

  pub follow_small : (r : Row S) {w : List ℕ} → r.packet < S.packets → PacketWord S.packets w → (leads_to S r w).packet < S.packets
  unfolding leads_to
  follow_small r h end = h
  follow_small r h (then {γ = γ} l w) = follow_small (next_row S r γ) l w

  module _ (L : Lawful S) where
    pub follow_valid : (r : Row S) {w : List ℕ} → r.packet < S.packets → S.valid r.state ≡ true → PacketWord S.packets w → S.valid (leads_to S r w).state ≡ true
    unfolding leads_to
    follow_valid r h v end = v
    follow_valid r h v (then {γ = γ} l w) = follow_valid (next_row S r γ) l (L.next_valid r.packet r.state γ h l v) w

    pub follow_dead : (r : Row S) {w : List ℕ} → r.packet < S.packets → S.dead r.state ≡ true → PacketWord S.packets w → S.dead (leads_to S r w).state ≡ true
    unfolding leads_to
    follow_dead r h d end = d
    follow_dead r h d (then {γ = γ} l w) = follow_dead (next_row S r γ) l (L.dead_next r.packet r.state γ h l d) w

    pub dead_tells : (r : Row S) → r.packet < S.packets → S.dead r.state ≡ true → (γ : ℕ) → γ < S.packets → tells S r γ ≡ false
    dead_tells r h d γ l = L.dead_silent r.packet r.state γ h l d
