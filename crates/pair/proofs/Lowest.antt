-- The lowest spot at which a rule is broken.
use Prim.Native.Nat.{ℕ, ◌<◌}
use mathlib.Core.Bool.{Bool, true, false}
use mathlib.Core.Logic.{◌↔◌}
use Rattle.std.specs.Prelude.{Option, None, Some}
use mathlib.Core.Path.{◌≡◌, refl}
use Rattle.packet.specs.Lowest.{lowest}
use Rattle.packet.proofs.Tests.{clash}
use Rattle.packet.proofs.Lowest.{Found, lowest_is, lowest_only, none_lowest}
use Rattle.pair.specs.Rules.{LowestBroken}

-- a rule is kept at every spot below n, or broken at a lowest one
pub data Spotted (Rule : ℕ → Type 0) (n : ℕ) : Option ℕ → Type 0 where
  kept : ((i : ℕ) → i < n → Rule i) → Spotted Rule n None
  spot : {i : ℕ} → LowestBroken Rule n i → Spotted Rule n (Some i)

pub spotted : (Rule : ℕ → Type 0) (breaks : ℕ → Bool) → ((i : ℕ) → (breaks i ≡ false) ↔ Rule i) → (n : ℕ) → Spotted Rule n (lowest breaks n)
spotted Rule breaks f n = go (lowest breaks n) (lowest_is breaks n)
  where
    go : (o : Option ℕ) → Found breaks n o → Spotted Rule n o
    go None g = kept (λ i h. (f i).0 (g i h))
    go (Some i) l = spot (record { inside = l.below; broken = λ r. clash l.passes ((f i).1 r); before = λ j h. (f j).0 (l.first j h) })

-- the lowest spot is the one that is found
pub lowest_spot : (Rule : ℕ → Type 0) (breaks : ℕ → Bool) → ((i : ℕ) → (breaks i ≡ false) ↔ Rule i) → (n : ℕ) {i : ℕ} → LowestBroken Rule n i → lowest breaks n ≡ Some i
lowest_spot Rule breaks f n {i} l = lowest_only breaks n (Some i) (record { below = l.inside; passes = broken (breaks i) refl; first = λ j h. (f j).1 (l.before j h) })
  where
    broken : (b : Bool) → breaks i ≡ b → breaks i ≡ true
    broken true e = e
    broken false e = absurd (l.broken ((f i).0 e))

-- where the rule is kept, none is found
pub lowest_kept : (Rule : ℕ → Type 0) (breaks : ℕ → Bool) → ((i : ℕ) → (breaks i ≡ false) ↔ Rule i) → (n : ℕ) → ((i : ℕ) → i < n → Rule i) → lowest breaks n ≡ None
lowest_kept Rule breaks f n k = none_lowest breaks n (λ i h. (f i).1 (k i h))
