-- The lowest number that passes a test: document 01, "of several places the lowest is returned".
use Rattle.std.specs.Prelude.{ℕ, zero, suc, Bool, true, false, Option, None, Some}

-- the first answer if there is one, else n if it passes
unfoldable pub or_at : Option ℕ → Bool → ℕ → Option ℕ
or_at (Some i) b n = Some i
or_at None true n = Some n
or_at None false n = None

-- the lowest i below n that passes the test
unfoldable pub lowest : (ℕ → Bool) → ℕ → Option ℕ
lowest test zero = None
lowest test (suc n) = or_at (lowest test n) (test n) n
