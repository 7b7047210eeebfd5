-- Classes of bytes, by ranges of the byte (document 01, "Text").
use Rattle.std.specs.Prelude.{ℕ, Bool, ◌&&◌, ◌||◌, leb, eqb}

-- space and tab
unfoldable pub is_blank : ℕ → Bool
is_blank b = eqb b 32 || eqb b 9

-- A to Z
unfoldable pub is_capital : ℕ → Bool
is_capital b = leb 65 b && leb b 90

-- a to z
unfoldable pub is_small : ℕ → Bool
is_small b = leb 97 b && leb b 122

-- A to Z and a to z
unfoldable pub is_letter : ℕ → Bool
is_letter b = is_capital b || is_small b

-- 0 to 9
unfoldable pub is_digit : ℕ → Bool
is_digit b = leb 48 b && leb b 57

-- what words are made of
unfoldable pub in_word : ℕ → Bool
in_word b = is_letter b || is_digit b
