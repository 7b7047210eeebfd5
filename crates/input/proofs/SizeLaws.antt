-- A word that is a size, and its value.
use Prim.Native.Nat.{ℕ, ◌<◌}
use native.Mathlib.Omega.{arith}
use mathlib.Core.Bool.{Bool, true, false, ◌&&◌, cond, not}
use mathlib.Core.List.{List, [], ◌∷◌}
use mathlib.Core.Path.{◌≡◌, refl}
use lib.Dec.{eqb, leb}
use lib.ListN.{length}
use borrow.Author.Tests.{eq-eqb, ne_eqb}
use Rattle.packet.proofs.Tests.{clash}
use Rattle.grammar.specs.Tokens.{all_digits, decimal, leading_zero, is_number}
use Rattle.tokens.specs.Inner.{number_from}
use Rattle.std.specs.Prelude.{Some, None}
use Rattle.input.specs.Input.{is_size}
use Rattle.input.specs.Inner.{size_of}
use Rattle.input.proofs.LineLaws.{and_false}

pub size_empty : (w : List ℕ) → length w ≡ 0 → None ≡ size_of w
unfolding size_of is_size
size_empty w e = rw (eq-eqb (length w) 0 e)

pub size_zero : (w : List ℕ) → leading_zero w ≡ true → None ≡ size_of w
unfolding size_of is_size is_number
size_zero w e = rw (e, and_false (all_digits w), and_false (not (eqb (length w) 0)))

-- a word that is neither empty nor has a leading zero is a size if its digits make a number of 16 bits
pub size_number : (w : List ℕ) → (length w ≡ 0 → ⊥) → leading_zero w ≡ false → number_from 0 w ≡ size_of w
unfolding size_of is_size is_number number_from
size_number w h z = rw (ne_eqb (length w) 0 h, z) (go (all_digits w))
  where
    go : (a : Bool) → cond (a && leb (decimal 0 w) 65535) (Some (decimal 0 w)) None ≡ cond (a && true && leb (decimal 0 w) 65535) (Some (decimal 0 w)) None
    go true = refl
    go false = refl

-- what the value of a word tells of it
pub size_none : (w : List ℕ) → size_of w ≡ None → is_size w ≡ false
unfolding size_of
size_none w e = go (is_size w) e
  where
    go : (b : Bool) → cond b (Some (decimal 0 w)) None ≡ None → b ≡ false
    go true q = cc
    go false q = refl

pub size_some : (w : List ℕ) {n : ℕ} → size_of w ≡ Some n → (is_size w ≡ true) × (n ≡ decimal 0 w)
unfolding size_of
size_some w {n} e = go (is_size w) e
  where
    go : (b : Bool) → cond b (Some (decimal 0 w)) None ≡ Some n → (b ≡ true) × (n ≡ decimal 0 w)
    go true q = (refl, cc)
    go false q = cc

-- a size has at least one byte
pub size_long : (w : List ℕ) → is_size w ≡ true → 0 < length w
unfolding is_size
size_long [] e = clash e refl
size_long (b ∷ bs) e = omega arith
