-- Lists that are filled entry by entry from the front. Assumes nothing.
use Prim.Native.Nat.{ℕ, ◌<◌, ◌≤◌, ◌+◌}
use native.Mathlib.Omega.{arith}
use native.Mathlib.Nat.{not-suc-le-zero}
use mathlib.Core.List.{List}
use mathlib.Core.Path.{◌≡◌, refl, sym, ◌∙◌, subst}
use borrow.Author.Count.{below_more}
use lib.ListN.{length, get_or, take, set, length-set}
use lib.Seq.{ext_get_or, get_or-take, get_or-set_same, get_or-set_other, length-take-le}

-- a list of so many entries, of which each of the first n is as P says of its place
pub record Filled (P : ℕ → ℕ → Type 0) (room n : ℕ) (xs : List ℕ) : Type 0 where
  pub long : length xs ≡ room
  pub each : (i : ℕ) → i < n → P i (get_or xs i 0)

module _ (P : ℕ → ℕ → Type 0) (room : ℕ) (xs : List ℕ) where
  pub filled_none : length xs ≡ room → Filled P room 0 xs
  filled_none e = record { long = e; each = λ i h. absurd (not-suc-le-zero h) }

  pub filled_more : (i v : ℕ) → i < room → Filled P room i xs → P i v → Filled P room (i + 1) (set xs i v)
  filled_more i v l h p = record {
    long = length-set xs i v ∙ h.long;
    each =
        below_more (λ k. P k (get_or (set xs i v) k 0)) i (λ k m. subst (P k) (sym (get_or-set_other xs i k v 0 (λ e. omega arith))) (h.each k m))
        (subst (P i) (sym (get_or-set_same xs i v 0 (omega (arith, h.long)))) p);
  }

-- a list by its entries, in the front of a longer one
pub front_is : (n : ℕ) (xs ys : List ℕ) → n ≤ length xs → length ys ≡ n → ((i : ℕ) → i < n → get_or xs i 0 ≡ get_or ys i 0) → take n xs ≡ ys
front_is n xs ys few long h =
    ext_get_or 0 (take n xs) ys (length-take-le n xs few ∙ sym long)
    (λ i l. let inside : i < n = omega (arith, length-take-le n xs few) in get_or-take n xs i 0 inside ∙ h i inside)

-- from n on nothing has changed
pub record Kept (n : ℕ) (old xs : List ℕ) : Type 0 where
  pub each : (i : ℕ) → n ≤ i → get_or xs i 0 ≡ get_or old i 0

pub kept_all : (xs : List ℕ) → Kept 0 xs xs
kept_all xs = record { each = λ i h. refl }

pub kept_more : (old xs : List ℕ) (i v : ℕ) → Kept i old xs → Kept (i + 1) old (set xs i v)
kept_more old xs i v h = record { each = λ k l. get_or-set_other xs i k v 0 (λ e. omega arith) ∙ h.each k (omega arith) }
