-- Sums over the numbers below n.
use Prim.Native.Nat.{ℕ, zero, suc, ◌+◌, ◌≤◌, ◌<◌}
use mathlib.Core.Logic.{by_cases}
use mathlib.Core.Path.{◌≡◌, refl, sym, subst}
use native.Mathlib.Decide.{ℕ_discrete}
use native.Mathlib.Omega.{arith}

unfoldable pub sum_below : (ℕ → ℕ) → ℕ → ℕ
sum_below f zero = 0
sum_below f (suc n) = sum_below f n + f n

module _ (f g : ℕ → ℕ) where
  pub sum_le : (n : ℕ) → ((i : ℕ) → i < n → f i ≤ g i) → sum_below f n ≤ sum_below g n
  unfolding sum_below
  sum_le zero h = omega arith
  sum_le (suc n) h = let k = sum_le n (λ i l. h i (omega arith)) in let m = h n (omega arith) in omega arith

  -- one summand is more
  pub sum_lt : (n : ℕ) → ((i : ℕ) → i < n → f i ≤ g i) → (c : ℕ) → c < n → f c < g c → sum_below f n < sum_below g n
  unfolding sum_below
  sum_lt zero h c l m = absurd (omega arith)
  sum_lt (suc n) h c l m =
      by_cases (ℕ_discrete c n) (λ e. let k = sum_le n (λ i a. h i (omega arith)) in let q = subst (λ (x : ℕ). f x < g x) e m in omega arith)
      (λ e. let k = sum_lt n (λ i a. h i (omega arith)) c (omega arith) m in let q = h n (omega arith) in omega arith)

  pub sum_both : ((i : ℕ) → f i + g i ≡ 1) → (n : ℕ) → sum_below f n + sum_below g n ≡ n
  unfolding sum_below
  sum_both h zero = refl
  sum_both h (suc n) = let k = sum_both h n in let q = h n in omega arith

pub sum_more : (f : ℕ → ℕ) (m n : ℕ) → m ≤ n → sum_below f m ≤ sum_below f n
unfolding sum_below
sum_more f zero zero l = omega arith
sum_more f (suc m) zero l = absurd (omega arith)
sum_more f m (suc n) l =
    by_cases (ℕ_discrete m (suc n)) (λ e. subst (λ (x : ℕ). sum_below f x ≤ sum_below f n + f n) (sym e) (omega arith))
    (λ e. let k = sum_more f m n (omega arith) in omega arith)
