-- A row that is the same as one before it keeps (c) and (d) if that one does.
use Prim.Native.Nat.{ℕ, zero, suc, ◌<◌}
use native.Mathlib.Nat.{not-suc-le-zero}
use native.Mathlib.Omega.{arith}
use mathlib.Core.Bool.{◌||◌, not}
use mathlib.Core.Logic.{◌⊎◌, inl, inr}
use Rattle.std.specs.Prelude.{Option, None, Some}
use mathlib.Core.Path.{◌≡◌, refl, sym, subst}
use Rattle.packet.specs.Lowest.{lowest}
use Rattle.packet.proofs.Tests.{last_or_before}
use Rattle.system.specs.System.{System, Row, next_row, tells}
use Rattle.pair.specs.Rules.{Table, RulesAnswer, accepted, rule_a, rule_b, rule_c, rule_d, and_then, broken_at, present, breaks_d, check_row, check_rows}

both_accepted : (x y : RulesAnswer) → and_then x y ≡ accepted → (x ≡ accepted) × (y ≡ accepted)
unfolding and_then
both_accepted accepted y e = (refl, e)
both_accepted (rule_a i) y e = let z : ◌≡◌ {A = ℕ} 0 1 = cc in absurd (omega arith)
both_accepted (rule_b i) y e = let z : ◌≡◌ {A = ℕ} 0 1 = cc in absurd (omega arith)
both_accepted (rule_c i) y e = let z : ◌≡◌ {A = ℕ} 0 1 = cc in absurd (omega arith)
both_accepted (rule_d i γ) y e = let z : ◌≡◌ {A = ℕ} 0 1 = cc in absurd (omega arith)

-- no spot, whichever row is asked
accepted_at : (j i : ℕ) (o u : Option ℕ) → and_then (broken_at (λ γ. rule_c j) o) (broken_at (rule_d j) u) ≡ accepted → and_then (broken_at (λ γ. rule_c i) o) (broken_at (rule_d i) u) ≡ accepted
unfolding and_then broken_at
accepted_at j i None None e = refl
accepted_at j i None (Some γ) e = let z : ◌≡◌ {A = ℕ} 0 1 = cc in absurd (omega arith)
accepted_at j i (Some γ) u e = let z : ◌≡◌ {A = ℕ} 0 1 = cc in absurd (omega arith)

module _ (S : System) (T : Table S) where
  checked_below : (n j : ℕ) → j < n → check_rows S T n ≡ accepted → check_row S T j ≡ accepted
  unfolding check_rows
  checked_below zero j l e = absurd (not-suc-le-zero l)
  checked_below (suc n) j l e = go (both_accepted (check_rows S T n) (check_row S T n) e) (last_or_before l) (checked_below n j)
    where
      go : (check_rows S T n ≡ accepted) × (check_row S T n ≡ accepted) → (j < n) ⊎ (j ≡ n) → (j < n → check_rows S T n ≡ accepted → check_row S T j ≡ accepted) → check_row S T j ≡ accepted
      go both (inl h) ih = ih h both.0
      go both (inr q) ih = subst (λ k. check_row S T k ≡ accepted) (sym q) both.1

  pub repeat_keeps : (i j : ℕ) → j < i → T.row j ≡ T.row i → check_rows S T i ≡ accepted → check_row S T i ≡ accepted
  unfolding check_row breaks_d
  repeat_keeps i j l same e =
      accepted_at j i (lowest (tells S (T.row i)) S.packets) (lowest (breaks_d S T i) S.packets)
      (subst
      (λ (r : Row S). and_then (broken_at (λ γ. rule_c j) (lowest (tells S r) S.packets)) (broken_at (rule_d j) (lowest (λ γ. not (S.dead (next_row S r γ).state || present S T (next_row S r γ))) S.packets)) ≡ accepted)
      same (checked_below i j l e))
