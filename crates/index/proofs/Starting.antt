-- The starting rows, appended one by one: none is listed before its turn.
use mathlib.Core.Path.{◌≡◌, refl, ◌∙◌, ap, ap₂}
use mathlib.Core.Bool.{false, ◌&&◌, ◌||◌}
use Prim.Native.Nat.{ℕ, zero, suc, ◌≤◌}
use native.Mathlib.Nat.{le_refl}
use native.Mathlib.Omega.{arith}
use borrow.Author.Tests.{ne_eqb}
use Rattle.system.specs.System.{System, start_row}
use Rattle.system.specs.RowOrder.{start_entry, starts, same_row, listed, append}
use Rattle.system.proofs.Listing.{append_new}
use Rattle.index.proofs.Entries.{listed_snoc}

module _ (S : System) where
  start_unlisted : (n m : ℕ) → n ≤ m → listed S (starts S n) (start_row S m) ≡ false
  unfolding starts listed same_row
  start_unlisted zero m l = refl
  start_unlisted (suc n) m l =
      listed_snoc S (starts S n) (start_entry S n) (start_row S m)
      ∙ ap₂ ◌||◌ (start_unlisted n m (omega arith)) (ap (λ t. t && S.same S.start S.start) (ne_eqb n m (λ e. omega arith)))

  pub append_start : S.dead S.start ≡ false → (n : ℕ) → append S n (starts S n) (start_row S n) ≡ starts S (suc n)
  unfolding starts
  append_start living n = append_new S n (starts S n) (start_row S n) (ap₂ ◌||◌ living (start_unlisted n n (le_refl n)))
