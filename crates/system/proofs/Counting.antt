-- A closed table has no fewer rows than the row order.
use mathlib.Core.Path.{◌≡◌, refl, sym, ◌∙◌, ap}
use mathlib.Core.Bool.{Bool, true, false}
use mathlib.Core.List.{List}
use mathlib.Core.Logic.{⊎_elim}
use Prim.Native.Nat.{ℕ, zero, suc, ◌≤◌, ◌<◌, suc-le-suc}
use native.Mathlib.Nat.{not-suc-le-zero, le_of_suc-le-suc, eq-or-lt_of_le}
use native.Mathlib.Omega.{arith}
use lib.Dec.{eqb}
use lib.ListN.{length}
use borrow.Author.Tests.{eqb-true, eqb-false}
use Rattle.system.specs.System.{System, Lawful, Row}
use Rattle.system.specs.RowOrder.{Entry, entry_at, NeedsMore, equal, answer_with, held}
use Rattle.system.specs.InnerTables.{Closed}
use Rattle.system.proofs.Listing.{Listing}
use Rattle.system.proofs.Runs.{invariant}
use Rattle.system.proofs.Tables.{closed_silent, closed_contains}
use Rattle.system.proofs.Verdicts.{silent_is}

-- x, but v in place of m
instead : ℕ → ℕ → ℕ → ℕ
instead m v x = elim (eqb x m) [ true ↦ v | false ↦ x ]

data Instead (m v x : ℕ) : ℕ → Type 0 where
  here : x ≡ m → Instead m v x v
  elsewhere : (x ≡ m → ⊥) → Instead m v x x

instead_is : (m v x : ℕ) → Instead m v x (instead m v x)
unfolding instead
instead_is m v x = go (eqb x m) refl
  where
    go : (b : Bool) → eqb x m ≡ b → Instead m v x (elim b [ true ↦ v | false ↦ x ])
    go true e = here (eqb-true x m e)
    go false e = elsewhere (eqb-false x m e)

-- n numbers below m, no two the same: n is at most m
pigeonhole : (n m : ℕ) (g : (i : ℕ) → i < n → ℕ) → ((i : ℕ) (h : i < n) → g i h < m) → ((i j : ℕ) (h : i < n) (k : j < n) → g i h ≡ g j k → i ≡ j) → n ≤ m
pigeonhole zero m g small apart = omega arith
pigeonhole (suc n) zero g small apart = absurd (not-suc-le-zero (small n (omega arith)))
pigeonhole (suc n) (suc m) g small apart =
    suc-le-suc
    (pigeonhole n m (λ i h. instead m (g n top) (g i (up i h)))
    (λ i h. inside i h (instead_is m (g n top) (g i (up i h))))
    (λ i j h k. differ i j h k (instead_is m (g n top) (g i (up i h))) (instead_is m (g n top) (g j (up j k)))))
  where
    top : n < suc n
    top = omega arith

    up : (i : ℕ) → i < n → i < suc n
    up i h = omega arith

    under : (i : ℕ) (h : i < suc n) → (g i h ≡ m → ⊥) → g i h < m
    under i h ne = ⊎_elim (λ e. absurd (ne e)) (λ l. l) (eq-or-lt_of_le (le_of_suc-le-suc (small i h)))

    inside : (i : ℕ) (h : i < n) {x : ℕ} → Instead m (g n top) (g i (up i h)) x → x < m
    inside i h (here e) = under n top (λ q. omega (arith, apart i n (up i h) top (e ∙ sym q)))
    inside i h (elsewhere ne) = under i (up i h) ne

    differ : (i j : ℕ) (h : i < n) (k : j < n) {x y : ℕ} → Instead m (g n top) (g i (up i h)) x → Instead m (g n top) (g j (up j k)) y → x ≡ y → i ≡ j
    differ i j h k (here e) (here f) q = apart i j (up i h) (up j k) (e ∙ sym f)
    differ i j h k (here e) (elsewhere f) q = absurd (omega (arith, apart n j top (up j k) q))
    differ i j h k (elsewhere e) (here f) q = absurd (omega (arith, apart i n (up i h) top q))
    differ i j h k (elsewhere e) (elsewhere f) q = apart i j (up i h) (up j k) q

module _ (S : System) where
  -- The table has at most m rows: each of them stands at a place below m.
  pub record Counted (Is : Row S → Type 0) (m : ℕ) : Type 0 where
    pub row_at : ℕ → Row S
    pub placed : (r : Row S) → Is r → (j : ℕ) × (j < m) × (row_at j ≡ r)

  -- none has fewer rows than are listed
  pub closed_count : {Is : Row S → Type 0} → Closed S Is → {m : ℕ} → Counted Is m → {es : List (Entry S)} {b : ℕ} → Listing S es b → length es ≤ m
  closed_count {Is} C {m} T {es} I =
      pigeonhole (length es) m (λ i h. (at i h).0) (λ i h. (at i h).1) (λ i j h k e. I.distinct i j h k (sym (at i h).2 ∙ ap T.row_at e ∙ (at j k).2))
    where
      at : (i : ℕ) → i < length es → (j : ℕ) × (j < m) × (T.row_at j ≡ (entry_at S es i).row)
      at i h = T.placed (entry_at S es i).row (closed_contains S C I (entry_at S es i).row (record { place = i; inside = h; there = refl }))

  -- as many rows as a closed table has are enough, and the answer is equal
  pub closed_answer : Lawful S → {Is : Row S → Type 0} → Closed S Is → {m : ℕ} → Counted Is m → answer_with S m ≡ equal (length (held S m))
  closed_answer L C {m} T = ⊎_elim (λ n. absurd (enough n)) (λ e. e) (silent_is S L (closed_silent S L C) m)
    where
      enough : NeedsMore S m → ⊥
      enough n = omega (arith, n.more, closed_count C T (invariant S L n.after).listing)
