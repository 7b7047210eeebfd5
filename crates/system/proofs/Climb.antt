-- What is read off a row's line of parents: it obeys the two equations that the definition means, and a list that grows keeps it.
use mathlib.Core.Path.{◌≡◌, refl, sym, ◌∙◌, subst, ap}
use mathlib.Core.List.{List}
use mathlib.Core.Logic.{◌⊎◌, inl, inr}
use Prim.Native.Nat.{ℕ, zero, suc, ◌≤◌, ◌<◌}
use native.Mathlib.Nat.{eq-or-lt_of_le}
use native.Mathlib.Omega.{arith}
use lib.ListN.{length}
use borrow.Author.Tests.{eq-eqb, ne_eqb}
use Rattle.system.specs.System.{System}
use Rattle.system.specs.RowOrder.{Entry, start_entry, entry_at, climbing, climb}
use Rattle.system.proofs.Basics.{Prefix, prefix_at, prefix_length, prefix_refl, induction}

module _ (S : System) where
  -- no row comes before its parent
  pub record Earlier (es : List (Entry S)) : Type 0 where
    pub earlier : (i : ℕ) → i < length es → (entry_at S es i).parent ≤ i

  -- nor does one of the first rows
  pub earlier_first : {es fs : List (Entry S)} → Prefix es fs → Earlier fs → Earlier es
  earlier_first p E = record { earlier = λ i h. subst (λ e. e.parent ≤ i) (prefix_at p (start_entry S 0) i h) (E.earlier i (omega (arith, prefix_length p))) }

  module _ {A : Type 0} (first : Entry S → A) (below : Entry S → A → A) where
    climbing_first : (n : ℕ) (es : List (Entry S)) (i : ℕ) → (entry_at S es i).parent ≡ i → climbing S first below n es i ≡ first (entry_at S es i)
    unfolding climbing
    climbing_first zero es i e = refl
    climbing_first (suc n) es i e = rw (eq-eqb (entry_at S es i).parent i e, climbing)

    climbing_below : (n : ℕ) (es : List (Entry S)) (i : ℕ) → (entry_at S es i).parent < i
        → climbing S first below (suc n) es i ≡ below (entry_at S es i) (climbing S first below n es (entry_at S es i).parent)
    unfolding climbing
    climbing_below n es i l = rw (ne_eqb (entry_at S es i).parent i (λ e. omega arith), climbing)

    -- where a list has grown, and with any fuel that is enough, the same is read off
    climbing_same : {es fs : List (Entry S)} → Earlier es → Prefix es fs
        → (i : ℕ) → (n m : ℕ) → i < length es → i ≤ n → i ≤ m → climbing S first below n fs i ≡ climbing S first below m es i
    climbing_same {es} {fs} E p = induction _ step
      where
        Same : ℕ → Type 0
        Same i = (n m : ℕ) → i < length es → i ≤ n → i ≤ m → climbing S first below n fs i ≡ climbing S first below m es i

        step : (i : ℕ) → ((j : ℕ) → j < i → Same j) → Same i
        step i ih n m h a b = go n m a b (eq-or-lt_of_le (E.earlier i h))
          where
            same : entry_at S fs i ≡ entry_at S es i
            same = prefix_at p (start_entry S 0) i h

            go : (n m : ℕ) → i ≤ n → i ≤ m → ((entry_at S es i).parent ≡ i) ⊎ ((entry_at S es i).parent < i) → climbing S first below n fs i ≡ climbing S first below m es i
            go n m a b (inl e) = climbing_first n fs i (ap (λ x. x.parent) same ∙ e) ∙ ap first same ∙ sym (climbing_first m es i e)
            go zero m a b (inr l) = absurd (omega arith)
            go (suc n) zero a b (inr l) = absurd (omega arith)
            go (suc n) (suc m) a b (inr l) =
                climbing_below n fs i (subst (λ x. x.parent < i) (sym same) l)
                ∙ ap (λ x. below x (climbing S first below n fs x.parent)) same
                ∙ ap (below (entry_at S es i)) (ih (entry_at S es i).parent l n m (omega arith) (omega arith) (omega arith))
                ∙ sym (climbing_below m es i l)

    -- a starting row, its own parent
    pub climb_first : (es : List (Entry S)) (i : ℕ) → (entry_at S es i).parent ≡ i → climb S first below es i ≡ first (entry_at S es i)
    unfolding climb
    climb_first es i e = climbing_first i es i e

    -- any other row
    pub climb_below : {es : List (Entry S)} → Earlier es → (i : ℕ) → i < length es → (entry_at S es i).parent < i
        → climb S first below es i ≡ below (entry_at S es i) (climb S first below es (entry_at S es i).parent)
    unfolding climb
    climb_below E zero h l = absurd (omega arith)
    climb_below {es} E (suc i) h l =
        climbing_below i es (suc i) l
        ∙ ap (below (entry_at S es (suc i))) (climbing_same E (prefix_refl es) (entry_at S es (suc i)).parent i (entry_at S es (suc i)).parent (omega arith) (omega arith) (omega arith))

    -- a list that grows keeps what is read off its rows
    pub climb_kept : {es fs : List (Entry S)} → Earlier es → Prefix es fs → (i : ℕ) → i < length es → climb S first below fs i ≡ climb S first below es i
    unfolding climb
    climb_kept E p i h = climbing_same E p i i i h (omega arith) (omega arith)
