-- Stages of tests: the first that refuses is the answer.
-- Assumes nothing.
use Prim.Native.Nat.{ℕ, ◌<◌, ◌≤◌}
use mathlib.Core.Bool.{Bool, true, false, ◌||◌, true≢false}
use mathlib.Core.List.{List, [], ◌∷◌, ◌++◌}
use Rattle.std.specs.Prelude.{Option, None, Some}
use mathlib.Core.Path.{◌≡◌, refl, ap, ap₂, ◌∙◌}
use borrow.Author.Tests.{eq-eqb, ne_eqb, lt-ltb, le-ltb}
use lib.ListN.{length}
use Rattle.std.proofs.Common.{◌==◌, position}
use Rattle.packet.proofs.Lowest.{position_lowest}
use Rattle.packet.specs.declared.Refusal.{Refusal}
use Rattle.packet.specs.Refusals.{Tested}
use Rattle.std.specs.Prelude.{Result, Ok, Err, IsErrAnd}
use Rattle.std.proofs.lemmas.Result.{err_from_is_err_and}
use Rattle.packet.specs.Lowest.{lowest}
use Rattle.packet.specs.Refusals.{refusal, refused_at, at_place, first_refused}
use Rattle.packet.specs.Sizes.{bad_count, zero_size, fields_stage}

-- the last test of an order
pub first_refused_last : (t : Tested) → first_refused (t ∷ []) ≡ t
unfolding first_refused
first_refused_last (Ok _) = refl
first_refused_last (Err r) = refl

-- a test that refuses ends the order
pub first_refused_refused : (t : Tested) (ts : List Tested) (r : Refusal) → t ≡ Err r → first_refused (t ∷ ts) ≡ Err r
unfolding first_refused
first_refused_refused t ts r e = ap (λ (u : Tested). first_refused (u ∷ ts)) e

-- a test that passes hands on to the next
pub first_refused_next : (t : Tested) (ts : List Tested) → t ≡ Ok tt → first_refused (t ∷ ts) ≡ first_refused ts
unfolding first_refused
first_refused_next t ts e = ap (λ (u : Tested). first_refused (u ∷ ts)) e

-- an error that `?` hands on
pub handed_on : {T E : Type 0} {e : E} (r : Result T E) → IsErrAnd r (λ y. y ≡ e) → r ≡ Err e
handed_on r h = let (y, is, same) = err_from_is_err_and r h in is ∙ ap Err same

-- an order within an order
pub first_refused_nested : (t : Tested) (ts : List Tested) → first_refused (t ∷ first_refused ts ∷ []) ≡ first_refused (t ∷ ts)
unfolding first_refused
first_refused_nested (Ok _) ts = first_refused_last (first_refused ts)
first_refused_nested (Err r) ts = refl

-- tests before others answer as one test
pub first_refused_append : (ts us : List Tested) → first_refused (ts ++ us) ≡ first_refused (first_refused ts ∷ us)
unfolding first_refused
first_refused_append [] us = refl
first_refused_append (Ok _ ∷ ts) us = first_refused_append ts us
first_refused_append (Err r ∷ ts) us = refl

-- what follows a test matters only where it passes
pub first_refused_after : {t u : Tested} (vs ws : List Tested) → t ≡ u → (t ≡ Ok tt → first_refused vs ≡ first_refused ws) → first_refused (t ∷ vs) ≡ first_refused (u ∷ ws)
unfolding first_refused
first_refused_after {t} {u} vs ws e same = ap (λ (x : Tested). first_refused (x ∷ vs)) e ∙ go u e
  where
    go : (x : Tested) → t ≡ x → first_refused (x ∷ vs) ≡ first_refused (x ∷ ws)
    go (Ok _) p = same p
    go (Err r) p = refl

-- a test before tests that were joined
pub before_tests : {r u : Tested} (t : Tested) (ts : List Tested) → r ≡ first_refused (t ∷ u ∷ []) → u ≡ first_refused ts → r ≡ first_refused (t ∷ ts)
before_tests t ts e f = e ∙ ap (λ (u : Tested). first_refused (t ∷ u ∷ [])) f ∙ first_refused_nested t ts

-- ---- an order that passes: each of its tests passes

pub refused≢passed : {r : Refusal} → ◌≡◌ {A = Tested} (Err r) (Ok tt) → ⊥
refused≢passed q = true≢false (cc)

pub first_refused_passed : (t : Tested) (ts : List Tested) → first_refused (t ∷ ts) ≡ Ok tt → (t ≡ Ok tt) × (first_refused ts ≡ Ok tt)
unfolding first_refused
first_refused_passed (Ok _) ts e = (refl, e)
first_refused_passed (Err r) ts e = absurd (refused≢passed e)

pub refused_at_passed : (number side : ℕ) (o : Option ℕ) → refused_at number side o ≡ Ok tt → o ≡ None
unfolding refused_at
refused_at_passed number side None e = refl
refused_at_passed number side (Some i) e = absurd (refused≢passed e)

pub at_place_none : (place : ℕ) (b : Bool) → at_place place b ≡ None → b ≡ false
unfolding at_place
at_place_none place false e = refl
at_place_none place true e = absurd (true≢false (cc))

-- ---- stage "fields"

module _ (sizes : List ℕ) where
  pub none_declared : length sizes ≡ 0 → fields_stage sizes ≡ Err (refusal 1 0 0)
  unfolding fields_stage bad_count refused_at at_place first_refused
  none_declared h = rw (eq-eqb (length sizes) 0 h)

  over_eight : (length sizes ≡ 0 → ⊥) → 8 < length sizes → bad_count sizes ≡ true
  unfolding bad_count
  over_eight declared over = ap₂ (λ (a b : Bool). a || b) (ne_eqb (length sizes) 0 declared) (lt-ltb 8 (length sizes) over)

  pub too_many : (length sizes ≡ 0 → ⊥) → 8 < length sizes → fields_stage sizes ≡ Err (refusal 1 0 0)
  unfolding fields_stage refused_at at_place first_refused
  too_many declared over = rw (over_eight declared over)

  one_to_eight : (length sizes ≡ 0 → ⊥) → length sizes ≤ 8 → bad_count sizes ≡ false
  unfolding bad_count
  one_to_eight declared few = ap₂ (λ (a b : Bool). a || b) (ne_eqb (length sizes) 0 declared) (le-ltb 8 (length sizes) few)

  pub few_fields : (length sizes ≡ 0 → ⊥) → length sizes ≤ 8 → fields_stage sizes ≡ refused_at 2 0 (lowest (zero_size sizes) (length sizes))
  unfolding fields_stage refused_at at_place first_refused
  few_fields declared few = rw (one_to_eight declared few) (first_refused_last _)

  pub zero_place : position (λ (s : ℕ). s == 0) sizes ≡ lowest (zero_size sizes) (length sizes)
  unfolding zero_size
  zero_place = position_lowest (λ s. s == 0) sizes
