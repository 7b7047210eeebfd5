-- Places among ascending values: each value has its own, and the lowest value that is not among them. Assumes nothing.
use Prim.Native.Nat.{ℕ, zero, suc, ◌<◌, ◌≤◌, ◌+◌}
use native.Mathlib.Nat.{not-suc-le-zero, le_of_suc-le-suc}
use native.Mathlib.Omega.{arith}
use mathlib.Core.Bool.{Bool, true, false, cond}
use mathlib.Core.List.{List, [], ◌∷◌}
use mathlib.Core.Logic.{◌⊎◌, inl, inr, ⊎_elim}
use mathlib.Core.Path.{◌≡◌, refl, sym, ap, ◌∙◌, subst}
use lib.Dec.{eqb}
use lib.ListN.{length, get_or}
use borrow.Author.Tests.{eq-eqb, ne_eqb, eqb-true, eqb-false}
use Rattle.packet.proofs.Tests.{lt_or_le}
use Rattle.policy.specs.InnerAscending.{Ascending, Among}
use Rattle.policy.specs.InnerEach.{Each}
use Rattle.policy.proofs.EachLaws.{each_map}
use Rattle.policy.proofs.Ascending.{each_among}
use Rattle.classes.specs.Named.{place_in, unnamed_from}

module _ (v : ℕ) where
  pub place_within : (ws : List ℕ) → place_in v ws ≤ length ws
  unfolding place_in
  place_within [] = omega arith
  place_within (w ∷ ws) = go (eqb v w) (place_within ws)
    where
      go : (b : Bool) → place_in v ws ≤ length ws → cond b 0 (suc (place_in v ws)) ≤ suc (length ws)
      go true l = omega arith
      go false l = omega arith

  pub place_named : (ws : List ℕ) → Among v ws → place_in v ws < length ws
  unfolding place_in Among
  place_named [] m = absurd m
  place_named (w ∷ ws) m = go (eqb v w) refl (⊎_elim (λ e. inl e) (λ k. inr (place_named ws k)) m)
    where
      go : (b : Bool) → eqb v w ≡ b → (v ≡ w) ⊎ (place_in v ws < length ws) → cond b 0 (suc (place_in v ws)) < suc (length ws)
      go true e l = omega arith
      go false e l = ⊎_elim (λ (s : v ≡ w). absurd (eqb-false v w e s)) (λ k. omega arith) l

  pub place_unnamed : (ws : List ℕ) → (Among v ws → ⊥) → place_in v ws ≡ length ws
  unfolding place_in Among
  place_unnamed [] m = refl
  place_unnamed (w ∷ ws) m = rw (ne_eqb v w (λ e. m (inl e))) (ap suc (place_unnamed ws (λ k. m (inr k))))

  -- what stands at its place is the value
  pub at_place : (ws : List ℕ) → place_in v ws < length ws → get_or ws (place_in v ws) 0 ≡ v
  unfolding place_in
  at_place [] l = absurd (not-suc-le-zero l)
  at_place (w ∷ ws) l = go (eqb v w) refl (at_place ws) l
    where
      go : (b : Bool) → eqb v w ≡ b → (place_in v ws < length ws → get_or ws (place_in v ws) 0 ≡ v) → cond b 0 (suc (place_in v ws)) < suc (length ws) → get_or (w ∷ ws) (cond b 0 (suc (place_in v ws))) 0 ≡ v
      go true e rest k = sym (eqb-true v w e)
      go false e rest k = rest (le_of_suc-le-suc k)

among_at : (ws : List ℕ) (x : ℕ) → x < length ws → Among (get_or ws x 0) ws
unfolding Among
among_at [] x l = absurd (not-suc-le-zero l)
among_at (w ∷ ws) zero l = inl refl
among_at (w ∷ ws) (suc x) l = inr (among_at ws x (le_of_suc-le-suc l))

-- the place of what stands at x is x
pub place_at : (ws : List ℕ) → Ascending ws → (x : ℕ) → x < length ws → place_in (get_or ws x 0) ws ≡ x
unfolding place_in Ascending
place_at [] a x l = absurd (not-suc-le-zero l)
place_at (w ∷ ws) a zero l = rw (eq-eqb w w refl)
place_at (w ∷ ws) a (suc x) l =
    let k = le_of_suc-le-suc l in
    let above = each_among (λ y. w < y) ws a.0 (get_or ws x 0) (among_at ws x k) in
    rw (ne_eqb (get_or ws x 0) w (λ e. omega (arith, above, e))) (ap suc (place_at ws a.1 x k))

-- what each of them is, what stands at x is
pub each_named : (P : ℕ → Type 0) (ws : List ℕ) → Each P ws → (x : ℕ) → x < length ws → P (get_or ws x 0)
each_named P ws e x l = each_among P ws e (get_or ws x 0) (among_at ws x l)

-- ---- the lowest value from v on that is not among them, of which none is below v

pub record Lowest (v : ℕ) (ws : List ℕ) (u : ℕ) : Type 0 where
  pub from : v ≤ u
  pub few : u ≤ v + length ws
  pub unnamed : Among u ws → ⊥
  pub named : (x : ℕ) → v ≤ x → x < u → Among x ws

pub lowest_unnamed : (v : ℕ) (ws : List ℕ) → Ascending ws → Each (λ w. v ≤ w) ws → Lowest v ws (unnamed_from v ws)
unfolding unnamed_from Ascending Each Among
lowest_unnamed v [] a e = record { from = omega arith; few = omega arith; unnamed = λ m. m; named = λ x l k. omega arith }
lowest_unnamed v (w ∷ ws) a e = go (eqb v w) refl (λ s. lowest_unnamed (suc v) ws a.1 (each_map (λ y. w < y) (λ y. suc v ≤ y) ws (λ y l. omega (arith, s)) a.0))
  where
    go : (b : Bool) → eqb v w ≡ b → (v ≡ w → Lowest (suc v) ws (unnamed_from (suc v) ws)) → Lowest v (w ∷ ws) (cond b (unnamed_from (suc v) ws) v)
    go true s rest =
        let same = eqb-true v w s in
        let r = rest same in
        record {
          from = omega (arith, r.from);
          few = omega (arith, r.few);
          unnamed = λ m. ⊎_elim (λ (k : unnamed_from (suc v) ws ≡ w). omega (arith, r.from)) r.unnamed m;
          named = λ x l k. ⊎_elim (λ (g : x < suc v). let here : x ≡ w = omega arith in inl here) (λ (g : suc v ≤ x). inr (r.named x g k)) (lt_or_le x (suc v));
        }
    go false s rest =
        let least = e.0 in
        record {
          from = omega arith;
          few = omega arith;
          unnamed = λ m. ⊎_elim (λ (k : v ≡ w). eqb-false v w s k) (λ k. let above = each_among (λ y. w < y) ws a.0 v k in omega arith) m;
          named = λ x l k. absurd (none x l k);
        }
      where
        none : (x : ℕ) → v ≤ x → x < v → ⊥
        none x l k = omega arith
