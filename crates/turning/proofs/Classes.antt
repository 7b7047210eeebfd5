-- The classes of declared values, worked out from the core sizes. Assumes nothing.
use Prim.Native.Nat.{ℕ, zero, suc, ◌<◌}
use native.Mathlib.Nat.{not-suc-le-zero, le_of_suc-le-suc}
use native.Mathlib.Omega.{arith}
use mathlib.Core.Bool.{Bool, true, false, cond}
use mathlib.Core.List.{List, [], ◌∷◌}
use mathlib.Core.Path.{◌≡◌, refl, sym, ap, ap₂, ◌∙◌, subst}
use lib.Dec.{eqb}
use lib.ListN.{length, get_or}
use borrow.Author.Tests.{eqb-true, eq-eqb, ne_eqb}
use Rattle.packet.specs.Packets.{Declared, number_of}
use Rattle.policy.specs.NodeLists.{NodeLists}
use Rattle.policy.specs.Mentions.{mentioned, core_from, core_sizes}
use Rattle.classes.specs.Classing.{each_field, class_number}
use Rattle.classes.specs.Mentioned.{by_mention}
use Rattle.turning.specs.Turning.{class_in, classes_in}

pub one_class : (count value : ℕ) → count ≡ 1 → 0 ≡ class_in count value
unfolding class_in
one_class count value e = sym (ap (λ (b : Bool). cond b 0 value) (eq-eqb count 1 e))

pub own_class : (count value : ℕ) → (count ≡ 1 → ⊥) → value ≡ class_in count value
unfolding class_in
own_class count value h = sym (ap (λ (b : Bool). cond b 0 value) (ne_eqb count 1 h))

-- the class of field i
pub class_at : (cs vs : List ℕ) (i : ℕ) → length vs ≡ length cs → i < length cs → get_or (classes_in cs vs) i 0 ≡ class_in (get_or cs i 0) (get_or vs i 0)
unfolding classes_in
class_at [] vs i e h = absurd (not-suc-le-zero h)
class_at (c ∷ cs) [] i e h = omega arith
class_at (c ∷ cs) (v ∷ vs) zero e h = refl
class_at (c ∷ cs) (v ∷ vs) (suc i) e h = class_at cs vs i (omega arith) (le_of_suc-le-suc h)

module _ (Ls : List NodeLists) where
  -- by mention and by the number of classes the same
  class_same : (m : Bool) (s v : ℕ) → v < s → cond m v 0 ≡ class_in (cond m s 1) v
  unfolding class_in
  class_same false s v h = sym (ap (λ (b : Bool). cond b 0 v) (eq-eqb 1 1 refl))
  class_same true s v h = go (eqb s 1) refl
    where
      go : (b : Bool) → eqb s 1 ≡ b → v ≡ cond (eqb s 1) 0 v
      go true e = let one = eqb-true s 1 e in let none : v ≡ 0 = omega (arith, one) in none ∙ sym (ap (λ (b : Bool). cond b 0 v) e)
      go false e = sym (ap (λ (b : Bool). cond b 0 v) e)

  class_small : (m : Bool) (s v : ℕ) → v < s → cond m v 0 < cond m s 1
  class_small true s v h = h
  class_small false s v h = omega arith

  from_same : (f : ℕ) (sizes vs : List ℕ) → Declared sizes vs → each_field (λ g v. cond (mentioned Ls g) v 0) f vs ≡ classes_in (core_from Ls f sizes) vs
  unfolding Declared each_field classes_in core_from
  from_same f [] [] d = refl
  from_same f [] (v ∷ vs) d = absurd d
  from_same f (s ∷ ss) [] d = absurd d
  from_same f (s ∷ ss) (v ∷ vs) d = ap₂ (λ (x : ℕ) (xs : List ℕ). x ∷ xs) (class_same (mentioned Ls f) s v d.0) (from_same (suc f) ss vs d.1)

  from_declared : (f : ℕ) (sizes vs : List ℕ) → Declared sizes vs → Declared (core_from Ls f sizes) (each_field (λ g v. cond (mentioned Ls g) v 0) f vs)
  unfolding Declared each_field core_from
  from_declared f [] [] d = tt
  from_declared f [] (v ∷ vs) d = absurd d
  from_declared f (s ∷ ss) [] d = absurd d
  from_declared f (s ∷ ss) (v ∷ vs) d = (class_small (mentioned Ls f) s v d.0, from_declared (suc f) ss vs d.1)

  module _ (sizes vs : List ℕ) (d : Declared sizes vs) where
    pub classes_number : class_number (by_mention Ls sizes) vs ≡ number_of (core_sizes Ls sizes) (classes_in (core_sizes Ls sizes) vs)
    unfolding class_number core_sizes
    classes_number = ap (number_of (core_from Ls 0 sizes)) (from_same 0 sizes vs d)

    pub classes_declared : Declared (core_sizes Ls sizes) (classes_in (core_sizes Ls sizes) vs)
    unfolding core_sizes
    classes_declared = subst (Declared (core_from Ls 0 sizes)) (from_same 0 sizes vs d) (from_declared 0 sizes vs d)
