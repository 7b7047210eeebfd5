-- Right spines as a relation: one of every dup, also where dups share a number, as the dups of a right spine may.
use Prim.Native.Nat.{ℕ, zero, suc, ◌<◌}
use mathlib.Core.Bool.{Bool, true, false, cond, ◌&&◌}
use mathlib.Core.List.{List, ◌∷◌}
use mathlib.Core.Logic.{◌⊎◌, inl, inr, ⊎_map, ⊎_elim}
use mathlib.Core.Option.{Option, none, some, get_or, some-injective, none-ne-some}
use mathlib.Core.Path.{◌≡◌, refl, sym, ap, ap₂, ◌∙◌, subst}
use native.Mathlib.Nat.{not-suc-le-zero}
use native.Mathlib.Omega.{arith}
use lib.Dec.{T, eqb, eqb→eq}
use Rattle.packet.proofs.Tests.{and_true}
use Rattle.policy.specs.Legality.{occurrences, InFields}
use Rattle.policy.specs.Tree.{Policy, drop, id, field, dup, sum, seq, star, neg}
use Rattle.policy.specs.Visits.{labels, HasDup, Labelled}
use Rattle.policy.proofs.EachLaws.{one_same}
use Rattle.policy.proofs.LabelLaws.{has_one, has_either, labelled_sum, labelled_seq, labelled_star}
use Rattle.automaton.specs.Remainder.{or_else, followed_by, right_spine, remainder}
use Rattle.policy.specs.Tests.{negates_tests}
use Rattle.automaton.proofs.Tests.{eqb_true, T_true}

-- r is the right spine of a dup with number i
unfoldable pub Spine : Policy → ℕ → Policy → Type 0
Spine drop i r = ⊥
Spine id i r = ⊥
Spine (field a) i r = ⊥
Spine (dup j) i r = (i ≡ j) × (r ≡ id)
Spine (sum p q) i r = Spine p i r ⊎ Spine q i r
Spine (seq p q) i r = ((s : Policy) × Spine p i s × (r ≡ seq s q)) ⊎ Spine q i r
Spine (star p) i r = (s : Policy) × Spine p i s × (r ≡ seq s (star p))
Spine (neg p) i r = ⊥

pub spine_has : (p : Policy) (i : ℕ) (r : Policy) → Spine p i r → HasDup p i
unfolding Spine labels
spine_has drop i r h = absurd h
spine_has id i r h = absurd h
spine_has (field a) i r h = absurd h
spine_has (dup j) i r h = (has_one j i).1 h.0
spine_has (sum p q) i r (inl h) = (has_either p q i).1 (inl (spine_has p i r h))
spine_has (sum p q) i r (inr h) = (has_either p q i).1 (inr (spine_has q i r h))
spine_has (seq p q) i r (inl h) = (has_either p q i).1 (inl (spine_has p i h.0 h.1))
spine_has (seq p q) i r (inr h) = (has_either p q i).1 (inr (spine_has q i r h))
spine_has (star p) i r h = spine_has p i h.0 h.1
spine_has (neg p) i r h = absurd h

spine_fields : (sizes : List ℕ) (p : Policy) → InFields sizes p → (i : ℕ) (r : Policy) → Spine p i r → InFields sizes r
unfolding Spine InFields
spine_fields sizes drop f i r h = absurd h
spine_fields sizes id f i r h = absurd h
spine_fields sizes (field a) f i r h = absurd h
spine_fields sizes (dup j) f i r h = subst (InFields sizes) (sym h.1) tt
spine_fields sizes (sum p q) f i r (inl h) = spine_fields sizes p f.0 i r h
spine_fields sizes (sum p q) f i r (inr h) = spine_fields sizes q f.1 i r h
spine_fields sizes (seq p q) f i r (inl h) = subst (InFields sizes) (sym h.2) (spine_fields sizes p f.0 i h.0 h.1, f.1)
spine_fields sizes (seq p q) f i r (inr h) = spine_fields sizes q f.1 i r h
spine_fields sizes (star p) f i r h = subst (InFields sizes) (sym h.2) (spine_fields sizes p f i h.0 h.1, f)
spine_fields sizes (neg p) f i r h = absurd h

spine_negates : (p : Policy) → negates_tests p ≡ true → (i : ℕ) (r : Policy) → Spine p i r → negates_tests r ≡ true
unfolding Spine negates_tests
spine_negates drop n i r h = absurd h
spine_negates id n i r h = absurd h
spine_negates (field a) n i r h = absurd h
spine_negates (dup j) n i r h = ap negates_tests h.1
spine_negates (sum p q) n i r (inl h) = spine_negates p (and_true (negates_tests p) (negates_tests q) n).0 i r h
spine_negates (sum p q) n i r (inr h) = spine_negates q (and_true (negates_tests p) (negates_tests q) n).1 i r h
spine_negates (seq p q) n i r (inl h) =
    let k = and_true (negates_tests p) (negates_tests q) n in
    ap negates_tests h.2 ∙ ap₂ ◌&&◌ (spine_negates p k.0 i h.0 h.1) k.1
spine_negates (seq p q) n i r (inr h) = spine_negates q (and_true (negates_tests p) (negates_tests q) n).1 i r h
spine_negates (star p) n i r h = ap negates_tests h.2 ∙ ap₂ ◌&&◌ (spine_negates p n i h.0 h.1) n
spine_negates (neg p) n i r h = absurd h

-- a right spine of a right spine is one of the policy
spine_of_spine : (p : Policy) (j : ℕ) (r : Policy) → Spine p j r → (i : ℕ) (s : Policy) → Spine r i s → Spine p i s
unfolding Spine
spine_of_spine drop j r h i s k = absurd h
spine_of_spine id j r h i s k = absurd h
spine_of_spine (field a) j r h i s k = absurd h
spine_of_spine (dup l) j r h i s k = absurd (subst (λ x. Spine x i s) h.1 k)
spine_of_spine (sum p q) j r (inl h) i s k = inl (spine_of_spine p j r h i s k)
spine_of_spine (sum p q) j r (inr h) i s k = inr (spine_of_spine q j r h i s k)
spine_of_spine (seq p q) j r (inl h) i s k =
    ⊎_map (λ m. (m.0, spine_of_spine p j h.0 h.1 i m.0 m.1, m.2)) (λ m. m) (subst (λ x. Spine x i s) h.2 k)
spine_of_spine (seq p q) j r (inr h) i s k = inr (spine_of_spine q j r h i s k)
spine_of_spine (star p) j r h i s k =
    ⊎_elim (λ m. (m.0, spine_of_spine p j h.0 h.1 i m.0 m.1, m.2)) (λ m. m) (subst (λ x. Spine x i s) h.2 k)
spine_of_spine (neg p) j r h i s k = absurd h

-- ---- the right spine as a term

or_else_some : (a b : Option Policy) (r : Policy) → or_else a b ≡ some r → (a ≡ some r) ⊎ (b ≡ some r)
unfolding or_else
or_else_some none b r e = inr e
or_else_some (some s) b r e = inl e

followed_some : (o : Option Policy) (q r : Policy) → followed_by o q ≡ some r → (s : Policy) × (o ≡ some s) × (r ≡ seq s q)
unfolding followed_by
followed_some none q r e = absurd (none-ne-some r e)
followed_some (some s) q r e = (s, refl, sym (some-injective _ _ e))

term_spine : (p : Policy) (i : ℕ) (r : Policy) → right_spine p i ≡ some r → Spine p i r
unfolding right_spine Spine
term_spine drop i r e = absurd (none-ne-some r e)
term_spine id i r e = absurd (none-ne-some r e)
term_spine (field a) i r e = absurd (none-ne-some r e)
term_spine (dup j) i r e = go (eqb i j) (eqb→eq i j) e
  where
    go : (b : Bool) → (T b → i ≡ j) → cond {A = Option Policy} b (some id) none ≡ some r → (i ≡ j) × (r ≡ id)
    go true f e = (f tt, sym (some-injective _ _ e))
    go false f e = absurd (none-ne-some r e)
term_spine (sum p q) i r e = ⊎_map (term_spine p i r) (term_spine q i r) (or_else_some (right_spine p i) (right_spine q i) r e)
term_spine (seq p q) i r e =
    ⊎_map (λ h. let k = followed_some (right_spine p i) q r h in (k.0, term_spine p i k.0 k.1, k.2)) (term_spine q i r)
    (or_else_some (followed_by (right_spine p i) q) (right_spine q i) r e)
term_spine (star p) i r e = let k = followed_some (right_spine p i) (star p) r e in (k.0, term_spine p i k.0 k.1, k.2)
term_spine (neg p) i r e = absurd (none-ne-some r e)

no_term : (p : Policy) (i : ℕ) → (HasDup p i → ⊥) → right_spine p i ≡ none
no_term p i n = go (right_spine p i) refl
  where
    go : (o : Option Policy) → right_spine p i ≡ o → right_spine p i ≡ none
    go none e = e
    go (some r) e = absurd (n (spine_has p i r (term_spine p i r e)))

-- where no two dups have the same number
spine_term : {k : ℕ} (p : Policy) → Labelled k p → (i : ℕ) (r : Policy) → Spine p i r → right_spine p i ≡ some r
unfolding right_spine Spine or_else followed_by
spine_term drop l i r h = absurd h
spine_term id l i r h = absurd h
spine_term (field a) l i r h = absurd h
spine_term (dup j) l i r h =
    ap (λ b. cond {A = Option Policy} b (some id) none) (T_true (eqb i j) (eqb_true i j h.0)) ∙ ap {B = Option Policy} some (sym h.1)
spine_term (sum p q) l i r (inl h) = ap (λ o. or_else o (right_spine q i)) (spine_term p (labelled_sum l).left i r h)
spine_term (sum p q) l i r (inr h) =
    let s = labelled_sum l in
    ap (λ o. or_else o (right_spine q i)) (no_term p i (λ a. s.apart i a (spine_has q i r h))) ∙ spine_term q s.right i r h
spine_term (seq p q) l i r (inl h) =
    ap (λ o. or_else (followed_by o q) (right_spine q i)) (spine_term p (labelled_seq l).left i h.0 h.1) ∙ ap {B = Option Policy} some (sym h.2)
spine_term (seq p q) l i r (inr h) =
    let s = labelled_seq l in
    ap (λ o. or_else (followed_by o q) (right_spine q i)) (no_term p i (λ a. s.apart i a (spine_has q i r h))) ∙ spine_term q s.right i r h
spine_term (star p) l i r h = ap (λ o. followed_by o (star p)) (spine_term p (labelled_star l) i h.0 h.1) ∙ ap {B = Option Policy} some (sym h.2)
spine_term (neg p) l i r h = absurd h

-- ---- remainders

pub spine_remainder : {k : ℕ} (p : Policy) → Labelled k p → (i : ℕ) (r : Policy) → Spine p i r → remainder p i ≡ r
unfolding remainder
spine_remainder p l zero r h = absurd (not-suc-le-zero (l.least 0 (spine_has p 0 r h)))
spine_remainder p l (suc i) r h = ap (λ o. get_or o drop) (spine_term p l (suc i) r h)

-- a remainder of which something holds that drop has not is a right spine
pub is_spine : (F : Policy → Type 0) → (F drop → ⊥) → (p : Policy) (i : ℕ) → F (remainder p (suc i)) → Spine p (suc i) (remainder p (suc i))
unfolding remainder
is_spine F n p i = go (right_spine p (suc i)) refl
  where
    go : (o : Option Policy) → right_spine p (suc i) ≡ o → F (get_or o drop) → Spine p (suc i) (get_or o drop)
    go none e x = absurd (n x)
    go (some r) e x = term_spine p (suc i) r e

-- and one of those that `of_marked` goes over
pub remainder_listed : (F : Policy → Type 0) → (F drop → ⊥) → (p : Policy) (j : ℕ) → F (remainder p j) → 0 < occurrences j (0 ∷ labels p)
unfolding occurrences
remainder_listed F n p zero x = omega (arith, one_same 0 0 refl)
remainder_listed F n p (suc j) x = omega (arith, spine_has p (suc j) (remainder p (suc j)) (is_spine F n p j x))

pub remainder_fields : (sizes : List ℕ) (p : Policy) → InFields sizes p → (j : ℕ) → InFields sizes (remainder p j)
unfolding InFields remainder
remainder_fields sizes p f zero = f
remainder_fields sizes p f (suc j) = go (right_spine p (suc j)) refl
  where
    go : (o : Option Policy) → right_spine p (suc j) ≡ o → InFields sizes (get_or o drop)
    go none e = tt
    go (some r) e = spine_fields sizes p f (suc j) r (term_spine p (suc j) r e)

pub remainder_negates : (p : Policy) → negates_tests p ≡ true → (j : ℕ) → negates_tests (remainder p j) ≡ true
unfolding negates_tests remainder
remainder_negates p n zero = n
remainder_negates p n (suc j) = go (right_spine p (suc j)) refl
  where
    go : (o : Option Policy) → right_spine p (suc j) ≡ o → negates_tests (get_or o drop) ≡ true
    go none e = refl
    go (some r) e = spine_negates p n (suc j) r (term_spine p (suc j) r e)

-- a right spine of a remainder is one of the policy
pub remainder_spine : (p : Policy) (j i : ℕ) (s : Policy) → Spine (remainder p j) i s → Spine p i s
unfolding Spine remainder
remainder_spine p zero i s h = h
remainder_spine p (suc j) i s h = spine_of_spine p (suc j) (remainder p (suc j)) (is_spine (λ r. Spine r i s) (λ k. k) p j h) i s h
