-- Packet sets as masks: members of each set, and the rounds of a star.
use Prim.Native.Nat.{ℕ, zero, suc, ◌+◌, ◌^◌, ◌≤◌, ◌<◌, zero-le, suc-le-suc}
use mathlib.Core.Bool.{Bool, true, false, ◌&&◌, ◌||◌, not, cond}
use mathlib.Core.List.{List, [], ◌∷◌}
use mathlib.Core.Logic.{◌⊎◌, inl, inr, ⊎_map, ◌↔◌}
use mathlib.Core.Path.{◌≡◌, refl, sym, ap, subst}
use native.Mathlib.Nat.{le_trans, le_refl, le-suc, eq-or-lt_of_le, le_of_suc-le-suc, not-suc-le-zero}
use native.Mathlib.Decide.{ℕ_discrete}
use native.Mathlib.Omega.{arith}
use lib.Dec.{T, eqb, eqb→eq}
use lib.Pow.{pow_pos}
use Rattle.packet.specs.Packets.{value_at, changed}
use Rattle.packet.specs.Sizes.{product}
use Rattle.policy.specs.declared.FieldAction.{FieldAction}
use Rattle.policy.specs.declared.FieldAction.TheVariants.{Equals, Differs, Set}
use Rattle.policy.specs.Legality.{occurrences}
use Rattle.policy.specs.Meaning.{numbered}
use Rattle.policy.specs.NodeLists.{one}
use Rattle.policy.proofs.EachLaws.{one_same, one_other}
use Rattle.packet_set.specs.Bits.{bit, mask_of}
use Rattle.automaton.specs.State.{PacketSet, any_below, set_of, single, union, union_over, takes, image, star_rounds}
use Rattle.automaton.proofs.Tests.{true_T, eqb_true, same_test, both, either}
use Rattle.packet_set.proofs.Digits.{bits_same, bit_of_zero}
use Rattle.packet_set.proofs.Masks.{mask_of_lt, bit_mask_of, bit_below}
use Rattle.automaton.proofs.Words.{Acts}

pub any_below_iff : (n : ℕ) (test : ℕ → Bool) → T (any_below n test) ↔ ((i : ℕ) × (i < n) × T (test i))
unfolding any_below
any_below_iff zero test = (λ h. absurd h, λ h. absurd (not-suc-le-zero h.1))
any_below_iff (suc n) test = (λ h. there ((either (any_below n test) (test n)).0 h) (any_below_iff n test).0, λ h. back h (eq-or-lt_of_le (le_of_suc-le-suc h.1)) (any_below_iff n test).1)
  where
    there : T (any_below n test) ⊎ T (test n) → (T (any_below n test) → (i : ℕ) × (i < n) × T (test i)) → (i : ℕ) × (i < suc n) × T (test i)
    there (inl h) f = let r = f h in (r.0, le_trans r.1 (le-suc n), r.2)
    there (inr h) f = (n, le_refl (suc n), h)

    back : (h : (i : ℕ) × (i < suc n) × T (test i)) → (h.0 ≡ n) ⊎ (h.0 < n) → ((i : ℕ) × (i < n) × T (test i) → T (any_below n test)) → T (any_below n test || test n)
    back h (inl e) f = (either (any_below n test) (test n)).1 (inr (subst (λ (k : ℕ). T (test k)) e h.2))
    back h (inr l) f = (either (any_below n test) (test n)).1 (inl (f (h.0, l, h.2)))

module _ (sizes : List ℕ) where
  -- a set of packets below N
  abbrev pub Fits : PacketSet → Type 0
  Fits X = X < 2 ^ product sizes

  pub below : (X : PacketSet) → Fits X → (γ : ℕ) → T (bit X γ) → γ < product sizes
  below X h γ t = bit_below (product sizes) X γ h t

  pub set_of_fits : (test : ℕ → Bool) → Fits (set_of sizes test)
  unfolding set_of
  set_of_fits test = mask_of_lt (product sizes) test

  pub set_of_iff : (test : ℕ → Bool) (γ : ℕ) → T (bit (set_of sizes test) γ) ↔ ((γ < product sizes) × T (test γ))
  unfolding set_of
  set_of_iff test γ = (
    λ t. let l = bit_below (product sizes) (mask_of (product sizes) test) γ (mask_of_lt (product sizes) test) t in
        (l, subst T (bit_mask_of (product sizes) test γ l) t),
    λ h. subst T (sym (bit_mask_of (product sizes) test γ h.0)) h.1,
  )

  pub union_fits : (X Y : PacketSet) → Fits (union sizes X Y)
  unfolding union
  union_fits X Y = set_of_fits (λ γ. bit X γ || bit Y γ)

  pub union_iff : (X Y : PacketSet) → Fits X → Fits Y → (γ : ℕ) → T (bit (union sizes X Y) γ) ↔ (T (bit X γ) ⊎ T (bit Y γ))
  unfolding union
  union_iff X Y hx hy γ = (
    λ t. (either (bit X γ) (bit Y γ)).0 ((set_of_iff (λ γ. bit X γ || bit Y γ) γ).0 t).1,
    λ h. (set_of_iff (λ γ. bit X γ || bit Y γ) γ).1 (bound h, (either (bit X γ) (bit Y γ)).1 h),
  )
    where
      bound : T (bit X γ) ⊎ T (bit Y γ) → γ < product sizes
      bound (inl t) = below X hx γ t
      bound (inr t) = below Y hy γ t

  -- two sets with the same members are one
  pub same_set : (X Y : PacketSet) → Fits X → Fits Y → ((γ : ℕ) → T (bit X γ) → T (bit Y γ)) → ((γ : ℕ) → T (bit Y γ) → T (bit X γ)) → X ≡ Y
  same_set X Y hx hy f g = bits_same (product sizes) X Y hx hy (λ γ l. same_test (bit X γ) (bit Y γ) (f γ) (g γ))

  pub single_fits : (β : ℕ) → Fits (single sizes β)
  unfolding single
  single_fits β = set_of_fits (λ γ. eqb γ β)

  pub single_iff : (β γ : ℕ) → T (bit (single sizes β) γ) ↔ ((β < product sizes) × (γ ≡ β))
  unfolding single
  single_iff β γ = (
    λ t. let s = (set_of_iff (λ γ. eqb γ β) γ).0 t in
        let e = eqb→eq γ β s.1 in
        (subst (λ x. x < product sizes) e s.0, e),
    λ h. (set_of_iff (λ γ. eqb γ β) γ).1 (subst (λ x. x < product sizes) (sym h.1) h.0, eqb_true γ β h.1),
  )

  pub empty : (γ : ℕ) → T (bit 0 γ) → ⊥
  empty γ t = subst T (bit_of_zero γ) t

  pub empty_fits : Fits 0
  empty_fits = pow_pos (product sizes)

  -- a set, or the empty one
  pub cond_fits : (b : Bool) (X : PacketSet) → Fits X → Fits (cond b X 0)
  cond_fits true X h = h
  cond_fits false X h = empty_fits

  pub cond_iff : (b : Bool) (X : PacketSet) (γ : ℕ) → T (bit (cond b X 0) γ) ↔ (T b × T (bit X γ))
  cond_iff true X γ = (λ t. (tt, t), λ h. h.1)
  cond_iff false X γ = (λ t. absurd (empty γ t), λ h. absurd h.0)

  pub union_over_fits : (set : ℕ → PacketSet) (is : List ℕ) → Fits (union_over sizes set is)
  unfolding union_over
  union_over_fits set [] = empty_fits
  union_over_fits set (c ∷ is) = union_fits (set c) (union_over sizes set is)

  pub union_over_iff : (set : ℕ → PacketSet) → ((i : ℕ) → Fits (set i)) → (is : List ℕ) (γ : ℕ)
      → T (bit (union_over sizes set is) γ) ↔ ((i : ℕ) × (0 < occurrences i is) × T (bit (set i) γ))
  unfolding union_over occurrences
  union_over_iff set fits [] γ = (λ t. absurd (empty γ t), λ h. absurd (not-suc-le-zero h.1))
  union_over_iff set fits (c ∷ is) γ = (λ t. there (e.0 t) (union_over_iff set fits is γ).0, λ h. e.1 (back h (ℕ_discrete c h.0) (union_over_iff set fits is γ).1))
    where
      e : T (bit (union sizes (set c) (union_over sizes set is)) γ) ↔ (T (bit (set c) γ) ⊎ T (bit (union_over sizes set is) γ))
      e = union_iff (set c) (union_over sizes set is) (fits c) (union_over_fits set is) γ

      there : T (bit (set c) γ) ⊎ T (bit (union_over sizes set is) γ)
          → (T (bit (union_over sizes set is) γ) → (i : ℕ) × (0 < occurrences i is) × T (bit (set i) γ))
          → (i : ℕ) × (0 < one (eqb c i) + occurrences i is) × T (bit (set i) γ)
      there (inl t) f = (c, omega (arith, one_same c c refl), t)
      there (inr t) f = let r = f t in (r.0, omega (arith, r.1), r.2)

      back : (h : (i : ℕ) × (0 < one (eqb c i) + occurrences i is) × T (bit (set i) γ)) → Dec (c ≡ h.0)
          → ((i : ℕ) × (0 < occurrences i is) × T (bit (set i) γ) → T (bit (union_over sizes set is) γ)) → T (bit (set c) γ) ⊎ T (bit (union_over sizes set is) γ)
      back h (yes q) f = inl (subst (λ x. T (bit (set x) γ)) (sym q) h.2)
      back h (no n) f = inr (f (h.0, omega (arith, one_other c h.0 n, h.1), h.2))

  takes_iff : (a : FieldAction) (α γ : ℕ) → T (takes sizes a α γ) ↔ Acts (numbered sizes) a α γ
  unfolding takes Acts
  takes_iff (Equals f v) α γ =
      let e = both (eqb (value_at sizes f α) v) (eqb γ α) in
      (λ t. let h = e.0 t in (h.0, eqb→eq γ α h.1), λ h. e.1 (h.0, eqb_true γ α h.1))
  takes_iff (Differs f v) α γ =
      let e = both (not (eqb (value_at sizes f α) v)) (eqb γ α) in
      (λ t. let h = e.0 t in (h.0, eqb→eq γ α h.1), λ h. e.1 (h.0, eqb_true γ α h.1))
  takes_iff (Set f v) α γ = (eqb→eq γ (changed sizes f v α), eqb_true γ (changed sizes f v α))

  pub image_fits : (a : FieldAction) (X : PacketSet) → Fits (image sizes a X)
  unfolding image
  image_fits a X = set_of_fits (λ γ. any_below (product sizes) (λ α. bit X α && takes sizes a α γ))

  -- for an action that keeps packets below N
  pub image_iff : (a : FieldAction) → ((α γ : ℕ) → α < product sizes → Acts (numbered sizes) a α γ → γ < product sizes) → (X : PacketSet) → Fits X → (γ : ℕ)
      → T (bit (image sizes a X) γ) ↔ ((α : ℕ) × T (bit X α) × Acts (numbered sizes) a α γ)
  unfolding image
  image_iff a keeps X hx γ =
      let outer = set_of_iff (λ γ. any_below (product sizes) (λ α. bit X α && takes sizes a α γ)) γ in
      let inner = any_below_iff (product sizes) (λ α. bit X α && takes sizes a α γ) in (
        λ t. let r = inner.0 (outer.0 t).1 in
            let h = (both (bit X r.0) (takes sizes a r.0 γ)).0 r.2 in
            (r.0, h.0, (takes_iff a r.0 γ).0 h.1),
        λ h. let l = below X hx h.0 h.1 in
            outer.1 (
              keeps h.0 γ l h.2,
              inner.1 (h.0, l, (both (bit X h.0) (takes sizes a h.0 γ)).1 (h.1, (takes_iff a h.0 γ).1 h.2)),
            ),
      )

-- ---- counting: N rounds suffice

count : ℕ → PacketSet → ℕ
count zero X = 0
count (suc n) X = count n X + one (bit X n)

one_le : (a b : Bool) → (T a → T b) → one a ≤ one b
unfolding one
one_le true true f = le_refl 1
one_le true false f = absurd (f tt)
one_le false b f = zero-le

one_le_one : (b : Bool) → one b ≤ 1
unfolding one
one_le_one true = le_refl 1
one_le_one false = zero-le

one_lt : (a b : Bool) → (T a → ⊥) → T b → one a < one b
unfolding one
one_lt true b n t = absurd (n tt)
one_lt false true n t = le_refl 1
one_lt false false n t = absurd t

count_le : (n : ℕ) (X : PacketSet) → count n X ≤ n
unfolding count
count_le zero X = zero-le
count_le (suc n) X = omega (arith, count_le n X, one_le_one (bit X n))

count_mono : (n : ℕ) (X Y : PacketSet) → ((γ : ℕ) → T (bit X γ) → T (bit Y γ)) → count n X ≤ count n Y
unfolding count
count_mono zero X Y f = zero-le
count_mono (suc n) X Y f = omega (arith, count_mono n X Y f, one_le (bit X n) (bit Y n) (f n))

-- Y is within X below n, or it has a member below n that X lacks and so more of them
more_or_same : (n : ℕ) (X Y : PacketSet) → ((γ : ℕ) → T (bit X γ) → T (bit Y γ))
    → ((γ : ℕ) → γ < n → T (bit Y γ) → T (bit X γ)) ⊎ (count n X < count n Y)
unfolding count
more_or_same zero X Y f = inl (λ γ l t. absurd (not-suc-le-zero l))
more_or_same (suc n) X Y f = go (more_or_same n X Y f) (bit X n) (bit Y n) refl refl
  where
    Goal : Type 0
    Goal = ((γ : ℕ) → γ < suc n → T (bit Y γ) → T (bit X γ)) ⊎ (count n X + one (bit X n) < count n Y + one (bit Y n))

    extend : ((γ : ℕ) → γ < n → T (bit Y γ) → T (bit X γ)) → (T (bit Y n) → T (bit X n)) → (γ : ℕ) → (γ ≡ n) ⊎ (γ < n) → T (bit Y γ) → T (bit X γ)
    extend h k γ (inl e) t = subst (λ x. T (bit X x)) (sym e) (k (subst (λ x. T (bit Y x)) e t))
    extend h k γ (inr l) t = h γ l t

    same : ((γ : ℕ) → γ < n → T (bit Y γ) → T (bit X γ)) → (T (bit Y n) → T (bit X n)) → Goal
    same h k = inl (λ γ l t. extend h k γ (eq-or-lt_of_le (le_of_suc-le-suc l)) t)

    go : ((γ : ℕ) → γ < n → T (bit Y γ) → T (bit X γ)) ⊎ (count n X < count n Y) → (a b : Bool) → bit X n ≡ a → bit Y n ≡ b → Goal
    go (inr l) a b ea eb = inr (omega (arith, one_le (bit X n) (bit Y n) (f n)))
    go (inl h) true b ea eb = same h (λ t. true_T ea)
    go (inl h) false false ea eb = same h (λ t. absurd (subst T eb t))
    go (inl h) false true ea eb = inr (omega (arith, count_mono n X Y f, one_lt (bit X n) (bit Y n) (λ t. subst T ea t) (true_T eb)))

module _ (sizes : List ℕ) (body : PacketSet → PacketSet) (fits : (Y : PacketSet) → Fits sizes Y → Fits sizes (body Y)) (X : PacketSet) (hx : Fits sizes X) where
  pub rounds_fits : (k : ℕ) → Fits sizes (star_rounds sizes k body X)
  unfolding star_rounds
  rounds_fits zero = hx
  rounds_fits (suc k) = union_fits sizes (star_rounds sizes k body X) (body (star_rounds sizes k body X))

  -- a round adds what the body makes
  pub round_iff : (k γ : ℕ) → T (bit (star_rounds sizes (suc k) body X) γ) ↔ (T (bit (star_rounds sizes k body X) γ) ⊎ T (bit (body (star_rounds sizes k body X)) γ))
  unfolding star_rounds
  round_iff k γ = union_iff sizes (star_rounds sizes k body X) (body (star_rounds sizes k body X)) (rounds_fits k) (fits (star_rounds sizes k body X) (rounds_fits k)) γ

  -- once a round adds nothing, no later one does
  stays : (k : ℕ) → star_rounds sizes (suc k) body X ≡ star_rounds sizes k body X → star_rounds sizes (suc (suc k)) body X ≡ star_rounds sizes (suc k) body X
  unfolding star_rounds
  stays k e = ap (λ Y. union sizes Y (body Y)) e

  grows : (k : ℕ) → (star_rounds sizes (suc k) body X ≡ star_rounds sizes k body X) ⊎ (count (product sizes) (star_rounds sizes k body X) < count (product sizes) (star_rounds sizes (suc k) body X))
  grows k = go (more_or_same (product sizes) (star_rounds sizes k body X) (star_rounds sizes (suc k) body X) (λ γ t. (round_iff k γ).1 (inl t)))
    where
      go : ((γ : ℕ) → γ < product sizes → T (bit (star_rounds sizes (suc k) body X) γ) → T (bit (star_rounds sizes k body X) γ)) ⊎ (count (product sizes) (star_rounds sizes k body X) < count (product sizes) (star_rounds sizes (suc k) body X))
          → (star_rounds sizes (suc k) body X ≡ star_rounds sizes k body X) ⊎ (count (product sizes) (star_rounds sizes k body X) < count (product sizes) (star_rounds sizes (suc k) body X))
      go (inl h) =
          inl
          (same_set sizes (star_rounds sizes (suc k) body X) (star_rounds sizes k body X) (rounds_fits (suc k)) (rounds_fits k)
          (λ γ t. h γ (below sizes (star_rounds sizes (suc k) body X) (rounds_fits (suc k)) γ t) t) (λ γ t. (round_iff k γ).1 (inl t)))
      go (inr l) = inr l

  reach : (k : ℕ) → (star_rounds sizes (suc k) body X ≡ star_rounds sizes k body X) ⊎ (k < count (product sizes) (star_rounds sizes (suc k) body X))
  reach zero = ⊎_map (λ e. e) (λ l. le_trans (suc-le-suc zero-le) l) (grows zero)
  reach (suc k) = go (reach k)
    where
      go : (star_rounds sizes (suc k) body X ≡ star_rounds sizes k body X) ⊎ (k < count (product sizes) (star_rounds sizes (suc k) body X))
          → (star_rounds sizes (suc (suc k)) body X ≡ star_rounds sizes (suc k) body X) ⊎ (suc k < count (product sizes) (star_rounds sizes (suc (suc k)) body X))
      go (inl e) = inl (stays k e)
      go (inr l) = ⊎_map (λ e. e) (λ m. le_trans (suc-le-suc l) m) (grows (suc k))

  -- N rounds suffice
  pub rounds_enough : star_rounds sizes (suc (product sizes)) body X ≡ star_rounds sizes (product sizes) body X
  rounds_enough = go (reach (product sizes))
    where
      go : (star_rounds sizes (suc (product sizes)) body X ≡ star_rounds sizes (product sizes) body X) ⊎ (product sizes < count (product sizes) (star_rounds sizes (suc (product sizes)) body X))
          → star_rounds sizes (suc (product sizes)) body X ≡ star_rounds sizes (product sizes) body X
      go (inl e) = e
      go (inr l) = absurd (omega (arith, count_le (product sizes) (star_rounds sizes (suc (product sizes)) body X)))
