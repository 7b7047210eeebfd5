-- What a visit asks of its children, and what it leaves in the lists.
use Prim.Native.Nat.{ℕ, zero, suc, ◌+◌, ◌/◌, ◌%◌, ◌≤◌, ◌<◌}
use mathlib.Core.Bool.{Bool, true, false, ◌&&◌, cond}
use mathlib.Core.List.{List}
use mathlib.Core.Logic.{◌⊎◌, inl, inr, ⊎_elim}
use mathlib.Core.Path.{◌≡◌, refl, sym, ap, ◌∙◌, subst}
use native.Mathlib.Decide.{dec_lt}
use native.Mathlib.Nat.{not-suc-le-zero, eq-or-lt_of_le, le_of_suc-le-suc}
use native.Mathlib.Omega.{arith}
use lib.Dec.{T, eqb, ltb, ltb→lt}
use lib.ListN.{length}
use Rattle.packet.specs.Sizes.{product}
use Rattle.packet_set.specs.InnerMembers.{Members, Within, member}
use Rattle.packet_set.specs.Bits.{bit}
use Rattle.packet_set.proofs.Digits.{bit_of_zero}
use Rattle.automaton.proofs.Tests.{both, either}
use Rattle.spans.specs.Spans.{slot, has_mark, touched, Spanned, Noted, GotMark}
use Rattle.engine.specs.Going.{Recorded}

-- a slot holds packets below 1,024
pub slot_small : (list : List ℕ) (n γ : ℕ) → T (slot list n γ) → γ < 1024
unfolding slot
slot_small list n γ t = ltb→lt γ 1024 ((both (ltb γ 1024) _).0 t).0

-- an empty span holds no packet
pub empty_span : {a b : ℕ} {s : List ℕ} → Spanned a b s → b ≤ a → (γ : ℕ) → member s γ ≡ false
unfolding member
empty_span {a} {b} {s} sp l γ = ap (λ w. bit w (γ % 32)) (sp.outside (γ / 32) (side (dec_lt (γ / 32) a))) ∙ bit_of_zero (γ % 32)
  where
    side : Dec (γ / 32 < a) → (γ / 32 < a) ⊎ (b ≤ γ / 32)
    side (yes h) = inl h
    side (no h) = inr (omega arith)

module _ {sizes : List ℕ} where
  pub records_none : {w s x : List ℕ} → Recorded sizes w s x w s x
  records_none = record { beyond = λ i l. refl; seeing = λ h. h; touching = λ h. h; touching_below = λ h. h; work_long = refl; seen_long = refl; next_long = refl }

  pub records_then : {w s x w' s' x' w'' s'' x'' : List ℕ} → Recorded sizes w s x w' s' x' → Recorded sizes w' s' x' w'' s'' x'' → Recorded sizes w s x w'' s'' x''
  records_then a b =
      record {
        beyond = λ i l. b.beyond i l ∙ a.beyond i l;
        seeing = λ h. b.seeing (a.seeing h);
        touching = λ h. b.touching (a.touching h);
        touching_below = λ h. b.touching_below (a.touching_below h);
        work_long = b.work_long ∙ a.work_long;
        seen_long = b.seen_long ∙ a.seen_long;
        next_long = b.next_long ∙ a.next_long;
      }

  pub arrays : {w s x w' s' x' : List ℕ} → Recorded sizes w s x w' s' x' → (length s ≡ 16) × (length x ≡ 1056) → (length s' ≡ 16) × (length x' ≡ 1056)
  arrays r h = (r.seen_long ∙ h.0, r.next_long ∙ h.1)

  -- a slot has taken a set
  pub records_note : {n from to : ℕ} {w s x set set' w' s' : List ℕ} {some : Bool} → Noted n from to w s set some w' s' set' → length w' ≡ length w → Recorded sizes w s x w' s' x
  records_note {n} {w} {s} {set} h long =
      record {
        beyond = h.beyond;
        seeing = λ old m γ t l. subst T (sym (h.seen_nodes m)) ((either (member s m) (eqb m n)).1 (see old m γ l ((either (slot w m γ) (eqb m n && member set γ)).0 (subst T (h.slots m γ) t))));
        touching = λ h. h;
        touching_below = λ h. h;
        work_long = long;
        seen_long = h.long;
        next_long = refl;
      }
    where
      see : ((m γ : ℕ) → T (slot w m γ) → m < 512 → T (member s m)) → (m γ : ℕ) → m < 512 → T (slot w m γ) ⊎ T (eqb m n && member set γ) → T (member s m) ⊎ T (eqb m n)
      see old m γ l (inl t) = inl (old m γ t l)
      see old m γ l (inr t) = inr ((both (eqb m n) (member set γ)).0 t).0

  -- packets have got a mark
  pub records_mark : {label : ℕ} {w s x set x' : List ℕ} → GotMark label set x x' → ((γ : ℕ) → T (member set γ) → γ < product sizes) → Recorded sizes w s x w s x'
  records_mark {label} {w} {s} {x} {set} {x'} h below =
      record {
        beyond = λ i l. refl;
        seeing = λ h. h;
        touching = λ old i γ t.
            subst T (sym (h.touches γ)) ((either (touched x γ) (member set γ)).1
            (⊎_elim (λ a. inl (old i γ a)) (λ b. inr ((both (eqb i label) (member set γ)).0 b).1) ((either (has_mark x i γ) (eqb i label && member set γ)).0 (subst T (h.marks i γ) t))));
        touching_below = λ old γ t. ⊎_elim (old γ) (below γ) ((either (touched x γ) (member set γ)).0 (subst T (h.touches γ) t));
        work_long = refl;
        seen_long = refl;
        next_long = h.long;
      }

-- ---- how much is missing in a slot: what the loop of a star counts

pub missing : ℕ → Members → ℕ
missing zero X = 0
missing (suc n) X = missing n X + cond (X n) 0 1

step_le : (a b : Bool) → (T a → T b) → cond b 0 1 ≤ cond a 0 1
step_le true true f = omega arith
step_le true false f = absurd (f tt)
step_le false true f = omega arith
step_le false false f = omega arith

step_lt : (a b : Bool) → (T a → ⊥) → T b → cond b 0 1 < cond a 0 1
step_lt true b f t = absurd (f tt)
step_lt false true f t = omega arith
step_lt false false f t = absurd t

missing_le : (n : ℕ) (X Y : Members) → Within X Y → missing n Y ≤ missing n X
unfolding missing
missing_le zero X Y f = omega arith
missing_le (suc n) X Y f = omega (arith, missing_le n X Y f, step_le (X n) (Y n) (f n))

pub missing_lt : (n : ℕ) (X Y : Members) → Within X Y → (γ : ℕ) → γ < n → T (Y γ) → (T (X γ) → ⊥) → missing n Y < missing n X
unfolding missing
missing_lt zero X Y f γ l t h = absurd (not-suc-le-zero l)
missing_lt (suc n) X Y f γ l t h = go (eq-or-lt_of_le (le_of_suc-le-suc l)) (λ m. missing_lt n X Y f γ m t h)
  where
    go : (γ ≡ n) ⊎ (γ < n) → (γ < n → missing n Y < missing n X) → missing n Y + cond (Y n) 0 1 < missing n X + cond (X n) 0 1
    go (inl e) r = omega (arith, missing_le n X Y f, step_lt (X n) (Y n) (λ s. h (subst (λ (i : ℕ). T (X i)) (sym e) s)) (subst (λ (i : ℕ). T (Y i)) e t))
    go (inr m) r = omega (arith, r m, step_le (X n) (Y n) (f n))
