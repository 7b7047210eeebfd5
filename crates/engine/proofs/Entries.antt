-- The entry of a node that is not tests alone: what its guard blocks stays outside, and so does what its slot has already.
use Prim.Native.Nat.{ℕ}
use mathlib.Core.Bool.{Bool, true, false, ◌&&◌, ◌||◌, not}
use mathlib.Core.List.{List}
use mathlib.Core.Logic.{◌⊎◌, inl, inr, ⊎_elim}
use mathlib.Core.Path.{◌≡◌, refl, sym, subst}
use lib.Dec.{T, eqb, eqb→eq}
use lib.ListN.{get_or}
use Rattle.packet_set.specs.InnerMembers.{Members, Within}
use Rattle.automaton.proofs.Tests.{both, either, eqb_true}
use Rattle.loaded.specs.Nodes.{slot_in, guard_at}

-- X enters node n, where S is recorded before: Y of it goes on, and then S' is recorded
pub record Entered (nodes tests : List ℕ) (n : ℕ) (X : Members) (S : ℕ → Members) (Y : Members) (S' : ℕ → Members) : Type 0 where
  pub within : Within Y X
  pub stays : (m : ℕ) → Within (S m) (S' m)
  pub each : (α : ℕ) → T (X α) → (guard_at nodes tests n α ≡ false) ⊎ (T (S n α) ⊎ T (Y α))
  pub new : (m α : ℕ) → T (S' m α) → T (S m α) ⊎ ((m ≡ n) × T (Y α))
  pub kept : T (slot_in (get_or nodes n 0)) → Within Y (S' n)

pub decide : (b : Bool) → (b ≡ false) ⊎ T b
decide true = inr tt
decide false = inl refl

pub not_false : (b : Bool) → b ≡ false → T (not b)
not_false true e = subst T e tt
not_false false e = tt

module _ (nodes tests : List ℕ) (n : ℕ) where
  -- what passes the guard goes on
  pub entered_plain : (X : Members) (S : ℕ → Members) (Y : Members) → slot_in (get_or nodes n 0) ≡ false → ((γ : ℕ) → Y γ ≡ (X γ && guard_at nodes tests n γ))
      → Entered nodes tests n X S Y S
  entered_plain X S Y z cut = record {
    within = λ γ t. ((both (X γ) (guard_at nodes tests n γ)).0 (subst T (cut γ) t)).0;
    stays = λ m γ t. t;
    each = λ α x. ⊎_elim inl (λ t. inr (inr (subst T (sym (cut α)) ((both (X α) (guard_at nodes tests n α)).1 (x, t))))) (decide (guard_at nodes tests n α));
    new = λ m α t. inl t;
    kept = λ t. absurd (subst T z t);
  }

  -- what passes the guard is recorded, and goes on if it was not
  pub entered_slot : (X : Members) (S : ℕ → Members) (Z Y : Members) (S' : ℕ → Members) → ((γ : ℕ) → Z γ ≡ (X γ && guard_at nodes tests n γ))
      → ((m γ : ℕ) → S' m γ ≡ (S m γ || (eqb m n && Z γ))) → ((γ : ℕ) → Y γ ≡ (Z γ && not (S n γ))) → Entered nodes tests n X S Y S'
  entered_slot X S Z Y S' cut slots fresh = record {
    within = λ γ t. (inside γ (fresh_of γ t).0).0;
    stays = λ m γ t. subst T (sym (slots m γ)) ((either (S m γ) (eqb m n && Z γ)).1 (inl t));
    each = λ α x.
        ⊎_elim inl (λ t. inr (old_or_new α (subst T (sym (cut α)) ((both (X α) (guard_at nodes tests n α)).1 (x, t))))) (decide (guard_at nodes tests n α));
    new = λ m α t. ⊎_elim inl (λ h. newly m α ((both (eqb m n) (Z α)).0 h)) ((either (S m α) (eqb m n && Z α)).0 (subst T (slots m α) t));
    kept = λ s γ t. subst T (sym (slots n γ)) ((either (S n γ) (eqb n n && Z γ)).1 (inr ((both (eqb n n) (Z γ)).1 (eqb_true n n refl, (fresh_of γ t).0))));
  }
    where
      inside : (γ : ℕ) → T (Z γ) → T (X γ) × T (guard_at nodes tests n γ)
      inside γ t = (both (X γ) (guard_at nodes tests n γ)).0 (subst T (cut γ) t)

      fresh_of : (γ : ℕ) → T (Y γ) → T (Z γ) × T (not (S n γ))
      fresh_of γ t = (both (Z γ) (not (S n γ))).0 (subst T (fresh γ) t)

      old_or_new : (α : ℕ) → T (Z α) → T (S n α) ⊎ T (Y α)
      old_or_new α z = ⊎_elim (λ e. inr (subst T (sym (fresh α)) ((both (Z α) (not (S n α))).1 (z, not_false (S n α) e)))) inl (decide (S n α))

      newly : (m α : ℕ) → T (eqb m n) × T (Z α) → T (S m α) ⊎ ((m ≡ n) × T (Y α))
      newly m α h =
          let e = eqb→eq m n h.0 in
          ⊎_elim (λ t. inl (subst (λ (k : ℕ). T (S k α)) (sym e) t)) (λ t. inr (e, t)) (old_or_new α h.1)
