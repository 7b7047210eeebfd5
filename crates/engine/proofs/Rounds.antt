-- The loop of a star: what is new in its slot goes through the body, until nothing is new.
use Prim.Native.Nat.{ℕ, ◌<◌}
use mathlib.Core.Bool.{false, ◌&&◌, ◌||◌, not}
use mathlib.Core.List.{List}
use mathlib.Core.Logic.{◌⊎◌, inl, inr, ⊎_elim}
use mathlib.Core.Path.{◌≡◌, refl, sym, ◌∙◌, subst}
use lib.Dec.{T, eqb, eqb→eq}
use Rattle.packet.specs.Sizes.{product}
use Rattle.policy.specs.declared.Node.TheVariants.{Star}
use Rattle.policy.specs.Legality.{Legal}
use Rattle.policy.specs.Meaning.{numbered}
use Rattle.policy.specs.NodeLists.{NodeLists, node_count, node_at, tree_of}
use Rattle.packet_set.specs.InnerMembers.{Members, Within}
use Rattle.automaton.specs.Reaches.{Passes, Reaches}
use Rattle.automaton.proofs.Tests.{both, either, eqb_true}
use Rattle.loaded.specs.Nodes.{tests_at, up_at, guard_at}
use Rattle.loaded.specs.Loaded.{Linked, KeepsSlot, Loaded}
use Rattle.engine.specs.Going.{Way, by_rule, Goes, blocked, noted, turning, let_out, repeating, Through}
use Rattle.engine.proofs.Parts.{pass_below, star_pass_self, star_pass_more, star_reach}
use Rattle.engine.proofs.Goings.{goes_map}
use Rattle.engine.proofs.Entries.{Entered, decide, not_false}
use Rattle.engine.proofs.Throughs.{goes_wider}

-- X has entered star n, where S₀ and D₀ were recorded before. Now S and D are; `new` has not gone through the body yet, `out` is all
-- that this visit has recorded in the star's slot.
pub record Turning (sizes : List ℕ) (L : NodeLists) (nodes tests : List ℕ) (n : ℕ) (X : Members) (S₀ D₀ : ℕ → Members) (new out : Members) (S D : ℕ → Members) : Type 0 where
  pub comes : (γ : ℕ) → T (out γ) → (α : ℕ) × T (X α) × Passes (numbered sizes) (tree_of L n) α γ
  pub dups : (i γ : ℕ) → T (D i γ) → T (D₀ i γ) ⊎ ((α : ℕ) × T (X α) × Reaches (numbered sizes) (tree_of L n) i α γ)
  pub slots_stay : (m : ℕ) → Within (S₀ m) (S m)
  pub dups_stay : (i : ℕ) → Within (D₀ i) (D i)
  pub within : Within new out
  pub entered : (α : ℕ) → T (X α) → (guard_at nodes tests n α ≡ false) ⊎ T (S n α)
  pub gone : (m α : ℕ) → T (S m α) → T (S₀ m α) ⊎ (Goes sizes L nodes tests S D (up_at nodes n) out by_rule m α ⊎ ((m ≡ n) × T (new α)))

module _ {sizes : List ℕ} {L : NodeLists} {nodes tests : List ℕ} (ld : Loaded sizes L nodes tests) (lg : Legal sizes L) {n : ℕ} (l : n < node_count L)
    (z : tests_at nodes n ≡ false) (c : ℕ) (e : node_at L n ≡ Star c) where
  -- what enters the star is new
  pub turning_start : {X Y : Members} {S S₁ : ℕ → Members} → Entered nodes tests n X S Y S₁ → (D : ℕ → Members) → Turning sizes L nodes tests n X S D Y Y S₁ D
  unfolding KeepsSlot
  turning_start {X} {Y} {S} {S₁} en D = record {
    comes = λ γ t. (γ, en.within γ t, star_pass_self lg n l c e γ);
    dups = λ i γ t. inl t;
    slots_stay = en.stays;
    dups_stay = λ i γ t. t;
    within = λ γ t. t;
    entered = λ α x. ⊎_elim inl (λ h. inr (⊎_elim (en.stays n α) (kept α) h)) (en.each α x);
    gone = λ m α t. ⊎_elim inl (λ h. inr (inr h)) (en.new m α t);
  }
    where
      kept : (α : ℕ) → T (Y α) → T (S₁ n α)
      kept = en.kept (subst (KeepsSlot nodes n) e (ld.moving n l z).slotted)

  -- once more through the body
  pub turning_more : {X : Members} {S₀ D₀ : ℕ → Members} {new out : Members} {S D : ℕ → Members} → Turning sizes L nodes tests n X S₀ D₀ new out S D
      → {R : Members} {S₂ D₂ : ℕ → Members} → Through sizes L nodes tests c new S D R S₂ D₂ → (S₃ : ℕ → Members) (new' out' : Members)
      → ((m γ : ℕ) → S₃ m γ ≡ (S₂ m γ || (eqb m n && R γ))) → ((γ : ℕ) → new' γ ≡ (R γ && not (S₂ n γ))) → ((γ : ℕ) → out' γ ≡ (out γ || new' γ))
      → Turning sizes L nodes tests n X S₀ D₀ new' out' S₃ D₂
  unfolding Linked
  turning_more {X} {S₀} {D₀} {new} {out} {S} {D} t {R} {S₂} {D₂} th S₃ new' out' slots fresh all = record {
    comes = λ γ o. ⊎_elim (t.comes γ) (comes_new γ) ((either (out γ) (new' γ)).0 (subst T (all γ) o));
    dups = λ i γ d.
        ⊎_elim (t.dups i γ)
        (λ h.
        let k = t.comes h.0 (t.within h.0 h.1) in
        inr (k.0, k.1, (star_reach lg n l c e i k.0 γ).1 (h.0, k.2, h.2))) (th.dups i γ d);
    slots_stay = λ m γ s. grows m γ (th.slots_stay m γ (t.slots_stay m γ s));
    dups_stay = λ i γ d. th.dups_stay i γ (t.dups_stay i γ d);
    within = λ γ s. subst T (sym (all γ)) ((either (out γ) (new' γ)).1 (inr s));
    entered = λ α x. ⊎_elim inl (λ s. inr (grows n α (th.slots_stay n α s))) (t.entered α x);
    gone = λ m α s. ⊎_elim (before m α) (λ h. newly m α ((both (eqb m n) (R α)).0 h)) ((either (S₂ m α) (eqb m n && R α)).0 (subst T (slots m α) s));
  }
    where
      comes_new : (γ : ℕ) → T (new' γ) → (α : ℕ) × T (X α) × Passes (numbered sizes) (tree_of L n) α γ
      comes_new γ s =
          let h = th.out γ ((both (R γ) (not (S₂ n γ))).0 (subst T (fresh γ) s)).0 in
          let k = t.comes h.0 (t.within h.0 h.1) in
          (k.0, k.1, star_pass_more lg n l c e k.0 h.0 γ k.2 h.2)

      grows : (m : ℕ) → Within (S₂ m) (S₃ m)
      grows m γ s = subst T (sym (slots m γ)) ((either (S₂ m γ) (eqb m n && R γ)).1 (inl s))

      -- what comes out of the body is recorded in the star's slot
      kept : Within R (S₃ n)
      kept γ r = subst T (sym (slots n γ)) ((either (S₂ n γ) (eqb n n && R γ)).1 (inr ((both (eqb n n) (R γ)).1 (eqb_true n n refl, r))))

      widens : Within out out'
      widens γ o = subst T (sym (all γ)) ((either (out γ) (new' γ)).1 (inl o))

      up : up_at nodes c ≡ n
      up = subst (Linked (up_at nodes) n) e (ld.moving n l z).linked

      outer : {w : Way} {m α : ℕ} → Goes sizes L nodes tests S D (up_at nodes n) out w m α → Goes sizes L nodes tests S₃ D₂ (up_at nodes n) out' w m α
      outer = goes_wider (λ m γ s. grows m γ (th.slots_stay m γ s)) th.dups_stay refl widens

      inner : {w : Way} {m α : ℕ} → Goes sizes L nodes tests S₂ D₂ (up_at nodes c) R w m α → Goes sizes L nodes tests S₃ D₂ (up_at nodes n) out' w m α
      inner = goes_map grows (λ i γ d. d) (λ m γ k r. repeating n c (k ∙ up) l e (noted (kept γ r)))

      -- what was new has gone through the body
      turned : (α : ℕ) → T (new α) → Goes sizes L nodes tests S₃ D₂ (up_at nodes n) out' by_rule n α
      turned α s = turning c z e (inner (th.entered α s)) (let_out refl (widens α (t.within α s)))

      Gone : ℕ → ℕ → Type 0
      Gone m α = T (S₀ m α) ⊎ (Goes sizes L nodes tests S₃ D₂ (up_at nodes n) out' by_rule m α ⊎ ((m ≡ n) × T (new' α)))

      before : (m α : ℕ) → T (S₂ m α) → Gone m α
      before m α s =
          ⊎_elim
          (λ a.
          ⊎_elim inl
          (⊎_elim (λ g. inr (inl (outer g)))
          (λ h. inr (inl (subst (λ (k : ℕ). Goes sizes L nodes tests S₃ D₂ (up_at nodes n) out' by_rule k α) (sym h.0) (turned α h.1)))))
          (t.gone m α a))
          (λ g. inr (inl (inner g))) (th.gone m α s)

      newly : (m α : ℕ) → T (eqb m n) × T (R α) → Gone m α
      newly m α h =
          let q = eqb→eq m n h.0 in
          ⊎_elim (λ b. inr (inr (q, subst T (sym (fresh α)) ((both (R α) (not (S₂ n α))).1 (h.1, not_false (S₂ n α) b)))))
          (λ s. before m α (subst (λ (k : ℕ). T (S₂ k α)) (sym q) s)) (decide (S₂ n α))

  -- nothing is new: all that this visit has recorded in the star's slot comes out
  pub turning_end : {X : Members} {S₀ D₀ : ℕ → Members} {new out : Members} {S D : ℕ → Members} → Turning sizes L nodes tests n X S₀ D₀ new out S D
      → ((γ : ℕ) → new γ ≡ false) → Through sizes L nodes tests n X S₀ D₀ out S D
  turning_end t none = record {
    out = t.comes;
    dups = t.dups;
    slots_stay = t.slots_stay;
    dups_stay = t.dups_stay;
    entered = λ α x. ⊎_elim blocked noted (t.entered α x);
    gone = λ m α s. ⊎_elim inl (⊎_elim inr (λ h. absurd (subst T (none α) h.1))) (t.gone m α s);
  }

-- what comes out, and what is new of it, is below N
pub turning_below : {sizes : List ℕ} {L : NodeLists} {nodes tests : List ℕ} → Legal sizes L → {n : ℕ} → n < node_count L → {X : Members} {S₀ D₀ : ℕ → Members}
    {new out : Members} {S D : ℕ → Members} → Turning sizes L nodes tests n X S₀ D₀ new out S D → ((γ : ℕ) → T (X γ) → γ < product sizes)
    → (γ : ℕ) → T (out γ) → γ < product sizes
turning_below lg {n} l t below γ o = let h = t.comes γ o in pass_below lg n l h.0 γ (below h.0 h.1) h.2
