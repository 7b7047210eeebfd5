-- Each way out of a visit of a node.
use Prim.Native.Nat.{ℕ, suc, ◌<◌}
use mathlib.Core.Bool.{Bool, true, false, ◌&&◌, ◌||◌}
use mathlib.Core.List.{List}
use mathlib.Core.Logic.{◌⊎◌, inl, inr, ⊎_elim}
use mathlib.Core.Path.{◌≡◌, refl, sym, ap, ◌∙◌, subst}
use lib.Dec.{T, eqb, eqb→eq}
use Rattle.packet.specs.Packets.{changed}
use Rattle.packet.specs.Sizes.{product}
use Rattle.policy.specs.declared.FieldAction.TheVariants.{Set}
use Rattle.policy.specs.declared.Node.TheVariants.{Field, Dup, Sum, Seq}
use Rattle.policy.specs.Legality.{Legal}
use Rattle.policy.specs.NodeLists.{NodeLists, node_count, node_at, dups_below}
use Rattle.packet_set.specs.InnerMembers.{Members, Within}
use Rattle.automaton.specs.Reaches.{Passes}
use Rattle.automaton.proofs.Tests.{both, either, eqb_true}
use Rattle.loaded.specs.Nodes.{tests_at, up_at, guard_at}
use Rattle.loaded.specs.Loaded.{Linked, OnlyTests, Loaded}
use Rattle.engine.specs.Going.{Way, into, by_rule, Goes, blocked, noted, ruled, tested, changing, recorded, branching, starting, let_out, resting, Through}
use Rattle.engine.proofs.Parts.{pass_below, change_pass, dup_reach, sum_pass, sum_reach, seq_pass, seq_reach}
use Rattle.engine.proofs.Goings.{goes_map}
use Rattle.engine.proofs.Entries.{Entered}

-- no test and its negation
no_T : {A : Type 0} {b : Bool} → b ≡ false → T b → A
no_T e t = absurd (subst T e t)

module _ {sizes : List ℕ} {L : NodeLists} {nodes tests : List ℕ} where
  -- more is recorded and let out
  pub goes_wider : {S D S' D' : ℕ → Members} {u u' : ℕ} {R R' : Members} → ((m : ℕ) → Within (S m) (S' m)) → ((i : ℕ) → Within (D i) (D' i))
      → u ≡ u' → Within R R' → {w : Way} {n α : ℕ} → Goes sizes L nodes tests S D u R w n α → Goes sizes L nodes tests S' D' u' R' w n α
  goes_wider s d e r = goes_map s d (λ m γ k t. let_out (k ∙ e) (r γ t))

  -- ---- the entry of a node

  module _ {n : ℕ} {X Y : Members} {S S₁ : ℕ → Members} (en : Entered nodes tests n X S Y S₁) {S' D' : ℕ → Members} {u : ℕ} {R : Members}
      (rule : (α : ℕ) → T (Y α) → Goes sizes L nodes tests S' D' u R by_rule n α) where
    -- what enters goes on
    pub entry_entered : ((m : ℕ) → Within (S₁ m) (S' m)) → (α : ℕ) → T (X α) → Goes sizes L nodes tests S' D' u R into n α
    entry_entered more α x =
        ⊎_elim blocked (⊎_elim (λ t. noted (more n α (en.stays n α t))) (λ t. ruled (rule α t))) (en.each α x)

    -- what is recorded at the entry goes on
    pub entry_gone : (m α : ℕ) → T (S₁ m α) → T (S m α) ⊎ Goes sizes L nodes tests S' D' u R by_rule m α
    entry_gone m α t =
        ⊎_elim inl (λ h. inr (subst (λ (k : ℕ). Goes sizes L nodes tests S' D' u R by_rule k α) (sym h.0) (rule α h.1))) (en.new m α t)

  -- ---- nothing goes on

  -- nothing passes the guard
  pub through_none : (n : ℕ) (X : Members) (S D : ℕ → Members) (R : Members) → ((γ : ℕ) → (X γ && guard_at nodes tests n γ) ≡ false)
      → ((γ : ℕ) → R γ ≡ false) → Through sizes L nodes tests n X S D R S D
  through_none n X S D R none empty = record {
    out = λ γ t. no_T (empty γ) t;
    dups = λ i γ t. inl t;
    slots_stay = λ m γ t. t;
    dups_stay = λ i γ t. t;
    entered = λ α x. blocked (shut (X α) (guard_at nodes tests n α) x (none α));
    gone = λ m α t. inl t;
  }
    where
      shut : (a b : Bool) → T a → (a && b) ≡ false → b ≡ false
      shut true b t e = e
      shut false b t e = absurd t

  -- nothing enters
  pub through_empty : (n : ℕ) (X : Members) (S D : ℕ → Members) (R : Members) → ((γ : ℕ) → X γ ≡ false) → ((γ : ℕ) → R γ ≡ false)
      → Through sizes L nodes tests n X S D R S D
  through_empty n X S D R none empty = through_none n X S D R (λ γ. ap (λ (b : Bool). b && guard_at nodes tests n γ) (none γ)) empty

  -- nothing new enters
  pub through_known : {n : ℕ} {X Y : Members} {S S₁ : ℕ → Members} → Entered nodes tests n X S Y S₁ → (D : ℕ → Members) (R : Members)
      → ((γ : ℕ) → Y γ ≡ false) → ((γ : ℕ) → R γ ≡ false) → Through sizes L nodes tests n X S D R S₁ D
  through_known en D R none empty = record {
    out = λ γ t. no_T (empty γ) t;
    dups = λ i γ t. inl t;
    slots_stay = en.stays;
    dups_stay = λ i γ t. t;
    entered = entry_entered en (λ α y. no_T (none α) y) (λ m γ t. t);
    gone = entry_gone en (λ α y. no_T (none α) y);
  }

  -- ---- nodes without children

  -- tests alone
  pub through_tests : (n : ℕ) (X : Members) (S D : ℕ → Members) (R : Members) → OnlyTests sizes L nodes tests n → ((γ : ℕ) → T (X γ) → γ < product sizes)
      → ((γ : ℕ) → R γ ≡ (X γ && guard_at nodes tests n γ)) → Through sizes L nodes tests n X S D R S D
  unfolding Passes
  through_tests n X S D R only below all = record {
    out = λ γ t. let k = (both (X γ) (guard_at nodes tests n γ)).0 (subst T (all γ) t) in (γ, k.0, (only.traces γ (below γ k.0) _).1 (k.1, refl));
    dups = λ i γ t. inl t;
    slots_stay = λ m γ t. t;
    dups_stay = λ i γ t. t;
    entered = λ α x. go α x (guard_at nodes tests n α) refl;
    gone = λ m α t. inl t;
  }
    where
      go : (α : ℕ) → T (X α) → (b : Bool) → guard_at nodes tests n α ≡ b → Goes sizes L nodes tests S D (up_at nodes n) R into n α
      go α x true e = ruled (tested only (let_out refl (subst T (sym (all α)) ((both (X α) (guard_at nodes tests n α)).1 (x, subst T (sym e) tt)))))
      go α x false e = blocked e

  module _ (ld : Loaded sizes L nodes tests) (lg : Legal sizes L) {n : ℕ} (l : n < node_count L) {X Y : Members} {S S₁ : ℕ → Members}
      (en : Entered nodes tests n X S Y S₁) where
    -- a change of a field
    pub through_change : (f v : ℕ) → node_at L n ≡ Field (Set f v) → (D : ℕ → Members) (R : Members) → ((α : ℕ) → T (Y α) → T (R (changed sizes f v α)))
        → ((γ : ℕ) → T (R γ) → (α : ℕ) × T (Y α) × (γ ≡ changed sizes f v α)) → Through sizes L nodes tests n X S D R S₁ D
    through_change f v e D R all only = record {
      out = λ γ t. let h = only γ t in (h.0, en.within h.0 h.1, (change_pass lg n l f v e h.0 γ).1 h.2);
      dups = λ i γ t. inl t;
      slots_stay = en.stays;
      dups_stay = λ i γ t. t;
      entered = entry_entered en rule (λ m γ t. t);
      gone = entry_gone en rule;
    }
      where
        rule : (α : ℕ) → T (Y α) → Goes sizes L nodes tests S₁ D (up_at nodes n) R by_rule n α
        rule α y = changing f v e (let_out refl (all α y))

    -- a dup
    pub through_dup : node_at L n ≡ Dup → (D D' : ℕ → Members) (R : Members) → ((i γ : ℕ) → D' i γ ≡ (D i γ || (eqb i (dups_below L (suc n)) && Y γ)))
        → ((γ : ℕ) → R γ ≡ false) → Through sizes L nodes tests n X S D R S₁ D'
    through_dup e D D' R marks empty = record {
      out = λ γ t. no_T (empty γ) t;
      dups = λ i γ t.
          ⊎_elim inl (λ h. let k = (both (eqb i label) (Y γ)).0 h in inr (γ, en.within γ k.1, (dup_reach lg n l e i γ γ).1 (eqb→eq i label k.0, refl)))
          ((either (D i γ) (eqb i label && Y γ)).0 (subst T (marks i γ) t));
      slots_stay = en.stays;
      dups_stay = λ i γ t. subst T (sym (marks i γ)) ((either (D i γ) (eqb i label && Y γ)).1 (inl t));
      entered = entry_entered en rule (λ m γ t. t);
      gone = entry_gone en rule;
    }
      where
        label : ℕ
        label = dups_below L (suc n)

        rule : (α : ℕ) → T (Y α) → Goes sizes L nodes tests S₁ D' (up_at nodes n) R by_rule n α
        rule α y =
            recorded e
            (subst T (sym (marks label α)) ((either (D label α) (eqb label label && Y α)).1 (inr ((both (eqb label label) (Y α)).1 (eqb_true label label refl, y)))))

    -- ---- nodes with two children

    module _ (z : tests_at nodes n ≡ false) (x y : ℕ) where
      -- a sum
      pub through_sum : node_at L n ≡ Sum x y → {D D₂ D₃ S₂ S₃ : ℕ → Members} {R₁ R₂ : Members} → Through sizes L nodes tests x Y S₁ D R₁ S₂ D₂
          → Through sizes L nodes tests y Y S₂ D₂ R₂ S₃ D₃ → (R : Members) → ((γ : ℕ) → R γ ≡ (R₁ γ || R₂ γ)) → Through sizes L nodes tests n X S D R S₃ D₃
      unfolding Linked
      through_sum e {D} {D₂} {D₃} {S₂} {S₃} {R₁} {R₂} a b R all = record {
        out = λ γ t.
            ⊎_elim (λ h. let k = a.out γ h in (k.0, en.within k.0 k.1, (sum_pass lg n l x y e k.0 γ).1 (inl k.2)))
            (λ h. let k = b.out γ h in (k.0, en.within k.0 k.1, (sum_pass lg n l x y e k.0 γ).1 (inr k.2)))
            ((either (R₁ γ) (R₂ γ)).0 (subst T (all γ) t));
        dups = λ i γ t.
            ⊎_elim
            (λ s.
            ⊎_elim inl (λ k. inr (k.0, en.within k.0 k.1, (sum_reach lg n l x y e i k.0 γ).1 (inl k.2))) (a.dups i γ s))
            (λ k. inr (k.0, en.within k.0 k.1, (sum_reach lg n l x y e i k.0 γ).1 (inr k.2))) (b.dups i γ t);
        slots_stay = λ m γ t. b.slots_stay m γ (a.slots_stay m γ (en.stays m γ t));
        dups_stay = λ i γ t. b.dups_stay i γ (a.dups_stay i γ t);
        entered = entry_entered en rule (λ m γ t. b.slots_stay m γ (a.slots_stay m γ t));
        gone = λ m α t.
            ⊎_elim (λ s. ⊎_elim (entry_gone en rule m α) (λ g. inr (first g)) (a.gone m α s)) (λ g. inr (second g)) (b.gone m α t);
      }
        where
          up : (up_at nodes x ≡ up_at nodes n) × (up_at nodes y ≡ up_at nodes n)
          up = subst (Linked (up_at nodes) n) e (ld.moving n l z).linked

          first : {w : Way} {m α : ℕ} → Goes sizes L nodes tests S₂ D₂ (up_at nodes x) R₁ w m α → Goes sizes L nodes tests S₃ D₃ (up_at nodes n) R w m α
          first = goes_wider b.slots_stay b.dups_stay up.0 (λ γ t. subst T (sym (all γ)) ((either (R₁ γ) (R₂ γ)).1 (inl t)))

          second : {w : Way} {m α : ℕ} → Goes sizes L nodes tests S₃ D₃ (up_at nodes y) R₂ w m α → Goes sizes L nodes tests S₃ D₃ (up_at nodes n) R w m α
          second = goes_wider (λ m γ t. t) (λ i γ t. t) up.1 (λ γ t. subst T (sym (all γ)) ((either (R₁ γ) (R₂ γ)).1 (inr t)))

          rule : (α : ℕ) → T (Y α) → Goes sizes L nodes tests S₃ D₃ (up_at nodes n) R by_rule n α
          rule α t = branching x y z e (first (a.entered α t)) (second (b.entered α t))

      -- a sequence
      pub through_seq : node_at L n ≡ Seq x y → {D D₂ D₃ S₂ S₃ : ℕ → Members} {R₁ R : Members} → Through sizes L nodes tests x Y S₁ D R₁ S₂ D₂
          → Through sizes L nodes tests y R₁ S₂ D₂ R S₃ D₃ → Through sizes L nodes tests n X S D R S₃ D₃
      unfolding Linked
      through_seq e {D} {D₂} {D₃} {S₂} {S₃} {R₁} {R} a b = record {
        out = λ γ t.
            let k = b.out γ t in
            let h = a.out k.0 k.1 in
            (h.0, en.within h.0 h.1, (seq_pass lg n l x y e h.0 γ).1 (k.0, h.2, k.2));
        dups = λ i γ t.
            ⊎_elim
            (λ s.
            ⊎_elim inl (λ k. inr (k.0, en.within k.0 k.1, (seq_reach lg n l x y e i k.0 γ).1 (inl k.2))) (a.dups i γ s))
            (λ k.
            let h = a.out k.0 k.1 in
            inr (h.0, en.within h.0 h.1, (seq_reach lg n l x y e i h.0 γ).1 (inr (k.0, h.2, k.2)))) (b.dups i γ t);
        slots_stay = λ m γ t. b.slots_stay m γ (a.slots_stay m γ (en.stays m γ t));
        dups_stay = λ i γ t. b.dups_stay i γ (a.dups_stay i γ t);
        entered = entry_entered en rule (λ m γ t. b.slots_stay m γ (a.slots_stay m γ t));
        gone = λ m α t.
            ⊎_elim (λ s. ⊎_elim (entry_gone en rule m α) (λ g. inr (first g)) (a.gone m α s)) (λ g. inr (second g)) (b.gone m α t);
      }
        where
          up : (up_at nodes x ≡ n) × (up_at nodes y ≡ up_at nodes n)
          up = subst (Linked (up_at nodes) n) e (ld.moving n l z).linked

          second : {w : Way} {m α : ℕ} → Goes sizes L nodes tests S₃ D₃ (up_at nodes y) R w m α → Goes sizes L nodes tests S₃ D₃ (up_at nodes n) R w m α
          second = goes_wider (λ m γ t. t) (λ i γ t. t) up.1 (λ γ t. t)

          first : {w : Way} {m α : ℕ} → Goes sizes L nodes tests S₂ D₂ (up_at nodes x) R₁ w m α → Goes sizes L nodes tests S₃ D₃ (up_at nodes n) R w m α
          first = goes_map b.slots_stay b.dups_stay (λ m γ k t. resting n x y (k ∙ up.0) l e (second (b.entered γ t)))

          rule : (α : ℕ) → T (Y α) → Goes sizes L nodes tests S₃ D₃ (up_at nodes n) R by_rule n α
          rule α t = starting x y z e (first (a.entered α t))

  -- what comes out is below N
  pub through_below : Legal sizes L → {n : ℕ} → n < node_count L → {X R : Members} {S D S' D' : ℕ → Members} → Through sizes L nodes tests n X S D R S' D'
      → ((γ : ℕ) → T (X γ) → γ < product sizes) → (γ : ℕ) → T (R γ) → γ < product sizes
  through_below lg {n} l th below γ t = let h = th.out γ t in pass_below lg n l h.0 γ (below h.0 h.1) h.2
