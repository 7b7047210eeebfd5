-- The step of a state: its marked remainders one after another, with what is recorded kept across them.
use Prim.Native.Nat.{ℕ, zero, suc, pred, ◌<◌, ◌≤◌}
use mathlib.Core.Bool.{Bool, true, false, ◌||◌}
use mathlib.Core.List.{List, []}
use mathlib.Core.Logic.Iff
use mathlib.Core.Logic.{◌⊎◌, inl, inr, ⊎_elim, ⊎_map, ◌↔◌}
use mathlib.Core.Path.{◌≡◌, refl, sym, ◌∙◌, subst}
use native.Mathlib.Nat.{not-suc-le-zero, zero-lt-suc}
use native.Mathlib.Decide.{dec_lt}
use native.Mathlib.Omega.{arith}
use lib.Dec.{T}
use Rattle.packet.specs.Sizes.{product}
use Rattle.packet.proofs.Tests.{last_or_before}
use Rattle.policy.specs.Legality.{Legal}
use Rattle.policy.specs.Meaning.{numbered}
use Rattle.policy.specs.NodeLists.{NodeLists, node_count, dups_below, policy_of, tree_of}
use Rattle.policy.specs.Tree.{Policy}
use Rattle.packet_set.specs.Bits.{mask_bits, bit}
use Rattle.packet_set.specs.InnerMembers.{Members, Within}
use Rattle.automaton.specs.Remainder.{remainder, Evaluable}
use Rattle.automaton.specs.Reaches.{Passes, Reaches}
use Rattle.automaton.specs.State.{Marks, output_mask, next_mask, StateTraces}
use Rattle.automaton.proofs.Tests.{either, same_test}
use Rattle.automaton.proofs.Spines.{Rem, RemMeets, meets_iff, rem_has, rem_meets_of, remainder_words, remainder_meets}
use Rattle.automaton.proofs.Laws.{next_iff, output_mask_iff, next_mask_bit}
use Rattle.automaton.proofs.Trees.{policy_evaluable}
use Rattle.loaded.specs.Nodes.{up_at, place_at}
use Rattle.loaded.specs.Loaded.{DupAt, Loaded}
use Rattle.engine.specs.Going.{Way, into, by_rule, out_of, Goes, let_out, resting, repeating, Through}
use Rattle.engine.specs.Stepping.{Steps}
use Rattle.engine.proofs.Parts.{passes_iff, root_inside, root_tree}
use Rattle.engine.proofs.Goings.{goes_map}
use Rattle.engine.proofs.Throughs.{goes_wider}
use Rattle.engine.proofs.Closing.{completes, resumes, resumes_reach}
use Rattle.engine.proofs.Tails.{leaves, Leaves, top, tail_leaves, tail_meets}
use Rattle.engine.proofs.Climbing.{Climbing}

-- the parts of a union
module _ (X Y Z : Members) (all : (γ : ℕ) → Z γ ≡ (X γ || Y γ)) where
  union_left : Within X Z
  union_left γ t = subst T (sym (all γ)) ((either (X γ) (Y γ)).1 (inl t))

  union_right : Within Y Z
  union_right γ t = subst T (sym (all γ)) ((either (X γ) (Y γ)).1 (inr t))

module _ {sizes : List ℕ} {L : NodeLists} {nodes tests : List ℕ} (ld : Loaded sizes L nodes tests) (lg : Legal sizes L) where
  abbrev policy : Policy
  policy = policy_of L

  evaluable : Evaluable sizes (dups_below L (node_count L)) policy
  evaluable = policy_evaluable sizes L lg

  -- the traces of a remainder, and what it reaches
  words_iff : (i β γ : ℕ) → Passes (numbered sizes) (remainder policy (suc i)) β γ ↔ Rem (numbered sizes) policy (suc i) β [] γ
  words_iff i β γ = Iff.trans (passes_iff (numbered sizes) (remainder policy (suc i)) β γ) (remainder_words (numbered sizes) policy evaluable.labelled i β [] γ)

  dups_iff : (i j β γ : ℕ) → Reaches (numbered sizes) (remainder policy (suc i)) j β γ ↔ RemMeets (numbered sizes) policy (suc i) j β γ
  dups_iff i j β γ = Iff.trans (meets_iff (numbered sizes) (remainder policy (suc i)) j β γ) (remainder_meets (numbered sizes) policy evaluable.labelled i j β γ)

  -- the dup of a remainder that there is
  pub placed_at : (i : ℕ) → 0 < i → i < mask_bits → (place_at nodes i ≡ 512 → ⊥) → DupAt L i (place_at nodes i)
  placed_at i p b z = go (dec_lt (dups_below L (node_count L)) i)
    where
      go : Dec (dups_below L (node_count L) < i) → DupAt L i (place_at nodes i)
      go (yes o) = absurd (z (ld.absent i o b))
      go (no o) = ld.placed i p (omega arith)

  -- what remains of the root after a dup
  after_pass : (i β γ : ℕ) → Rem (numbered sizes) (tree_of L (pred (node_count L))) (suc i) β [] γ → Passes (numbered sizes) (remainder policy (suc i)) β γ
  after_pass i β γ h = (words_iff i β γ).1 (subst (λ p. Rem (numbered sizes) p (suc i) β [] γ) (root_tree lg) h)

  after_reach : (i j β γ : ℕ) → RemMeets (numbered sizes) (tree_of L (pred (node_count L))) (suc i) j β γ
      → Reaches (numbered sizes) (remainder policy (suc i)) j β γ
  after_reach i j β γ h = (dups_iff i j β γ).1 (subst (λ p. RemMeets (numbered sizes) p (suc i) j β γ) (root_tree lg) h)

  module _ {R₀ : Members} {D₀ : ℕ → Members} {marks : Marks} {β : ℕ} where
    -- nothing is stepped yet
    pub steps_start : (S : ℕ → Members) → ((m α : ℕ) → m < node_count L → S m α ≡ false) → Steps sizes L nodes tests R₀ D₀ marks β 0 S D₀ R₀
    steps_start S none = record {
      outputs = λ γ t. inl t;
      dups = λ k γ t. inl t;
      outputs_stay = λ γ t. t;
      dups_stay = λ k γ t. t;
      closed = λ m α l t. absurd (subst T (none m α l) t);
      whole = λ p. absurd (not-suc-le-zero p);
      after = λ j p o. absurd (not-suc-le-zero o);
    }

    module _ {i : ℕ} {S D : ℕ → Members} {R : Members} (st : Steps sizes L nodes tests R₀ D₀ marks β i S D R) where
      -- a remainder that is not marked, or that there is not
      pub steps_idle : (T (marks i) → place_at nodes i ≡ 512) → Steps sizes L nodes tests R₀ D₀ marks β (suc i) S D R
      steps_idle none = record {
        outputs = st.outputs;
        dups = st.dups;
        outputs_stay = st.outputs_stay;
        dups_stay = st.dups_stay;
        closed = st.closed;
        whole = λ p t. ⊎_elim (λ q. st.whole q t) (λ e. absurd (not_root (sym e) t)) (last_or_before p);
        after = λ j p o q t. ⊎_elim (λ k. st.after j p k q t) (λ e. absurd (not_dup j e p q t)) (last_or_before o);
      }
        where
          there : (j : ℕ) → j ≡ i → T (marks j) → place_at nodes j ≡ 512
          there j e t = subst (λ (k : ℕ). T (marks k) → place_at nodes k ≡ 512) (sym e) none t

          not_root : i ≡ 0 → T (marks 0) → ⊥
          not_root e t = let few = lg.well_formed.few in let r = root_inside lg in omega (arith, there 0 (sym e) t, ld.whole)

          not_dup : (j : ℕ) → j ≡ i → 0 < j → j ≤ dups_below L (node_count L) → T (marks j) → ⊥
          not_dup j e p q t = let few = lg.well_formed.few in omega (arith, there j e t, (ld.placed j p q).within)

      -- a marked remainder adds its output and its marks
      steps_more : {S' D' : ℕ → Members} (Q R' : Members) → ((γ : ℕ) → R' γ ≡ (R γ || Q γ)) → T (marks i) → ((m : ℕ) → Within (S m) (S' m))
          → ((k : ℕ) → Within (D k) (D' k)) → ((γ : ℕ) → T (Q γ) → Passes (numbered sizes) (remainder policy i) β γ)
          → ((k γ : ℕ) → T (D' k γ) → T (D k γ) ⊎ Reaches (numbered sizes) (remainder policy i) k β γ)
          → ((m α : ℕ) → T (S' m α) → T (S m α) ⊎ Goes sizes L nodes tests S' D' 512 R' by_rule m α)
          → (i ≡ 0 → Goes sizes L nodes tests S' D' 512 R' into (pred (node_count L)) β)
          → (0 < i → Goes sizes L nodes tests S' D' 512 R' out_of (place_at nodes i) β) → Steps sizes L nodes tests R₀ D₀ marks β (suc i) S' D' R'
      steps_more {S'} {D'} Q R' all marked slots marking passes reaches gone first later = record {
        outputs = λ γ t. ⊎_elim (st.outputs γ) (λ q. inr (i, marked, passes γ q)) ((either (R γ) (Q γ)).0 (subst T (all γ) t));
        dups = λ k γ t. ⊎_elim (st.dups k γ) (λ h. inr (i, marked, h)) (reaches k γ t);
        outputs_stay = λ γ t. union_left R Q R' all γ (st.outputs_stay γ t);
        dups_stay = λ k γ t. marking k γ (st.dups_stay k γ t);
        closed = λ m α l t. ⊎_elim (λ s. still (st.closed m α l s)) (λ g. g) (gone m α t);
        whole = λ p t. ⊎_elim (λ q. still (st.whole q t)) (λ e. first (sym e)) (last_or_before p);
        after = λ j p o q t.
            ⊎_elim (λ k. still (st.after j p k q t))
            (λ e.
            subst (λ (k : ℕ). Goes sizes L nodes tests S' D' 512 R' out_of (place_at nodes k) β) (sym e) (later (subst (λ (k : ℕ). 0 < k) e p)))
            (last_or_before o);
      }
        where
          still : {w : Way} {m α : ℕ} → Goes sizes L nodes tests S D 512 R w m α → Goes sizes L nodes tests S' D' 512 R' w m α
          still = goes_wider slots marking refl (union_left R Q R' all)

    -- the whole policy: β goes through the root
    pub steps_whole : {S D : ℕ → Members} {R : Members} → Steps sizes L nodes tests R₀ D₀ marks β 0 S D R → T (marks 0) → {X Q : Members} {S' D' : ℕ → Members}
        → Through sizes L nodes tests (pred (node_count L)) X S D Q S' D' → T (X β) → ((γ : ℕ) → T (X γ) → γ ≡ β) → (R' : Members)
        → ((γ : ℕ) → R' γ ≡ (R γ || Q γ)) → Steps sizes L nodes tests R₀ D₀ marks β 1 S' D' R'
    unfolding remainder
    steps_whole {R} st marked {Q} {S'} {D'} th has only R' all =
        steps_more st Q R' all marked th.slots_stay th.dups_stay
        (λ γ q. let h = th.out γ q in passing γ h.0 (only h.0 h.1) h.2)
        (λ k γ t. ⊎_elim inl (λ h. inr (reaching k γ h.0 (only h.0 h.1) h.2)) (th.dups k γ t))
        (λ m α t. ⊎_elim inl (λ g. inr (out g)) (th.gone m α t)) (λ e. out (th.entered β has)) (λ p. absurd (not-suc-le-zero p))
      where
        passing : (γ α : ℕ) → α ≡ β → Passes (numbered sizes) (tree_of L (pred (node_count L))) α γ → Passes (numbered sizes) policy β γ
        passing γ α e h = subst (λ p. Passes (numbered sizes) p β γ) (root_tree lg) (subst (λ (x : ℕ). Passes (numbered sizes) (tree_of L (pred (node_count L))) x γ) e h)

        reaching : (k γ α : ℕ) → α ≡ β → Reaches (numbered sizes) (tree_of L (pred (node_count L))) k α γ → Reaches (numbered sizes) policy k β γ
        reaching k γ α e h =
            subst (λ p. Reaches (numbered sizes) p k β γ) (root_tree lg) (subst (λ (x : ℕ). Reaches (numbered sizes) (tree_of L (pred (node_count L))) k x γ) e h)

        out : {w : Way} {m α : ℕ} → Goes sizes L nodes tests S' D' (up_at nodes (pred (node_count L))) Q w m α → Goes sizes L nodes tests S' D' 512 R' w m α
        out = goes_wider (λ m γ t. t) (λ k γ t. t) ld.last (union_right R Q R' all)

    -- what remains after a dup: the climb has ended, where what has come out leaves the root
    pub steps_after : {i : ℕ} {S D : ℕ → Members} {R : Members} → Steps sizes L nodes tests R₀ D₀ marks β i S D R → 0 < i → DupAt L i (place_at nodes i)
        → T (marks i) → {m : ℕ} {X : Members} {S' D' : ℕ → Members} → Climbing sizes L nodes tests (place_at nodes i) β S D m X S' D'
        → ((γ : ℕ) → T (X γ) → up_at nodes m ≡ 512) → (R' : Members) → ((γ : ℕ) → R' γ ≡ (R γ || X γ)) → Steps sizes L nodes tests R₀ D₀ marks β (suc i) S' D' R'
    unfolding Leaves
    steps_after {i = zero} st p dp marked cl ends R' all = absurd (not-suc-le-zero p)
    steps_after {i = suc i} {R} st p dp marked {m} {X} {S'} {D'} cl ends R' all =
        steps_more st X R' all marked cl.slots_stay cl.dups_stay
        (λ γ x. after_pass i β γ (tail_leaves ld lg (suc i) (place_at nodes (suc i)) dp β γ (cl.tails (leaves γ) γ x (top (ends γ x) refl))))
        (λ k γ t. ⊎_elim inl (λ h. inr (after_reach i k β γ (tail_meets ld lg (suc i) (place_at nodes (suc i)) dp β k γ h))) (cl.dups k γ t))
        (λ n α t. ⊎_elim inl (λ g. inr (out g)) (cl.gone n α t)) (λ e. absurd (omega arith)) (λ q. out cl.started)
      where
        out : {w : Way} {n α : ℕ} → Goes sizes L nodes tests S' D' (up_at nodes m) X w n α → Goes sizes L nodes tests S' D' 512 R' w n α
        out = goes_map (λ n γ t. t) (λ k γ t. t) (λ n γ e t. let_out (e ∙ ends γ t) (union_right R X R' all γ t))

    -- the climb has ended with nothing
    pub steps_lost : {i : ℕ} {S D : ℕ → Members} {R : Members} → Steps sizes L nodes tests R₀ D₀ marks β i S D R → 0 < i → DupAt L i (place_at nodes i)
        → T (marks i) → {m : ℕ} {X : Members} {S' D' : ℕ → Members} → Climbing sizes L nodes tests (place_at nodes i) β S D m X S' D'
        → ((γ : ℕ) → X γ ≡ false) → Steps sizes L nodes tests R₀ D₀ marks β (suc i) S' D' R
    steps_lost {R} st p dp marked {X} cl none =
        steps_after st p dp marked cl (λ γ t. absurd (subst T (none γ) t)) R (λ γ. rw (none γ) (sym (or_false (R γ))))
      where
        or_false : (b : Bool) → (b || false) ≡ b
        or_false true = refl
        or_false false = refl

    -- ---- all remainders are stepped

    module _ (b : β < product sizes) {i : ℕ} {S D : ℕ → Members} {R : Members} (st : Steps sizes L nodes tests R₀ D₀ marks β i S D R)
        (full : (j : ℕ) → j ≤ dups_below L (node_count L) → T (marks j) → j < i) where
      -- what comes out of the root is let out
      leaves_root : (γ : ℕ) → Goes sizes L nodes tests S D 512 R out_of (pred (node_count L)) γ → T (R γ)
      leaves_root γ (let_out e t) = t
      leaves_root γ (resting q x y e l k g) = let few = lg.well_formed.few in absurd (omega (arith, ld.last))
      leaves_root γ (repeating q c e l k g) = let few = lg.well_formed.few in absurd (omega (arith, ld.last))

      outputs_all : (j : ℕ) → T (marks j) → (γ : ℕ) → Passes (numbered sizes) (remainder policy j) β γ → T (R γ)
      unfolding remainder
      outputs_all zero t γ h =
          leaves_root γ
          ((completes ld lg S D R st.closed (pred (node_count L)) (root_inside lg) ld.root).pass β γ b (st.whole (full 0 (omega arith) t) t)
          (subst (λ p. Passes (numbered sizes) p β γ) (sym (root_tree lg)) h))
      outputs_all (suc j) t γ h =
          let r = (words_iff j β γ).0 h in
          let few = evaluable.labelled.most (suc j) (rem_has (numbered sizes) policy (suc j) β [] γ r) in
          leaves_root γ
          (resumes ld lg S D R st.closed (suc j) (place_at nodes (suc j)) β b (ld.placed (suc j) (zero-lt-suc j) few)
          (st.after (suc j) (zero-lt-suc j) (full (suc j) few t) few t) (pred (node_count L)) (root_inside lg) ld.root γ
          (subst (λ p. Rem (numbered sizes) p (suc j) β [] γ) (sym (root_tree lg)) r))

      dups_all : (j : ℕ) → T (marks j) → (k γ : ℕ) → Reaches (numbered sizes) (remainder policy j) k β γ → T (D k γ)
      unfolding remainder
      dups_all zero t k γ h =
          (completes ld lg S D R st.closed (pred (node_count L)) (root_inside lg) ld.root).reach β k γ b (st.whole (full 0 (omega arith) t) t)
          (subst (λ p. Reaches (numbered sizes) p k β γ) (sym (root_tree lg)) h)
      dups_all (suc j) t k γ h =
          let r = (dups_iff j k β γ).0 h in
          let few = evaluable.labelled.most (suc j) (rem_meets_of (numbered sizes) policy (suc j) k β γ r) in
          resumes_reach ld lg S D R st.closed (suc j) (place_at nodes (suc j)) β b (ld.placed (suc j) (zero-lt-suc j) few)
          (st.after (suc j) (zero-lt-suc j) (full (suc j) few t) few t) (pred (node_count L)) (root_inside lg) ld.root k γ
          (subst (λ p. RemMeets (numbered sizes) p (suc j) k β γ) (sym (root_tree lg)) r)

  -- the output and the marks of the state are gathered
  module _ {R₀ : Members} {D₀ : ℕ → Members} (state : ℕ) {β : ℕ} (b : β < product sizes) {i : ℕ} {S D : ℕ → Members} {R : Members}
      (st : Steps sizes L nodes tests R₀ D₀ (bit state) β i S D R) (full : (j : ℕ) → j ≤ dups_below L (node_count L) → T (bit state j) → j < i) where
    pub steps_output : (γ : ℕ) → R γ ≡ (R₀ γ || bit (output_mask sizes (policy_of L) state β) γ)
    unfolding StateTraces Passes
    steps_output γ =
        let e = output_mask_iff sizes (dups_below L (node_count L)) policy evaluable state β b γ in
        let k = either (R₀ γ) (bit (output_mask sizes policy state β) γ) in
        same_test (R γ) (R₀ γ || bit (output_mask sizes policy state β) γ) (λ t. k.1 (⊎_map (λ r. r) e.1 (st.outputs γ t)))
        (λ t. ⊎_elim (st.outputs_stay γ) (λ h. let s = e.0 h in outputs_all b st full s.0 s.1 γ s.2) (k.0 t))

    pub steps_marks : (k γ : ℕ) → D k γ ≡ (D₀ k γ || bit (next_mask sizes (policy_of L) (dups_below L (node_count L)) state β γ) k)
    steps_marks k γ =
        let dups = dups_below L (node_count L) in
        let e = next_iff sizes dups policy evaluable (bit state) β b γ k in
        let q = next_mask_bit sizes dups policy evaluable state β γ k in
        let s = either (D₀ k γ) (bit (next_mask sizes policy dups state β γ) k) in
        same_test (D k γ) (D₀ k γ || bit (next_mask sizes policy dups state β γ) k)
        (λ t. s.1 (⊎_map (λ r. r) (λ h. subst T (sym q) (e.1 h)) (st.dups k γ t)))
        (λ t. ⊎_elim (st.dups_stay k γ) (λ h. let r = e.0 (subst T q h) in dups_all b st full r.0 r.1 k γ r.2) (s.0 t))
