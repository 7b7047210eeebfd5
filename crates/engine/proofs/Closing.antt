-- When all that is recorded has gone on, nothing is left out: what passes from a packet that has gone on has gone on too, and what it
-- reaches is recorded.
use Prim.Native.Nat.{ℕ, zero, suc, ◌<◌}
use mathlib.Core.Bool.{Bool, true, false}
use mathlib.Core.List.{List, [], ◌∷◌, head-eq_of_cons-eq}
use mathlib.Core.Logic.{◌⊎◌, inl, inr, ⊎_elim}
use mathlib.Core.Path.{◌≡◌, refl, sym, ap, ◌∙◌, subst}
use native.Mathlib.Nat.{not-suc-le-zero}
use native.Mathlib.Omega.{arith}
use lib.Dec.{T}
use Rattle.packet.specs.Packets.{changed}
use Rattle.packet.specs.Sizes.{product}
use Rattle.policy.specs.declared.FieldAction.TheVariants.{Equals, Differs, Set}
use Rattle.policy.specs.declared.Node.{Node}
use Rattle.policy.specs.declared.Node.TheVariants.{Drop, Id, Field, Dup, Sum, Seq, Star, Neg}
use Rattle.policy.specs.Legality.{Legal}
use Rattle.policy.specs.Meaning.{numbered}
use Rattle.policy.specs.NodeLists.{NodeLists, node_count, node_at, children, dups_below, tree_of}
use Rattle.policy.specs.Visits.{HasDup}
use Rattle.packet_set.specs.InnerMembers.{Members}
use Rattle.automaton.specs.Reaches.{Passes, Reaches}
use Rattle.automaton.proofs.Spines.{meets_iff, meets_has, rem_has, rem_meets_of}
use Rattle.loaded.specs.Nodes.{tests_at, up_at, guard_at}
use Rattle.loaded.specs.Loaded.{Linked, OnlyTests, Enterable, Enters, DupAt, Loaded}
use Rattle.engine.specs.Going.{into, by_rule, out_of, Goes, blocked, noted, ruled, tested, changing, recorded, branching, starting, turning, let_out, resting, repeating}
use Rattle.engine.proofs.Parts.{two_kids, one_kid, Turns, stay, turn, pass_below, change_pass, dup_pass, dup_reach, sum_pass, sum_reach, seq_pass, seq_reach, star_pass, star_pass_self, star_reach}
use Rattle.engine.proofs.Remains.{RemPass, RemReach, HasBy, PassBy, ReachBy, same_label, has_by, pass_by, reach_by}
use Rattle.engine.proofs.Goings.{out_same}

-- the second part of a sequence, the body of a star
unfoldable pub rest_of : Node → ℕ
rest_of Drop = 0
rest_of Id = 0
rest_of (Field a) = 0
rest_of Dup = 0
rest_of (Sum x y) = 0
rest_of (Seq x y) = y
rest_of (Star x) = 0
rest_of (Neg x) = 0

unfoldable pub Starred : Node → Type 0
Starred Drop = ⊥
Starred Id = ⊥
Starred (Field a) = ⊥
Starred Dup = ⊥
Starred (Sum x y) = ⊥
Starred (Seq x y) = ⊥
Starred (Star x) = Unit
Starred (Neg x) = ⊥

module _ (sizes : List ℕ) (L : NodeLists) (nodes tests : List ℕ) where
  -- a node with a dup is not tests alone
  pub has_moves : (n i : ℕ) → Enterable sizes L nodes tests n → HasDup (tree_of L n) i → tests_at nodes n ≡ false
  unfolding Enterable
  has_moves n i en h = go (tests_at nodes n) refl
    where
      go : (b : Bool) → tests_at nodes n ≡ b → b ≡ false
      go true e = absurd ((en (subst T (sym e) tt)).dupless i h)
      go false e = refl

module _ {sizes : List ℕ} {L : NodeLists} {nodes tests : List ℕ} (ld : Loaded sizes L nodes tests) (lg : Legal sizes L) where
  guard_pass : (n : ℕ) → n < node_count L → Enterable sizes L nodes tests n → (α γ : ℕ) → α < product sizes → Passes (numbered sizes) (tree_of L n) α γ
      → T (guard_at nodes tests n α)
  unfolding Enterable Passes
  guard_pass n l en α γ b h = go (tests_at nodes n) refl
    where
      go : (t : Bool) → tests_at nodes n ≡ t → T (guard_at nodes tests n α)
      go true e = (((en (subst T (sym e) tt)).traces α b (γ ∷ [])).0 h).0
      go false e = (ld.moving n l e).guarded.passing α b (γ ∷ []) h

  reach_has : (n i α γ : ℕ) → Reaches (numbered sizes) (tree_of L n) i α γ → HasDup (tree_of L n) i
  reach_has n i α γ h = meets_has (numbered sizes) (tree_of L n) i α γ ((meets_iff (numbered sizes) (tree_of L n) i α γ).0 h)

  guard_reach : (n : ℕ) → n < node_count L → Enterable sizes L nodes tests n → (α i γ : ℕ) → α < product sizes → Reaches (numbered sizes) (tree_of L n) i α γ
      → T (guard_at nodes tests n α)
  guard_reach n l en α i γ b h = (ld.moving n l (has_moves sizes L nodes tests n i en (reach_has n i α γ h))).guarded.reaching α b i γ h

  tests_pass : (n : ℕ) → OnlyTests sizes L nodes tests n → (α γ : ℕ) → α < product sizes → Passes (numbered sizes) (tree_of L n) α γ → γ ≡ α
  unfolding Passes
  tests_pass n o α γ b h = head-eq_of_cons-eq ((o.traces α b (γ ∷ [])).0 h).1

  module _ (S D : ℕ → Members) (R : Members) (closed : (m α : ℕ) → m < node_count L → T (S m α) → Goes sizes L nodes tests S D 512 R by_rule m α) where
    abbrev Into : ℕ → ℕ → Type 0
    Into n α = Goes sizes L nodes tests S D 512 R into n α

    abbrev OutOf : ℕ → ℕ → Type 0
    OutOf n α = Goes sizes L nodes tests S D 512 R out_of n α

    -- what it means that a packet has gone on as the kind of its node says
    Rule : ℕ → ℕ → Node → Type 0
    Rule n α Drop = ⊥
    Rule n α Id = ⊥
    Rule n α (Field (Equals f v)) = ⊥
    Rule n α (Field (Differs f v)) = ⊥
    Rule n α (Field (Set f v)) = OutOf n (changed sizes f v α)
    Rule n α Dup = T (D (dups_below L (suc n)) α)
    Rule n α (Sum x y) = (tests_at nodes n ≡ false) × Into x α × Into y α
    Rule n α (Seq x y) = (tests_at nodes n ≡ false) × Into x α
    Rule n α (Star x) = (tests_at nodes n ≡ false) × Into x α × OutOf n α
    Rule n α (Neg x) = ⊥

    rule_of : (n α : ℕ) → Goes sizes L nodes tests S D 512 R by_rule n α → (OnlyTests sizes L nodes tests n × OutOf n α) ⊎ Rule n α (node_at L n)
    unfolding Rule
    rule_of n α (tested o g) = inl (o, g)
    rule_of n α (changing f v e g) = inr (subst (Rule n α) (sym e) g)
    rule_of n α (recorded e t) = inr (subst (Rule n α) (sym e) t)
    rule_of n α (branching x y z e g h) = inr (subst (Rule n α) (sym e) (z, g, h))
    rule_of n α (starting x y z e g) = inr (subst (Rule n α) (sym e) (z, g))
    rule_of n α (turning x z e g h) = inr (subst (Rule n α) (sym e) (z, g, h))

    -- a packet that passes the guard has gone on as the kind of its node says
    enters : (n α : ℕ) → n < node_count L → T (guard_at nodes tests n α) → Into n α → (OnlyTests sizes L nodes tests n × OutOf n α) ⊎ Rule n α (node_at L n)
    enters n α l t (blocked e) = absurd (subst T e t)
    enters n α l t (noted s) = rule_of n α (closed n α l s)
    enters n α l t (ruled g) = rule_of n α g

    -- out of the first part of a sequence into the second, out of the body of a star into the star
    on_seq : (n x y m μ : ℕ) → n < node_count L → node_at L n ≡ Seq x y → up_at nodes m ≡ n → OutOf m μ → Into y μ
    unfolding rest_of Starred
    on_seq n x y m μ l e u (let_out k t) = let few = lg.well_formed.few in absurd (omega arith)
    on_seq n x y m μ l e u (resting q x' y' k b f g) =
        subst (λ (r : ℕ). Into r μ) (ap rest_of (sym f ∙ ap (node_at L) (sym k ∙ u) ∙ e)) g
    on_seq n x y m μ l e u (repeating q c k b f g) = absurd (subst Starred (sym f ∙ ap (node_at L) (sym k ∙ u) ∙ e) tt)

    on_star : (n x m μ : ℕ) → n < node_count L → node_at L n ≡ Star x → up_at nodes m ≡ n → OutOf m μ → Into n μ
    unfolding Starred
    on_star n x m μ l e u (let_out k t) = let few = lg.well_formed.few in absurd (omega arith)
    on_star n x m μ l e u (resting q x' y' k b f g) = absurd (subst Starred (sym e ∙ ap (node_at L) (sym u ∙ k) ∙ f) tt)
    on_star n x m μ l e u (repeating q c k b f g) = subst (λ (r : ℕ). Into r μ) (sym k ∙ u) g

    -- nothing of node n is left out
    pub record Complete (n : ℕ) : Type 0 where
      pub pass : (α γ : ℕ) → α < product sizes → Goes sizes L nodes tests S D 512 R into n α → Passes (numbered sizes) (tree_of L n) α γ
          → Goes sizes L nodes tests S D 512 R out_of n γ
      pub reach : (α i γ : ℕ) → α < product sizes → Goes sizes L nodes tests S D 512 R into n α → Reaches (numbered sizes) (tree_of L n) i α γ → T (D i γ)

    module _ (n : ℕ) (l : n < node_count L) (en : Enterable sizes L nodes tests n) (ih : (c : ℕ) → c < n → Enterable sizes L nodes tests c → Complete c) where
      -- the children of a sum or a sequence
      record Two (x y : ℕ) : Type 0 where
        left : Complete x
        right : Complete y
        inside : x < node_count L

      two : (x y : ℕ) → children (node_at L n) ≡ x ∷ y ∷ [] → Enterable sizes L nodes tests x × Enterable sizes L nodes tests y → Two x y
      two x y e h = let k = two_kids lg n x y l e in record { left = ih x k.0 h.0; right = ih y k.1 h.1; inside = omega arith }

      module _ (c : ℕ) (e : node_at L n ≡ Star c) where
        star_rule : (α : ℕ) → α < product sizes → Into n α → OnlyTests sizes L nodes tests n ⊎ (Into c α × OutOf n α)
        unfolding Rule
        star_rule α b g =
            ⊎_elim (λ o. inl o.0) (λ r. let k = subst (Rule n α) e r in inr (k.1, k.2))
            (enters n α l (guard_pass n l en α α b (star_pass_self lg n l c e α)) g)

        walk : Complete c → c < node_count L → up_at nodes c ≡ n → {α γ : ℕ} → Turns (numbered sizes) (tree_of L c) α γ → α < product sizes → Into n α
            → OnlyTests sizes L nodes tests n ⊎ (Into c γ × OutOf n γ)
        walk ok k u {α} (stay q) b g = subst (λ (γ : ℕ). OnlyTests sizes L nodes tests n ⊎ (Into c γ × OutOf n γ)) (sym q) (star_rule α b g)
        walk ok k u {α} (turn μ h t) b g =
            ⊎_elim inl (λ r. walk ok k u t (pass_below lg c k α μ b h) (on_star n c c μ l e u (ok.pass α μ b r.0 h))) (star_rule α b g)

      pass_on : (α γ : ℕ) → α < product sizes → Into n α → Passes (numbered sizes) (tree_of L n) α γ → OutOf n γ
      unfolding Rule Linked Enters children
      pass_on α γ b g h =
          ⊎_elim (λ o. only o.0 o.1) (λ r. go (node_at L n) refl r) (enters n α l (guard_pass n l en α γ b h) g)
        where
          only : OnlyTests sizes L nodes tests n → OutOf n α → OutOf n γ
          only o k = subst (λ (μ : ℕ). OutOf n μ) (sym (tests_pass n o α γ b h)) k

          go : (d : Node) → node_at L n ≡ d → Rule n α d → OutOf n γ
          go Drop e r = absurd r
          go Id e r = absurd r
          go (Field (Equals f v)) e r = absurd r
          go (Field (Differs f v)) e r = absurd r
          go (Field (Set f v)) e r = subst (λ (μ : ℕ). OutOf n μ) (sym ((change_pass lg n l f v e α γ).0 h)) r
          go Dup e r = absurd (dup_pass lg n l e α γ h)
          go (Sum x y) e r =
              let mv = ld.moving n l r.0 in
              let k = two x y (ap children e) (subst (Enters sizes L nodes tests) e mv.enters) in
              let up = subst (Linked (up_at nodes) n) e mv.linked in
              ⊎_elim (λ p. out_same up.0 (k.left.pass α γ b r.1 p)) (λ p. out_same up.1 (k.right.pass α γ b r.2 p))
              ((sum_pass lg n l x y e α γ).0 h)
          go (Seq x y) e r =
              let mv = ld.moving n l r.0 in
              let k = two x y (ap children e) (subst (Enters sizes L nodes tests) e mv.enters) in
              let up = subst (Linked (up_at nodes) n) e mv.linked in
              let p = (seq_pass lg n l x y e α γ).0 h in
              let c = pass_below lg x k.inside α p.0 b p.1 in
              out_same up.1 (k.right.pass p.0 γ c (on_seq n x y x p.0 l e up.0 (k.left.pass α p.0 b r.1 p.1)) p.2)
          go (Star c) e r =
              let mv = ld.moving n l r.0 in
              let k = one_kid lg n c l (ap children e) in
              let ok = ih c k (subst (Enters sizes L nodes tests) e mv.enters) in
              ⊎_elim (λ o. only o r.2) (λ w. w.1)
              (walk c e ok (omega arith) (subst (Linked (up_at nodes) n) e mv.linked) ((star_pass lg n l c e α γ).0 h) b g)
          go (Neg c) e r = absurd r

      reach_on : (α i γ : ℕ) → α < product sizes → Into n α → Reaches (numbered sizes) (tree_of L n) i α γ → T (D i γ)
      unfolding Rule Linked Enters children HasBy
      reach_on α i γ b g h =
          ⊎_elim (λ o. absurd (o.0.dupless i has)) (λ r. go (node_at L n) refl r) (enters n α l (guard_reach n l en α i γ b h) g)
        where
          has : HasDup (tree_of L n) i
          has = reach_has n i α γ h

          mv : Linked (up_at nodes) n (node_at L n) × Enters sizes L nodes tests (node_at L n)
          mv = let m = ld.moving n l (has_moves sizes L nodes tests n i en has) in (m.linked, m.enters)

          go : (d : Node) → node_at L n ≡ d → Rule n α d → T (D i γ)
          go Drop e r = absurd r
          go Id e r = absurd r
          go (Field (Equals f v)) e r = absurd r
          go (Field (Differs f v)) e r = absurd r
          go (Field (Set f v)) e r = absurd ((has_by lg n l i (Field (Set f v)) e).0 has)
          go Dup e r =
              let p = (dup_reach lg n l e i α γ).0 h in
              subst (λ (j : ℕ). T (D j γ)) (sym p.0) (subst (λ (μ : ℕ). T (D (dups_below L (suc n)) μ)) (sym p.1) r)
          go (Sum x y) e r =
              let k = two x y (ap children e) (subst (Enters sizes L nodes tests) e mv.1) in
              ⊎_elim (k.left.reach α i γ b r.1) (k.right.reach α i γ b r.2) ((sum_reach lg n l x y e i α γ).0 h)
          go (Seq x y) e r =
              let k = two x y (ap children e) (subst (Enters sizes L nodes tests) e mv.1) in
              let up = subst (Linked (up_at nodes) n) e mv.0 in
              ⊎_elim (k.left.reach α i γ b r.1)
              (λ p.
              k.right.reach p.0 i γ (pass_below lg x k.inside α p.0 b p.1)
              (on_seq n x y x p.0 l e up.0 (k.left.pass α p.0 b r.1 p.1)) p.2) ((seq_reach lg n l x y e i α γ).0 h)
          go (Star c) e r =
              let k = one_kid lg n c l (ap children e) in
              let ok = ih c k (subst (Enters sizes L nodes tests) e mv.1) in
              let p = (star_reach lg n l c e i α γ).0 h in
              ⊎_elim (λ o. absurd (o.dupless i has)) (λ w. ok.reach p.0 i γ (pass_below lg n l α p.0 b p.1) w.0 p.2)
              (walk c e ok (omega arith) (subst (Linked (up_at nodes) n) e mv.0) ((star_pass lg n l c e α p.0).0 p.1) b g)
          go (Neg c) e r = absurd r

    complete : (t n : ℕ) → n < t → n < node_count L → Enterable sizes L nodes tests n → Complete n
    complete zero n a l en = absurd (not-suc-le-zero a)
    complete (suc t) n a l en =
        let ih : (c : ℕ) → c < n → Enterable sizes L nodes tests c → Complete c = λ c k ec. complete t c (omega arith) (omega arith) ec in
        record { pass = pass_on n l en ih; reach = reach_on n l en ih }

    -- the same of a node that may be entered
    pub completes : (n : ℕ) → n < node_count L → Enterable sizes L nodes tests n → Complete n
    completes n l en = complete (suc n) n (omega arith) l en

    -- ---- β has come out of dup i, at node d
    module _ (i d β : ℕ) (b : β < product sizes) (dp : DupAt L i d) (g : Goes sizes L nodes tests S D 512 R out_of d β) where
      -- so has all that passes from there on
      abbrev Resumes : ℕ → Type 0
      Resumes n = (γ : ℕ) → RemPass sizes L n i β γ → (γ < product sizes) × OutOf n γ

      abbrev Meeting : ℕ → Type 0
      Meeting n = (j γ : ℕ) → RemReach sizes L n i j β γ → T (D j γ)

      module _ (n : ℕ) (l : n < node_count L) (en : Enterable sizes L nodes tests n) where
        moving : HasDup (tree_of L n) i → Linked (up_at nodes) n (node_at L n) × Enters sizes L nodes tests (node_at L n)
        moving h = let m = ld.moving n l (has_moves sizes L nodes tests n i en h) in (m.linked, m.enters)

        resume_on : ((c : ℕ) → c < n → Enterable sizes L nodes tests c → Resumes c) → Resumes n
        unfolding Linked Enters PassBy children
        resume_on ih γ h = go (node_at L n) refl (moving (rem_has (numbered sizes) (tree_of L n) i β [] γ h)) ((pass_by lg n l i β γ (node_at L n) refl).0 h)
          where
            go : (k : Node) → node_at L n ≡ k → Linked (up_at nodes) n k × Enters sizes L nodes tests k → PassBy sizes L n i β γ k → (γ < product sizes) × OutOf n γ
            go Drop e m r = absurd r
            go Id e m r = absurd r
            go (Field a) e m r = absurd r
            go Dup e m r =
                subst (λ (μ : ℕ). (μ < product sizes) × OutOf n μ) (sym r.1)
                (b, subst (λ (v : ℕ). OutOf v β) (same_label sizes L d n dp.is_dup e (sym dp.numbered ∙ r.0)) g)
            go (Sum x y) e m (inl r) = let k = ih x (two_kids lg n x y l (ap children e)).0 m.1.0 γ r in (k.0, out_same m.0.0 k.1)
            go (Sum x y) e m (inr r) = let k = ih y (two_kids lg n x y l (ap children e)).1 m.1.1 γ r in (k.0, out_same m.0.1 k.1)
            go (Seq x y) e m (inl r) =
                let kids = two_kids lg n x y l (ap children e) in
                let ly : y < node_count L = omega arith in
                let k = ih x kids.0 m.1.0 r.0 r.1 in (
                  pass_below lg y ly r.0 γ k.0 r.2,
                  out_same m.0.1 ((completes y ly m.1.1).pass r.0 γ k.0 (on_seq n x y x r.0 l e m.0.0 k.1) r.2),
                )
            go (Seq x y) e m (inr r) = let k = ih y (two_kids lg n x y l (ap children e)).1 m.1.1 γ r in (k.0, out_same m.0.1 k.1)
            go (Star x) e m r =
                let k = ih x (one_kid lg n x l (ap children e)) m.1 r.0 r.1 in
                (pass_below lg n l r.0 γ k.0 r.2, (completes n l en).pass r.0 γ k.0 (on_star n x x r.0 l e m.0 k.1) r.2)
            go (Neg x) e m r = absurd r

        meet_on : ((c : ℕ) → c < n → Enterable sizes L nodes tests c → Resumes c) → ((c : ℕ) → c < n → Enterable sizes L nodes tests c → Meeting c) → Meeting n
        unfolding Linked Enters ReachBy children
        meet_on res ih j γ h = go (node_at L n) refl (moving (rem_meets_of (numbered sizes) (tree_of L n) i j β γ h)) ((reach_by lg n l i j β γ (node_at L n) refl).0 h)
          where
            go : (k : Node) → node_at L n ≡ k → Linked (up_at nodes) n k × Enters sizes L nodes tests k → ReachBy sizes L n i j β γ k → T (D j γ)
            go Drop e m r = absurd r
            go Id e m r = absurd r
            go (Field a) e m r = absurd r
            go Dup e m r = absurd r
            go (Sum x y) e m (inl r) = ih x (two_kids lg n x y l (ap children e)).0 m.1.0 j γ r
            go (Sum x y) e m (inr r) = ih y (two_kids lg n x y l (ap children e)).1 m.1.1 j γ r
            go (Seq x y) e m (inl (inl r)) = ih x (two_kids lg n x y l (ap children e)).0 m.1.0 j γ r
            go (Seq x y) e m (inl (inr r)) =
                let kids = two_kids lg n x y l (ap children e) in
                let k = res x kids.0 m.1.0 r.0 r.1 in
                (completes y (omega arith) m.1.1).reach r.0 j γ k.0 (on_seq n x y x r.0 l e m.0.0 k.1) r.2
            go (Seq x y) e m (inr r) = ih y (two_kids lg n x y l (ap children e)).1 m.1.1 j γ r
            go (Star x) e m (inl r) = ih x (one_kid lg n x l (ap children e)) m.1 j γ r
            go (Star x) e m (inr r) =
                let k = res x (one_kid lg n x l (ap children e)) m.1 r.0 r.1 in
                (completes n l en).reach r.0 j γ k.0 (on_star n x x r.0 l e m.0 k.1) r.2
            go (Neg x) e m r = absurd r

      resume : (t n : ℕ) → n < t → n < node_count L → Enterable sizes L nodes tests n → Resumes n
      resume zero n a l en = absurd (not-suc-le-zero a)
      resume (suc t) n a l en = resume_on n l en (λ c k ec. resume t c (omega arith) (omega arith) ec)

      meet : (t n : ℕ) → n < t → n < node_count L → Enterable sizes L nodes tests n → Meeting n
      meet zero n a l en = absurd (not-suc-le-zero a)
      meet (suc t) n a l en =
          meet_on n l en (λ c k ec. resume (suc c) c (omega arith) (omega arith) ec) (λ c k ec. meet t c (omega arith) (omega arith) ec)

      -- what remains of node n after dup i comes out of it
      pub resumes : (n : ℕ) → n < node_count L → Enterable sizes L nodes tests n → (γ : ℕ) → RemPass sizes L n i β γ
          → Goes sizes L nodes tests S D 512 R out_of n γ
      resumes n l en γ h = (resume (suc n) n (omega arith) l en γ h).1

      -- what it reaches is recorded
      pub resumes_reach : (n : ℕ) → n < node_count L → Enterable sizes L nodes tests n → (j γ : ℕ) → RemReach sizes L n i j β γ → T (D j γ)
      resumes_reach n l en j γ h = meet (suc n) n (omega arith) l en j γ h
