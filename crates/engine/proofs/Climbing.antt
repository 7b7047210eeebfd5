-- The climb from a dup: node by node of the way up, what comes out below goes through the second part of the sequence, or the star.
use Prim.Native.Nat.{ℕ, ◌<◌}
use mathlib.Core.Bool.{false}
use mathlib.Core.List.{List}
use mathlib.Core.Logic.{◌⊎◌, inl, inr, ⊎_elim}
use mathlib.Core.Path.{◌≡◌, refl, sym, ap, ◌∙◌, subst}
use native.Mathlib.Omega.{arith}
use lib.Dec.{T}
use Rattle.packet.specs.Sizes.{product}
use Rattle.policy.specs.declared.Node.TheVariants.{Seq, Star}
use Rattle.policy.specs.Legality.{Legal}
use Rattle.policy.specs.NodeLists.{NodeLists, node_count, node_at, children}
use Rattle.packet_set.specs.InnerMembers.{Members, Within}
use Rattle.loaded.specs.Nodes.{tests_at, up_at}
use Rattle.loaded.specs.Loaded.{Linked, Rises, ends, rises, DupAt, Loaded}
use Rattle.engine.specs.Going.{Way, by_rule, out_of, Goes, let_out, resting, repeating, Through}
use Rattle.engine.proofs.Parts.{two_kids}
use Rattle.engine.proofs.Goings.{goes_map}
use Rattle.engine.proofs.Throughs.{goes_wider, through_below}
use Rattle.engine.proofs.Tails.{Aim, meets, MeetsIn, Tail, rest_meets, rest, again_meets, again, Path, at_top, at_seq, at_star, dup_path}

-- β has come out of dup d, where S₀ and D₀ were recorded before; by now X has come out of node m, and S and D are recorded
pub record Climbing (sizes : List ℕ) (L : NodeLists) (nodes tests : List ℕ) (d β : ℕ) (S₀ D₀ : ℕ → Members) (m : ℕ) (X : Members) (S D : ℕ → Members) : Type 0 where
  pub inside : m < node_count L
  pub path : Path sizes L nodes m
  pub below : (γ : ℕ) → T (X γ) → γ < product sizes
  -- what becomes of X becomes of β
  pub tails : (a : Aim) (γ : ℕ) → T (X γ) → Tail sizes L nodes a m γ → Tail sizes L nodes a d β
  pub dups : (j δ : ℕ) → T (D j δ) → T (D₀ j δ) ⊎ Tail sizes L nodes (meets j δ) d β
  pub slots_stay : (n : ℕ) → Within (S₀ n) (S n)
  pub dups_stay : (j : ℕ) → Within (D₀ j) (D j)
  pub started : Goes sizes L nodes tests S D (up_at nodes m) X out_of d β
  pub gone : (n α : ℕ) → T (S n α) → T (S₀ n α) ⊎ Goes sizes L nodes tests S D (up_at nodes m) X by_rule n α

-- the node to which the way up leads
pub data Joint (L : NodeLists) (q : ℕ) : Type 0 where
  seq_joint : (x y : ℕ) → node_at L q ≡ Seq x y → Joint L q
  star_joint : (c : ℕ) → node_at L q ≡ Star c → Joint L q

pub record Above (L : NodeLists) (nodes : List ℕ) (m q : ℕ) : Type 0 where
  pub above : m < q
  pub inside : q < node_count L
  pub moves : tests_at nodes q ≡ false
  pub joint : Joint L q

module _ {sizes : List ℕ} {L : NodeLists} {nodes tests : List ℕ} (ld : Loaded sizes L nodes tests) (lg : Legal sizes L) where
  -- β comes out of the dup
  pub climbing_start : {i d : ℕ} → DupAt L i d → (β : ℕ) → β < product sizes → (X : Members) → T (X β) → ((γ : ℕ) → T (X γ) → γ ≡ β)
      → (S D : ℕ → Members) → Climbing sizes L nodes tests d β S D d X S D
  climbing_start {i} {d} dp β b X has only S D = record {
    inside = dp.within;
    path = dup_path ld lg i d dp;
    below = λ γ t. subst (λ (x : ℕ). x < product sizes) (sym (only γ t)) b;
    tails = λ a γ t h. subst (λ (x : ℕ). Tail sizes L nodes a d x) (only γ t) h;
    dups = λ j δ t. inl t;
    slots_stay = λ n γ t. t;
    dups_stay = λ j γ t. t;
    started = let_out refl has;
    gone = λ n α t. inl t;
  }

  module _ {d β m : ℕ} {S₀ D₀ : ℕ → Members} {X : Members} {S D : ℕ → Members} (cl : Climbing sizes L nodes tests d β S₀ D₀ m X S D) (q : ℕ) (u : up_at nodes m ≡ q) where
    -- the way up leads to a sequence or a star above
    pub climbing_next : (q ≡ 512 → ⊥) → Above L nodes m q
    climbing_next z = go (ld.rise m cl.inside) cl.path
      where
        joint : Path sizes L nodes m → Joint L q
        joint (at_top e) = absurd (z (sym u ∙ e))
        joint (at_seq p x y e b t k h) = seq_joint x y (ap (node_at L) (sym u ∙ e) ∙ k)
        joint (at_star p c e b t k h) = star_joint c (ap (node_at L) (sym u ∙ e) ∙ k)

        go : Rises L (up_at nodes) (tests_at nodes) m → Path sizes L nodes m → Above L nodes m q
        go (ends e) p = absurd (z (sym u ∙ e))
        go (rises a b c) p =
            record {
              above = subst (λ (k : ℕ). m < k) u a;
              inside = subst (λ (k : ℕ). k < node_count L) u b;
              moves = subst (λ (k : ℕ). tests_at nodes k ≡ false) u c;
              joint = joint p;
            }

    module _ (l : q < node_count L) (z : tests_at nodes q ≡ false) where
      path_up : Path sizes L nodes m → Path sizes L nodes q
      path_up (at_top e) = let few = lg.well_formed.few in absurd (omega arith)
      path_up (at_seq p x y e b t k h) = subst (Path sizes L nodes) (sym e ∙ u) h
      path_up (at_star p c e b t k h) = subst (Path sizes L nodes) (sym e ∙ u) h

      -- through the second part of a sequence
      pub climbing_seq : (x y : ℕ) → node_at L q ≡ Seq x y → {R : Members} {S' D' : ℕ → Members} → Through sizes L nodes tests y X S D R S' D'
          → Climbing sizes L nodes tests d β S₀ D₀ q R S' D'
      unfolding Linked MeetsIn children
      climbing_seq x y e {R} {S'} {D'} th = record {
        inside = l;
        path = path_up cl.path;
        below = let k = two_kids lg q x y l (ap children e) in through_below lg (omega arith) th cl.below;
        tails = λ a γ t h. let k = th.out γ t in cl.tails a k.0 k.1 (rest q x y γ u l e k.2 h);
        dups = λ j δ t.
            ⊎_elim (cl.dups j δ) (λ k. inr (cl.tails (meets j δ) k.0 k.1 (rest_meets q x y u l e k.2))) (th.dups j δ t);
        slots_stay = λ n γ t. th.slots_stay n γ (cl.slots_stay n γ t);
        dups_stay = λ j γ t. th.dups_stay j γ (cl.dups_stay j γ t);
        started = on cl.started;
        gone = λ n α t. ⊎_elim (λ s. ⊎_elim inl (λ g. inr (on g)) (cl.gone n α s)) (λ g. inr (out g)) (th.gone n α t);
      }
        where
          up : up_at nodes y ≡ up_at nodes q
          up = (subst (Linked (up_at nodes) q) e (ld.moving q l z).linked).1

          out : {w : Way} {n α : ℕ} → Goes sizes L nodes tests S' D' (up_at nodes y) R w n α → Goes sizes L nodes tests S' D' (up_at nodes q) R w n α
          out = goes_wider (λ n γ t. t) (λ j γ t. t) up (λ γ t. t)

          on : {w : Way} {n α : ℕ} → Goes sizes L nodes tests S D (up_at nodes m) X w n α → Goes sizes L nodes tests S' D' (up_at nodes q) R w n α
          on = goes_map th.slots_stay th.dups_stay (λ n γ k t. resting q x y (k ∙ u) l e (out (th.entered γ t)))

      -- through a star
      pub climbing_star : (c : ℕ) → node_at L q ≡ Star c → {R : Members} {S' D' : ℕ → Members} → Through sizes L nodes tests q X S D R S' D'
          → Climbing sizes L nodes tests d β S₀ D₀ q R S' D'
      unfolding MeetsIn
      climbing_star c e {R} {S'} {D'} th = record {
        inside = l;
        path = path_up cl.path;
        below = through_below lg l th cl.below;
        tails = λ a γ t h. let k = th.out γ t in cl.tails a k.0 k.1 (again q c γ u l e k.2 h);
        dups = λ j δ t. ⊎_elim (cl.dups j δ) (λ k. inr (cl.tails (meets j δ) k.0 k.1 (again_meets q c u l e k.2))) (th.dups j δ t);
        slots_stay = λ n γ t. th.slots_stay n γ (cl.slots_stay n γ t);
        dups_stay = λ j γ t. th.dups_stay j γ (cl.dups_stay j γ t);
        started = on cl.started;
        gone = λ n α t. ⊎_elim (λ s. ⊎_elim inl (λ g. inr (on g)) (cl.gone n α s)) inr (th.gone n α t);
      }
        where
          on : {w : Way} {n α : ℕ} → Goes sizes L nodes tests S D (up_at nodes m) X w n α → Goes sizes L nodes tests S' D' (up_at nodes q) R w n α
          on = goes_map th.slots_stay th.dups_stay (λ n γ k t. repeating q c (k ∙ u) l e (th.entered γ t))
