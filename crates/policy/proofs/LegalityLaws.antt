-- The stage "policies" passes exactly when every policy is legal.
use Prim.Native.Nat.{ℕ, zero, suc, pred, ◌<◌, ◌≤◌}
use mathlib.Core.Bool.{Bool, false, ◌||◌}
use mathlib.Core.List.{List, [], ◌∷◌, map}
use mathlib.Core.Logic.{by_cases, ◌↔◌}
use Rattle.std.specs.Prelude.{Option, None}
use mathlib.Core.Path.{◌≡◌, refl, ap, ◌∙◌, subst}
use native.Mathlib.Decide.{dec_lt}
use native.Mathlib.Omega.{arith}
use lib.Dec.{ltb, eqb}
use lib.ListN.{length}
use borrow.Author.Tests.{eqb-true, eqb-false, ltb-false, not-false, eq-eqb, ne_eqb, le-ltb}
use Rattle.packet.specs.Refusals.{refused_at, at_place, first_refused}
use Rattle.packet.specs.Refusals.{Tested}
use Rattle.std.specs.Prelude.{Ok}
use Rattle.packet.proofs.Lowest.{lowest_none, none_lowest}
use Rattle.packet.proofs.Stages.{first_refused_next, first_refused_passed, refused_at_passed, at_place_none}
use Rattle.policy.specs.NodeLists.{NodeLists, node_count, node_at, children, dups_below}
use Rattle.policy.specs.Legality.{bad_lengths, bad_kind, bad_entries, bad_child, not_once, bad_negation, too_many_dups, max_dups, times_child, Legal}
use Rattle.policy.specs.Order.{Cause, causes, Sided, cause, policies_stage}
use Rattle.policy.specs.InnerEach.{Each}
use Rattle.policy.proofs.EachLaws.{each_map, each_swap, or_false, below_each}
use Rattle.policy.proofs.Trees.{ChildrenBelow}
use Rattle.policy.proofs.VisitLaws.{no_child}
use Rattle.policy.proofs.LabelLaws.{dups_more}

-- a cause passes where it has no place in any policy
cause_passes : (number : ℕ) (place : NodeLists → Option ℕ) (ps : List Sided)
    → (cause number place ps ≡ Ok tt) ↔ Each (λ p. place p.lists ≡ None) ps
unfolding cause Each first_refused refused_at
cause_passes number place [] = (λ e. tt, λ e. refl)
cause_passes number place (p ∷ ps) = (
  λ e.
      let f = first_refused_passed (at p) (map at ps) e in
      (refused_at_passed number p.side (place p.lists) f.0, (cause_passes number place ps).0 f.1),
  λ e. first_refused_next (at p) (map at ps) (ap (refused_at number p.side) e.0) ∙ (cause_passes number place ps).1 e.1,
)
  where
    at : Sided → Tested
    at p = refused_at number p.side (place p.lists)

four_false : (a b c d : Bool) → (a || b || c || d) ≡ false → (a ≡ false) × (b ≡ false) × (c ≡ false) × (d ≡ false)
four_false a b c d e =
    let f = or_false (a || b || c) d e in
    let g = or_false (a || b) c f.0 in
    let h = or_false a b g.0 in
    (h.0, h.1, g.1, f.1)

module _ (L : NodeLists) where
  -- what cause 4 asks
  pub record Lengths : Type 0 where
    pub first : length L.first ≡ node_count L
    pub second : length L.second ≡ node_count L
    pub some : 0 < node_count L
    pub few : node_count L ≤ 512

  pub lengths : (bad_lengths L ≡ false) ↔ Lengths
  unfolding bad_lengths
  lengths = (to, from)
    where
      to : bad_lengths L ≡ false → Lengths
      to e =
          let f = four_false _ _ (eqb (node_count L) 0) (ltb 512 (node_count L)) e in
          let positive : node_count L ≡ 0 → ⊥ = eqb-false (node_count L) 0 f.2 in
          record {
            first = eqb-true _ _ (not-false _ f.0);
            second = eqb-true _ _ (not-false _ f.1);
            some = omega arith;
            few = ltb-false 512 (node_count L) f.3;
          }

      from : Lengths → bad_lengths L ≡ false
      from h = rw (eq-eqb _ _ h.first, eq-eqb _ _ h.second, ne_eqb (node_count L) 0 (omega arith), le-ltb 512 (node_count L) h.few)

  -- no node at or above the last is a child
  last_no_child : ChildrenBelow L → (j k : ℕ) → k ≤ node_count L → pred k ≤ j → times_child L j k ≡ 0
  unfolding times_child
  last_no_child below j zero h a = refl
  last_no_child below j (suc k) h a =
      omega (arith, last_no_child below j k (omega arith) (omega arith), no_child L below j k h (omega arith))

-- none of causes 4 to 9 and 19 has a place
NoCause : List ℕ → NodeLists → Type 0
NoCause sizes L = Each (λ (c : Cause). c.1 L ≡ None) (causes sizes)

module _ (sizes : List ℕ) (L : NodeLists) where
  no_cause_legal : NoCause sizes L → Legal sizes L
  unfolding NoCause causes Each not_once too_many_dups bad_child
  no_cause_legal c = record {
    well_formed = record {
      firsts = n.first;
      seconds = n.second;
      few = n.few;
      kinds = lowest_none (bad_kind L) (node_count L) c.1.0;
      entries = lowest_none (bad_entries sizes L) (node_count L) c.1.1.0;
      below = lowest_none (bad_child L) (node_count L) c.1.1.1.0;
      once = at_most;
      negations = lowest_none (bad_negation L) (node_count L) c.1.1.1.1.1.0;
      dups = subst (λ (m : ℕ). dups_below L m ≤ max_dups) last few_dups;
    };
    some = n.some;
    children = once;
  }
    where
      n : Lengths L
      n = (lengths L).0 (at_place_none 0 (bad_lengths L) c.0)

      below : ChildrenBelow L
      below i l = (below_each i (children (node_at L i))).0 (lowest_none (bad_child L) (node_count L) c.1.1.1.0 i l)

      once : (j : ℕ) → j < pred (node_count L) → times_child L j (node_count L) ≡ 1
      once j l = eqb-true _ _ (not-false _ (lowest_none (not_once L) (pred (node_count L)) c.1.1.1.1.0 j l))

      at_most : (j : ℕ) → times_child L j (node_count L) ≤ 1
      at_most j =
          by_cases (dec_lt j (pred (node_count L))) (λ l. omega (arith, once j l))
          (λ l. omega (arith, last_no_child L below j (node_count L) (omega arith) (omega arith)))

      last : suc (pred (node_count L)) ≡ node_count L
      last = omega (arith, n.some)

      few_dups : dups_below L (suc (pred (node_count L))) ≤ max_dups
      few_dups =
          ltb-false max_dups _ (lowest_none (too_many_dups L) (node_count L) c.1.1.1.1.1.1.0 (pred (node_count L)) (omega (arith, n.some)))

  legal_no_cause : Legal sizes L → NoCause sizes L
  unfolding NoCause causes Each not_once too_many_dups at_place
  legal_no_cause g =
      let w = g.well_formed in
      let n : Lengths L = record { first = w.firsts; second = w.seconds; some = g.some; few = w.few } in (
        ap (at_place 0) ((lengths L).1 n),
        (
          none_lowest (bad_kind L) (node_count L) w.kinds,
          (
            none_lowest (bad_entries sizes L) (node_count L) w.entries,
            (
              none_lowest (bad_child L) (node_count L) w.below,
              (
                none_lowest (not_once L) (pred (node_count L)) (λ j l. rw (g.children j l)),
                (
                  none_lowest (bad_negation L) (node_count L) w.negations,
                  (
                    none_lowest (too_many_dups L) (node_count L)
                        (λ i l. le-ltb max_dups (dups_below L (suc i)) (omega (arith, dups_more L (suc i) (node_count L) l, w.dups))),
                    tt,
                  ),
                ),
              ),
            ),
          ),
        ),
      )

-- an order passes where each of its tests does
pub first_refused_each : (ts : List Tested) → (first_refused ts ≡ Ok tt) ↔ Each (λ t. t ≡ Ok tt) ts
unfolding first_refused Each
first_refused_each [] = (λ e. tt, λ e. refl)
first_refused_each (t ∷ ts) =
    (λ e. let f = first_refused_passed t ts e in (f.0, (first_refused_each ts).0 f.1), λ e. first_refused_next t ts e.0 ∙ (first_refused_each ts).1 e.1)

stage_causes : (sizes : List ℕ) (ps : List Sided) → (policies_stage sizes ps ≡ Ok tt) ↔ Each (λ (c : Cause). cause c.0 c.1 ps ≡ Ok tt) (causes sizes)
unfolding policies_stage causes Each
stage_causes sizes ps = first_refused_each _

-- the stage "policies" passes exactly when each policy is legal
pub stage_passes : (sizes : List ℕ) (ps : List Sided) → (policies_stage sizes ps ≡ Ok tt) ↔ Each (λ p. Legal sizes p.lists) ps
unfolding NoCause
stage_passes sizes ps = (
  λ e.
      each_map (λ p. NoCause sizes p.lists) _ ps (λ p c. no_cause_legal sizes p.lists c)
      (each_swap Absent (causes sizes) ps (each_map _ _ (causes sizes) (λ c h. (cause_passes c.0 c.1 ps).0 h) ((stage_causes sizes ps).0 e))),
  λ e.
      (stage_causes sizes ps).1
      (each_map _ _ (causes sizes) (λ c h. (cause_passes c.0 c.1 ps).1 h)
      (each_swap (λ p c. Absent c p) ps (causes sizes) (each_map _ (λ p. NoCause sizes p.lists) ps (λ p g. legal_no_cause sizes p.lists g) e))),
)
  where
    Absent : Cause → Sided → Type 0
    Absent c p = c.1 p.lists ≡ None
