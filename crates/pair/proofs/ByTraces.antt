-- The row order and the row rules say of each row what document 01 says by traces; order and repeats of rows don't matter, and a row with both
-- states 0 is allowed.
use Prim.Native.Nat.{ℕ, zero, suc, ◌^◌, ◌<◌, ◌≤◌, suc-le-suc}
use mathlib.Core.Bool.{Bool}
use mathlib.Core.List.{List, ◌∷◌}
use mathlib.Core.Logic.{◌⊎◌, inl, inr, ⊎_elim, ◌↔◌}
use mathlib.Core.Path.{◌≡◌, refl, sym, ◌∙◌, subst}
use native.Mathlib.Nat.{le_of_suc-le-suc}
use native.Mathlib.Omega.{arith}
use lib.Dec.{T}
use lib.Pow.{pow_pos}
use lib.ListN.{length, get_or}
use Rattle.packet.specs.Sizes.{product}
use Rattle.packet.proofs.Tests.{T_false}
use Rattle.packet_set.specs.Bits.{bit}
use Rattle.packet_set.proofs.Digits.{same_bits, bits_below}
use Rattle.packet_set.proofs.Masks.{bit_below}
use Rattle.automaton.specs.State.{output_mask, next_mask, StateTraces}
use Rattle.automaton.proofs.Tests.{same_test}
use Rattle.automaton.proofs.Laws.{output_mask_iff, next_iff, next_mask_bit, dead_output_mask, dead_next_mask}
use Rattle.system.specs.System.{System, Row, next_row}
use Rattle.pair.specs.Sides.{Side, left, right, Pair, at, NumberedPolicy}
use Rattle.pair.specs.Pair.{output_at, next_at, in_one_output, pair_system}
use Rattle.pair.specs.Rules.{accepted}
use Rattle.pair.specs.Evidence.{evidence_answer, InTable, RowRules}
use Rattle.pair.specs.ByTraces.{Outputs, ReachesDup, IsNext, OnlyOutputs, RowByTraces, OnlyDups, NextZero, RulesByTraces, SameRows}
use Rattle.pair.proofs.Sides.{at_each}
use Rattle.pair.proofs.Lawful.{EvaluablePair, zero_sides}
use Rattle.pair.proofs.Traces.{one_side, side_one}
use Rattle.pair.proofs.Evidence.{evidence_iff}

module _ (sizes : List ℕ) (ps : Pair NumberedPolicy) (ok : EvaluablePair sizes ps) where
  abbrev S : System
  S = pair_system sizes ps

  -- ---- output and next of one side's state at a packet below N
  module _ (s : Side) (m β : ℕ) (inside : β < product sizes) where
    output_by_traces : (γ : ℕ) → T (bit (output_mask sizes (at s ps).tree m β) γ) ↔ Outputs sizes ps s m β γ
    unfolding Outputs StateTraces
    output_by_traces γ = output_mask_iff sizes (at s ps).dups (at s ps).tree (ok s) m β inside γ

    -- the state next at γ is the only number that marks each dup so reached and nothing else
    pub next_by_traces : (γ : ℕ) → IsNext sizes ps s m β γ (next_mask sizes (at s ps).tree (at s ps).dups m β γ)
    unfolding IsNext ReachesDup
    next_by_traces γ i =
        let e = next_mask_bit sizes (at s ps).dups (at s ps).tree (ok s) m β γ i in
        let k = next_iff sizes (at s ps).dups (at s ps).tree (ok s) (bit m) β inside γ i in
        (λ t. k.0 (subst T e t), λ r. subst T (sym e) (k.1 r))

    pub next_only : (γ n : ℕ) → IsNext sizes ps s m β γ n → n ≡ next_mask sizes (at s ps).tree (at s ps).dups m β γ
    unfolding IsNext
    next_only γ n f = same_bits n _ (λ i. let g = next_by_traces γ i in same_test _ _ (λ t. g.1 ((f i).0 t)) (λ t. (f i).1 (g.0 t)))

    -- nothing is reached exactly when the state next at γ is 0
    next_zero : (γ : ℕ) → (next_mask sizes (at s ps).tree (at s ps).dups m β γ ≡ 0) ↔ IsNext sizes ps s m β γ 0
    next_zero γ = (λ e. subst (IsNext sizes ps s m β γ) e (next_by_traces γ), λ f. sym (next_only γ 0 f))

  -- the outputs of two states are equal exactly when they have the same one-packet traces
  outputs_by_traces : (l r β : ℕ) → β < product sizes
      → (output_mask sizes ps.left.tree l β ≡ output_mask sizes ps.right.tree r β) ↔ ((γ : ℕ) → Outputs sizes ps left l β γ ↔ Outputs sizes ps right r β γ)
  unfolding at
  outputs_by_traces l r β h = (
    λ e γ. (λ t. (out right r γ).0 (subst (λ x. T (bit x γ)) e ((out left l γ).1 t)), λ t. (out left l γ).0 (subst (λ x. T (bit x γ)) (sym e) ((out right r γ).1 t))),
    λ f. same_bits _ _ (λ γ. same_test _ _ (λ t. (out right r γ).1 ((f γ).0 ((out left l γ).0 t))) (λ t. (out left l γ).1 ((f γ).1 ((out right r γ).0 t)))),
  )
    where
      out : (s : Side) (m γ : ℕ) → T (bit (output_mask sizes (at s ps).tree m β) γ) ↔ Outputs sizes ps s m β γ
      out s m γ = output_by_traces s m β h γ

  -- ---- the row order
  pub row_by_traces : (r : Row S) → r.packet < product sizes → RowByTraces sizes ps r
  unfolding OnlyOutputs in_one_output output_at next_at
  row_by_traces r h =
      record {
        telling = λ γ. (
          λ e. let o = one_side (test γ) e in (_, ((out _ γ).0 o.0, λ t. o.1 ((out _ γ).1 t))),
          λ x. side_one (test γ) x.0 ((out _ γ).1 x.1.0) (λ t. x.1.1 ((out _ γ).0 t)),
        );
        packet = λ γ. refl;
        next = next;
        zeros = λ γ. (
          λ e s. subst (IsNext sizes ps s (at s r.state) r.packet γ) ((zero_sides sizes ps _).0 e s) (next s γ),
          λ f. (zero_sides sizes ps _).1 (λ s. is s γ ∙ sym (next_only s (at s r.state) r.packet h γ 0 (f s))),
        );
      }
    where
      test : ℕ → Side → Bool
      test γ s = bit (output_mask sizes (at s ps).tree (at s r.state) r.packet) γ

      out : (s : Side) (γ : ℕ) → T (test γ s) ↔ Outputs sizes ps s (at s r.state) r.packet γ
      out s γ = output_by_traces s (at s r.state) r.packet h γ

      is : (s : Side) (γ : ℕ) → at s (next_row S r γ).state ≡ next_mask sizes (at s ps).tree (at s ps).dups (at s r.state) r.packet γ
      is s γ = at_each (λ s. next_mask sizes (at s ps).tree (at s ps).dups (at s r.state) r.packet γ) s

      next : (s : Side) (γ : ℕ) → IsNext sizes ps s (at s r.state) r.packet γ (at s (next_row S r γ).state)
      next s γ = subst (IsNext sizes ps s (at s r.state) r.packet γ) (sym (is s γ)) (next_by_traces s (at s r.state) r.packet h γ)

  -- ---- the row rules
  only_dups : (s : Side) (m : ℕ) → (m < 2 ^ suc (at s ps).dups) ↔ OnlyDups sizes ps s m
  unfolding OnlyDups
  only_dups s m = (
    λ h i t. le_of_suc-le-suc (bit_below (suc (at s ps).dups) m i h t),
    λ f. bits_below (suc (at s ps).dups) m (λ i h. T_false (bit m i) (λ t. absurd (not_both h (f i t)))),
  )
    where
      not_both : {i d : ℕ} → suc d ≤ i → i ≤ d → ⊥
      not_both h k = omega (arith, h, k)

  module _ (packets lefts rights : List ℕ) where
    -- The row rules are kept exactly when they are by traces.
    pub rules_by_traces : RowRules sizes ps packets lefts rights ↔ RulesByTraces sizes ps packets lefts rights
    unfolding NextZero at
    rules_by_traces = (there, back)
      where
        there : RowRules sizes ps packets lefts rights → RulesByTraces sizes ps packets lefts rights
        there k =
            record {
              a = λ i h. ((k.a i h).0, (only_dups left _).0 (k.a i h).1, (only_dups right _).0 (k.a i h).2);
              b = k.b;
              c = λ i h. (outputs_by_traces _ _ _ (k.a i h).0).0 (k.c i h);
              d = λ i h γ l. ⊎_elim
                  (λ x. inl (record {
                    place = x.place;
                    inside = x.inside;
                    packet = x.packet;
                    left = subst (IsNext sizes ps left (get_or lefts i 0) (get_or packets i 0) γ) (sym x.left) (next_by_traces left _ _ (k.a i h).0 γ);
                    right = subst (IsNext sizes ps right (get_or rights i 0) (get_or packets i 0) γ) (sym x.right) (next_by_traces right _ _ (k.a i h).0 γ);
                  }))
                  (λ z. inr ((next_zero left _ _ (k.a i h).0 γ).0 z.0, (next_zero right _ _ (k.a i h).0 γ).0 z.1))
                  (k.d i h γ l);
            }

        back : RulesByTraces sizes ps packets lefts rights → RowRules sizes ps packets lefts rights
        back k =
            record {
              a = λ i h. ((k.a i h).0, (only_dups left _).1 (k.a i h).1, (only_dups right _).1 (k.a i h).2);
              b = k.b;
              c = λ i h. (outputs_by_traces _ _ _ (k.a i h).0).1 (k.c i h);
              d = λ i h γ l. ⊎_elim
                  (λ x. inl (record {
                    place = x.place;
                    inside = x.inside;
                    packet = x.packet;
                    left = next_only left _ _ (k.a i h).0 γ _ x.left;
                    right = next_only right _ _ (k.a i h).0 γ _ x.right;
                  }))
                  (λ z. inr ((next_zero left _ _ (k.a i h).0 γ).1 z.0, (next_zero right _ _ (k.a i h).0 γ).1 z.1))
                  (k.d i h γ l);
            }

  -- ---- order and repeats of rows

  -- what holds of each place holds of each row that stands in the table
  standing_keeps : (packets lefts rights : List ℕ) (Q : ℕ → ℕ → ℕ → Type 0) → ((i : ℕ) → i < length packets → Q (get_or packets i 0) (get_or lefts i 0) (get_or rights i 0))
      → {α l r : ℕ} → InTable packets lefts rights α l r → Q α l r
  standing_keeps packets lefts rights Q f {α} {l} {r} x =
      subst (λ a. Q a l r) x.packet
      (subst (λ b. Q (get_or packets x.place 0) b r) x.left
      (subst (λ c. Q (get_or packets x.place 0) (get_or lefts x.place 0) c) x.right (f x.place x.inside)))

  stands : (packets lefts rights : List ℕ) (i : ℕ) → i < length packets → InTable packets lefts rights (get_or packets i 0) (get_or lefts i 0) (get_or rights i 0)
  stands packets lefts rights i h = record { place = i; inside = h; packet = refl; left = refl; right = refl }

  module _ (packets lefts rights packets' lefts' rights' : List ℕ) (same : SameRows packets lefts rights packets' lefts' rights') where
    rules_kept : RowRules sizes ps packets lefts rights → RowRules sizes ps packets' lefts' rights'
    unfolding SameRows
    rules_kept k =
        record {
          a = λ i h. each_row (λ α l r. (α < product sizes) × (l < 2 ^ suc ps.left.dups) × (r < 2 ^ suc ps.right.dups)) k.a i h;
          b = λ α h. (same _ _ _).0 (k.b α h);
          c = λ i h. each_row (λ α l r. output_mask sizes ps.left.tree l α ≡ output_mask sizes ps.right.tree r α) k.c i h;
          d = λ i h. each_row
              (λ α l r. (γ : ℕ) → γ < product sizes
              → InTable packets' lefts' rights' γ (next_mask sizes ps.left.tree ps.left.dups l α γ) (next_mask sizes ps.right.tree ps.right.dups r α γ)
              ⊎ ((next_mask sizes ps.left.tree ps.left.dups l α γ ≡ 0) × (next_mask sizes ps.right.tree ps.right.dups r α γ ≡ 0)))
              (λ j g γ l. ⊎_elim (λ x. inl ((same _ _ _).0 x)) inr (k.d j g γ l)) i h;
        }
      where
        each_row : (Q : ℕ → ℕ → ℕ → Type 0) → ((i : ℕ) → i < length packets → Q (get_or packets i 0) (get_or lefts i 0) (get_or rights i 0))
            → (i : ℕ) → i < length packets' → Q (get_or packets' i 0) (get_or lefts' i 0) (get_or rights' i 0)
        each_row Q f i h = standing_keeps packets lefts rights Q f ((same _ _ _).1 (stands packets' lefts' rights' i h))

  -- tables with the same rows both keep the rules or neither does
  pub order_and_repeats : (packets lefts rights packets' lefts' rights' : List ℕ) → SameRows packets lefts rights packets' lefts' rights'
      → RowRules sizes ps packets lefts rights ↔ RowRules sizes ps packets' lefts' rights'
  unfolding SameRows
  order_and_repeats P L R P' L' R' same = (rules_kept P L R P' L' R' same, rules_kept P' L' R' P L R (λ α l r. ((same α l r).1, (same α l r).0)))

  -- tables with the same rows are both accepted or neither is
  pub same_rows_accepted : (packets lefts rights packets' lefts' rights' : List ℕ) → SameRows packets lefts rights packets' lefts' rights'
      → (evidence_answer sizes ps packets lefts rights ≡ accepted) ↔ (evidence_answer sizes ps packets' lefts' rights' ≡ accepted)
  same_rows_accepted P L R P' L' R' same =
      let e = evidence_iff sizes ps ok P L R in
      let e' = evidence_iff sizes ps ok P' L' R' in
      let k = order_and_repeats P L R P' L' R' same in
      (λ x. e'.1 (k.0 (e.0 x)), λ x. e.1 (k.1 (e'.0 x)))

  -- ---- a row with both states 0
  module _ (packets lefts rights : List ℕ) (α : ℕ) (inside : α < product sizes) where
    later : {β l r : ℕ} → InTable packets lefts rights β l r → InTable (α ∷ packets) (0 ∷ lefts) (0 ∷ rights) β l r
    later x = record { place = suc x.place; inside = suc-le-suc x.inside; packet = x.packet; left = x.left; right = x.right }

    -- it is the row with both states 0, or stood in the table before
    first_or_later : {β l r : ℕ} → InTable (α ∷ packets) (0 ∷ lefts) (0 ∷ rights) β l r → InTable packets lefts rights β l r ⊎ ((l ≡ 0) × (r ≡ 0))
    first_or_later {β} {l} {r} x = go x.place x.inside x.packet x.left x.right
      where
        go : (i : ℕ) → i < suc (length packets) → get_or (α ∷ packets) i 0 ≡ β → get_or (0 ∷ lefts) i 0 ≡ l → get_or (0 ∷ rights) i 0 ≡ r
            → InTable packets lefts rights β l r ⊎ ((l ≡ 0) × (r ≡ 0))
        go zero h p q s = inr (sym q, sym s)
        go (suc i) h p q s = inl (record { place = i; inside = le_of_suc-le-suc h; packet = p; left = q; right = s })

    -- a row with both states 0 is allowed: with it the rules are kept exactly when they are without
    pub zero_row_allowed : RowRules sizes ps packets lefts rights ↔ RowRules sizes ps (α ∷ packets) (0 ∷ lefts) (0 ∷ rights)
    unfolding at
    zero_row_allowed = (there, back)
      where
        there : RowRules sizes ps packets lefts rights → RowRules sizes ps (α ∷ packets) (0 ∷ lefts) (0 ∷ rights)
        there k =
            record {
              a = a;
              b = λ β h. later (k.b β h);
              c = c;
              d = d;
            }
          where
            a : (i : ℕ) → i < suc (length packets)
                → (get_or (α ∷ packets) i 0 < product sizes) × (get_or (0 ∷ lefts) i 0 < 2 ^ suc ps.left.dups) × (get_or (0 ∷ rights) i 0 < 2 ^ suc ps.right.dups)
            a zero h = (inside, pow_pos (suc ps.left.dups), pow_pos (suc ps.right.dups))
            a (suc i) h = k.a i (le_of_suc-le-suc h)

            c : (i : ℕ) → i < suc (length packets)
                → output_mask sizes ps.left.tree (get_or (0 ∷ lefts) i 0) (get_or (α ∷ packets) i 0) ≡ output_mask sizes ps.right.tree (get_or (0 ∷ rights) i 0) (get_or (α ∷ packets) i 0)
            c zero h = dead_output_mask sizes ps.left.dups ps.left.tree (ok left) α ∙ sym (dead_output_mask sizes ps.right.dups ps.right.tree (ok right) α)
            c (suc i) h = k.c i (le_of_suc-le-suc h)

            d : (i : ℕ) → i < suc (length packets) → (γ : ℕ) → γ < product sizes
                → InTable (α ∷ packets) (0 ∷ lefts) (0 ∷ rights) γ (next_mask sizes ps.left.tree ps.left.dups (get_or (0 ∷ lefts) i 0) (get_or (α ∷ packets) i 0) γ) (next_mask sizes ps.right.tree ps.right.dups (get_or (0 ∷ rights) i 0) (get_or (α ∷ packets) i 0) γ)
                ⊎ ((next_mask sizes ps.left.tree ps.left.dups (get_or (0 ∷ lefts) i 0) (get_or (α ∷ packets) i 0) γ ≡ 0) × (next_mask sizes ps.right.tree ps.right.dups (get_or (0 ∷ rights) i 0) (get_or (α ∷ packets) i 0) γ ≡ 0))
            d zero h γ l = inr (dead_next_mask sizes ps.left.dups ps.left.tree (ok left) α γ, dead_next_mask sizes ps.right.dups ps.right.tree (ok right) α γ)
            d (suc i) h γ l = ⊎_elim (λ x. inl (later x)) inr (k.d i (le_of_suc-le-suc h) γ l)

        back : RowRules sizes ps (α ∷ packets) (0 ∷ lefts) (0 ∷ rights) → RowRules sizes ps packets lefts rights
        back k =
            record {
              a = λ i h. k.a (suc i) (suc-le-suc h);
              b = λ β h. ⊎_elim (λ x. x) (λ z. absurd (zero_not_one z.0)) (first_or_later (k.b β h));
              c = λ i h. k.c (suc i) (suc-le-suc h);
              d = λ i h γ l. ⊎_elim first_or_later inr (k.d (suc i) (suc-le-suc h) γ l);
            }
          where
            zero_not_one : ◌≡◌ {A = ℕ} 1 0 → ⊥
            zero_not_one e = omega (arith, e)
