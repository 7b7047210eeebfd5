-- The evidence checker's answer: exactly the four row rules, sound by Figure 1, and complete for the row order itself.
use Prim.Native.Nat.{ℕ, zero, suc, ◌^◌, ◌<◌}
use mathlib.Core.Bool.{true, false}
use mathlib.Core.List.{List, [], ◌∷◌, map}
use mathlib.Core.Logic.{inl, inr, ⊎_elim, ◌↔◌}
use mathlib.Core.Path.{◌≡◌, refl, ap, subst}
use native.Mathlib.Nat.{not-suc-le-zero, le_of_suc-le-suc}
use lib.Dec.{ltb}
use lib.ListN.{length, get_or, length-map}
use borrow.Author.Tests.{ltb-true, lt-ltb}
use Rattle.packet.specs.Sizes.{product}
use Rattle.packet.proofs.Tests.{xor_same, xor_false}
use Rattle.policy.specs.Meaning.{SameTracesBelow}
use Rattle.packet_set.specs.Bits.{bit, only_bits}
use Rattle.automaton.specs.State.{output_mask}
use Rattle.packet_set.proofs.Digits.{bits_same}
use Rattle.automaton.proofs.Laws.{output_mask_fits}
use Rattle.system.specs.System.{System, Row}
use Rattle.system.specs.RowOrder.{start_entry, NeedsMore, run, answer_with, equal as all_handled, held}
use Rattle.system.specs.InnerTables.{Listed}
use Rattle.system.proofs.Verdicts.{equal_is, silent_is}
use Rattle.pair.specs.Sides.{Side, left, right, Pair, at, NumberedPolicy}
use Rattle.pair.specs.Pair.{output_at, next_at, both_zero, in_one_output, bits_of_dups, pair_system}
use Rattle.pair.specs.Search.{equal, columns_of, search_answer, held_columns}
use Rattle.pair.specs.Rules.{accepted, Present, RuleA, RuleB, RuleC, RuleD, KeepsRules, Judged}
use Rattle.pair.specs.Evidence.{table_of, evidence_answer, InTable, RowRules}
use Rattle.pair.proofs.Sides.{on_both_true, true_on_both}
use Rattle.pair.proofs.Lawful.{EvaluablePair, zero_sides, lawful}
use Rattle.pair.proofs.Traces.{silent_iff}
use Rattle.pair.proofs.Verdicts.{Searched, is_equal, searched}
use Rattle.pair.proofs.Rules.{judged, accepted_iff, accepted_silent, accepted_contains, listed_keeps}

-- an entry of a column
column_at : {A : Type 0} (f : A → ℕ) (l : List A) (i d : ℕ) (e : A) → i < length l → get_or (map f l) i d ≡ f (get_or l i e)
column_at f [] i d e h = absurd (not-suc-le-zero h)
column_at f (x ∷ l) zero d e h = refl
column_at f (x ∷ l) (suc i) d e h = column_at f l i d e (le_of_suc-le-suc h)

module _ (sizes : List ℕ) (ps : Pair NumberedPolicy) (ok : EvaluablePair sizes ps) where
  abbrev S : System
  S = pair_system sizes ps

  module _ (packets lefts rights : List ℕ) where
    -- the answer names the first broken rule and its spot
    pub evidence_judged : Judged S (table_of sizes ps packets lefts rights) (evidence_answer sizes ps packets lefts rights)
    unfolding evidence_answer
    evidence_judged = judged S (lawful sizes ps ok) (table_of sizes ps packets lefts rights)

    -- accepted: the same traces from every packet
    pub accepted_same : evidence_answer sizes ps packets lefts rights ≡ accepted → SameTracesBelow sizes ps.left.tree ps.right.tree
    unfolding evidence_answer
    accepted_same e = (silent_iff sizes ps ok).0 (accepted_silent S (lawful sizes ps ok) (table_of sizes ps packets lefts rights) e)

    present_row : (α l r : ℕ) → InTable packets lefts rights α l r → Present S (table_of sizes ps packets lefts rights) (record { packet = α; state = record { left = l; right = r } })
    present_row α l r x =
        record {
          place = x.place;
          inside = x.inside;
          there = λ i. record { packet = x.packet i; state = record { left = x.left i; right = x.right i } };
        }

    row_present : (α l r : ℕ) → Present S (table_of sizes ps packets lefts rights) (record { packet = α; state = record { left = l; right = r } }) → InTable packets lefts rights α l r
    row_present α l r x =
        record {
          place = x.place;
          inside = x.inside;
          packet = ap (λ q. q.packet) x.there;
          left = ap (λ q. q.state.left) x.there;
          right = ap (λ q. q.state.right) x.there;
        }

    -- accepted: each row of the row order is present
    pub accepted_holds : evidence_answer sizes ps packets lefts rights ≡ accepted → (k : ℕ) (r : Row S) → Listed S (run S k).rows r
        → InTable packets lefts rights r.packet r.state.left r.state.right
    unfolding evidence_answer
    accepted_holds e k r l = row_present r.packet r.state.left r.state.right (accepted_contains S (lawful sizes ps ok) (table_of sizes ps packets lefts rights) e k r l)

    -- the states of row i
    abbrev states_at : ℕ → Pair ℕ
    states_at i = record { left = get_or lefts i 0; right = get_or rights i 0 }

    zero_both : (m : Pair ℕ) → (both_zero sizes ps m ≡ true) ↔ ((m.left ≡ 0) × (m.right ≡ 0))
    unfolding at
    zero_both m = (λ e. let z = (zero_sides sizes ps m).0 e in (z left, z right), λ z. (zero_sides sizes ps m).1 (zero z))
      where
        zero : (m.left ≡ 0) × (m.right ≡ 0) → (s : Side) → at s m ≡ 0
        zero z left = z.0
        zero z right = z.1

    bits_both : (m : Pair ℕ) → (bits_of_dups sizes ps m ≡ true) ↔ ((m.left < 2 ^ suc ps.left.dups) × (m.right < 2 ^ suc ps.right.dups))
    unfolding bits_of_dups at only_bits
    bits_both m = (
      λ e. (ltb-true m.left _ (on_both_true (λ s. ltb (at s m) (2 ^ suc (at s ps).dups)) e left), ltb-true m.right _ (on_both_true (λ s. ltb (at s m) (2 ^ suc (at s ps).dups)) e right)),
      λ z. true_on_both (λ s. ltb (at s m) (2 ^ suc (at s ps).dups)) (within z),
    )
      where
        within : (m.left < 2 ^ suc ps.left.dups) × (m.right < 2 ^ suc ps.right.dups) → (s : Side) → ltb (at s m) (2 ^ suc (at s ps).dups) ≡ true
        within z left = lt-ltb m.left _ z.0
        within z right = lt-ltb m.right _ z.1

    -- no packet is in exactly one of the two outputs: they are equal
    outputs_equal : (β : ℕ) (m : Pair ℕ) → ((γ : ℕ) → γ < product sizes → in_one_output sizes ps β m γ ≡ false)
        ↔ (output_mask sizes ps.left.tree m.left β ≡ output_mask sizes ps.right.tree m.right β)
    unfolding in_one_output output_at at
    outputs_equal β m = (
      λ f. bits_same (product sizes) _ _ (fits left) (fits right) (λ γ h. xor_false _ _ (f γ h)),
      λ e γ h. xor_same _ _ (ap (λ x. bit x γ) e),
    )
      where
        fits : (s : Side) → output_mask sizes (at s ps).tree (at s m) β < 2 ^ product sizes
        fits s = output_mask_fits sizes (at s ps).dups (at s ps).tree (ok s) (at s m) β

    -- the rules of the system are document 01's
    pub rules_iff : KeepsRules S (table_of sizes ps packets lefts rights) ↔ RowRules sizes ps packets lefts rights
    unfolding RuleA RuleB RuleC RuleD next_at at
    rules_iff = (there, back)
      where
        there : KeepsRules S (table_of sizes ps packets lefts rights) → RowRules sizes ps packets lefts rights
        there k =
            record {
              a = λ i h. let z = (bits_both (states_at i)).0 (k.a i h).1 in ((k.a i h).0, z.0, z.1);
              b = λ α h. row_present α 1 1 (k.b α h);
              c = λ i h. (outputs_equal (get_or packets i 0) (states_at i)).0 (k.c i h);
              d = λ i h γ l. ⊎_elim (λ z. inr ((zero_both _).0 z)) (λ p. inl (row_present γ _ _ p)) (k.d i h γ l);
            }

        back : RowRules sizes ps packets lefts rights → KeepsRules S (table_of sizes ps packets lefts rights)
        back k =
            record {
              a = λ i h. ((k.a i h).0, (bits_both (states_at i)).1 ((k.a i h).1, (k.a i h).2));
              b = λ α h. present_row α 1 1 (k.b α h);
              c = λ i h. (outputs_equal (get_or packets i 0) (states_at i)).1 (k.c i h);
              d = λ i h γ l. ⊎_elim (λ p. inr (present_row γ _ _ p)) (λ z. inl ((zero_both _).1 z)) (k.d i h γ l);
            }

    -- accepted exactly when the rows keep all four row rules of document 01
    pub evidence_iff : (evidence_answer sizes ps packets lefts rights ≡ accepted) ↔ RowRules sizes ps packets lefts rights
    unfolding evidence_answer
    evidence_iff =
        let e = accepted_iff S (lawful sizes ps ok) (table_of sizes ps packets lefts rights) in
        (λ x. rules_iff.0 (e.0 x), λ k. e.1 (rules_iff.1 k))

  -- equal: the rows held are accepted
  equal_accepted : (n c : ℕ) → answer_with S n ≡ all_handled c
      → evidence_answer sizes ps (held_columns sizes ps n).packets (held_columns sizes ps n).lefts (held_columns sizes ps n).rights ≡ accepted
  unfolding evidence_answer held_columns columns_of
  equal_accepted n c e =
      let x = equal_is S (lawful sizes ps ok) n c e in
      (accepted_iff S (lawful sizes ps ok) _).1
      (listed_keeps S (lawful sizes ps ok) _ (held S n) (length-map (held S n) (λ e. e.row.packet))
      (λ i h j. record {
        packet = column_at (λ e. e.row.packet) (held S n) i 0 (start_entry S 0) h j;
        state = record {
          left = column_at (λ e. e.row.state.left) (held S n) i 0 (start_entry S 0) h j;
          right = column_at (λ e. e.row.state.right) (held S n) i 0 (start_entry S 0) h j;
        };
      })
      x.closed x.sound)

  pub search_accepted : (n m c : ℕ) → search_answer sizes ps n m ≡ equal c
      → evidence_answer sizes ps (held_columns sizes ps n).packets (held_columns sizes ps n).lefts (held_columns sizes ps n).rights ≡ accepted
  search_accepted n m c e = go (subst (Searched sizes ps n m) e (searched sizes ps n m))
    where
      go : Searched sizes ps n m (equal c) → evidence_answer sizes ps (held_columns sizes ps n).packets (held_columns sizes ps n).lefts (held_columns sizes ps n).rights ≡ accepted
      go (is_equal a) = equal_accepted n c a

  -- the same traces and a row order of at most n rows: that row order is a table that is accepted
  pub row_order_accepted : (n : ℕ) → SameTracesBelow sizes ps.left.tree ps.right.tree → (NeedsMore S n → ⊥)
      → evidence_answer sizes ps (held_columns sizes ps n).packets (held_columns sizes ps n).lefts (held_columns sizes ps n).rights ≡ accepted
  row_order_accepted n E few =
      ⊎_elim
      (λ m. absurd (few m))
      (λ e. equal_accepted n (length (held S n)) e)
      (silent_is S (lawful sizes ps ok) ((silent_iff sizes ps ok).1 E) n)
