-- The row rules are checked exactly, and a table that keeps them shows that nothing tells.
use Prim.Native.Nat.{ℕ, zero, suc, ◌<◌}
use mathlib.Core.Bool.{Bool, true, false, not, ◌||◌, or-true as or_any}
use mathlib.Core.List.{List}
use mathlib.Core.Logic.{◌⊎◌, inl, inr, ⊎_elim, ◌↔◌}
use Rattle.std.specs.Prelude.{Option, None}
use mathlib.Core.Path.{◌≡◌, refl, sym, ◌∙◌, ap, ap₂, subst}
use native.Mathlib.Nat.{not-suc-le-zero}
use native.Mathlib.Omega.{arith}
use lib.Dec.{T as Test, ltb}
use lib.ListN.{length}
use borrow.Author.Tests.{ltb-true, lt-ltb, not-false}
use Rattle.packet.specs.Lowest.{lowest}
use Rattle.automaton.specs.State.{any_below}
use Rattle.automaton.proofs.Tests.{T_true, true_T}
use Rattle.automaton.proofs.Sets.{any_below_iff}
use Rattle.system.specs.System.{System, Lawful, Row, start_row, next_row, tells}
use Rattle.system.specs.RowOrder.{Entry, entry_at, run, same_row, answer_with, equal, held}
use Rattle.system.specs.InnerTables.{Closed, InRange, Listed}
use Rattle.system.specs.InnerWords.{Silent}
use Rattle.packet.proofs.Tests.{or_true, and_true, last_or_before}
use Rattle.system.proofs.Listing.{same_row_true, same_row_refl}
use Rattle.system.proofs.Runs.{invariant}
use Rattle.system.proofs.Tables.{closed_silent, closed_contains}
use Rattle.system.proofs.Counting.{closed_answer}
use Rattle.pair.specs.Rules.{Table, RulesAnswer, accepted, rule_a, rule_b, rule_c, rule_d, and_then, broken_at, Present, RuleA, RuleB, RuleC, RuleD, KeepsRules, RowKeeps, RowBreaks, breaks_c, breaks_rule_d, Judged, keeps, breaks_rule_a, breaks_rule_b, breaks_row, present, breaks_a, breaks_b, breaks_d, check_row, check_rows, check_rules}
use Rattle.pair.proofs.Sides.{and_both}
use Rattle.pair.proofs.Lowest.{Spotted, kept, spot, spotted, lowest_spot, lowest_kept}

not_true_false : {b : Bool} → b ≡ true → not b ≡ false
not_true_false e = ap not e

module _ (S : System) (L : Lawful S) (T : Table S) where
  pub present_iff : (r : Row S) → (present S T r ≡ true) ↔ Present S T r
  unfolding present
  present_iff r = (λ e. there ((any_below_iff T.count (λ i. same_row S (T.row i) r)).0 (true_T e)), back)
    where
      there : ((i : ℕ) × (i < T.count) × Test (same_row S (T.row i) r)) → Present S T r
      there (i, h, t) = record { place = i; inside = h; there = same_row_true S L (T.row i) r (T_true _ t) }

      back : Present S T r → any_below T.count (λ i. same_row S (T.row i) r) ≡ true
      back p =
          T_true _
          ((any_below_iff T.count (λ i. same_row S (T.row i) r)).1 (p.place, p.inside, true_T (subst (λ q. same_row S (T.row p.place) q ≡ true) p.there (same_row_refl S L (T.row p.place)))))

  rule_a_iff : (i : ℕ) → (breaks_a S T i ≡ false) ↔ RuleA S T i
  unfolding breaks_a RuleA
  rule_a_iff i = (λ e. there (and_true _ _ (not-false _ e)), λ r. not_true_false (and_both (lt-ltb _ _ r.0) r.1))
    where
      there : (ltb (T.row i).packet S.packets ≡ true) × (S.valid (T.row i).state ≡ true) → ((T.row i).packet < S.packets) × (S.valid (T.row i).state ≡ true)
      there (p, v) = (ltb-true _ _ p, v)

  rule_b_iff : (α : ℕ) → (breaks_b S T α ≡ false) ↔ RuleB S T α
  unfolding breaks_b RuleB
  rule_b_iff α = (λ e. (present_iff (start_row S α)).0 (not-false _ e), λ p. not_true_false ((present_iff (start_row S α)).1 p))

  rule_d_iff : (i γ : ℕ) → (breaks_d S T i γ ≡ false) ↔ RuleD S T i γ
  unfolding breaks_d RuleD
  rule_d_iff i γ = (λ e. there (or_true _ _ (not-false _ e)), λ r. not_true_false (back r))
    where
      there : (S.dead (next_row S (T.row i) γ).state ≡ true) ⊎ (present S T (next_row S (T.row i) γ) ≡ true) → (S.dead (next_row S (T.row i) γ).state ≡ true) ⊎ Present S T (next_row S (T.row i) γ)
      there (inl d) = inl d
      there (inr p) = inr ((present_iff (next_row S (T.row i) γ)).0 p)

      back : (S.dead (next_row S (T.row i) γ).state ≡ true) ⊎ Present S T (next_row S (T.row i) γ) → (S.dead (next_row S (T.row i) γ).state || present S T (next_row S (T.row i) γ)) ≡ true
      back (inl d) = ap (λ b. b || present S T (next_row S (T.row i) γ)) d
      back (inr p) = ap (λ b. S.dead (next_row S (T.row i) γ).state || b) ((present_iff (next_row S (T.row i) γ)).1 p) ∙ or_any (S.dead (next_row S (T.row i) γ).state)

  tells_iff : (i γ : ℕ) → (tells S (T.row i) γ ≡ false) ↔ (tells S (T.row i) γ ≡ false)
  tells_iff i γ = (λ e. e, λ e. e)

  -- one row
  data RowJudged (i : ℕ) : RulesAnswer → Type 0 where
    row_keeps : RowKeeps S T i → RowJudged i accepted
    row_breaks : {x : RulesAnswer} → RowBreaks S T i x → RowJudged i x

  row_judged : (i : ℕ) → RowJudged i (check_row S T i)
  unfolding check_row and_then broken_at RuleC
  row_judged i = go (spotted (λ γ. tells S (T.row i) γ ≡ false) (tells S (T.row i)) (tells_iff i) S.packets) (spotted (RuleD S T i) (breaks_d S T i) (rule_d_iff i) S.packets)
    where
      go : {o u : Option ℕ} → Spotted (λ γ. tells S (T.row i) γ ≡ false) S.packets o → Spotted (RuleD S T i) S.packets u
          → RowJudged i (and_then (broken_at (λ γ. rule_c i) o) (broken_at (rule_d i) u))
      go (kept f) (kept g) = row_keeps (record { c = f; d = g })
      go (kept f) (spot l) = row_breaks (breaks_rule_d f l)
      go (spot l) u = row_breaks (breaks_c (λ f. l.broken (f _ l.inside)))

  -- the first n rows
  data RowsJudged (n : ℕ) : RulesAnswer → Type 0 where
    rows_keep : ((i : ℕ) → i < n → RowKeeps S T i) → RowsJudged n accepted
    rows_break : {x : RulesAnswer} (i : ℕ) → i < n → ((j : ℕ) → j < i → RowKeeps S T j) → RowBreaks S T i x → RowsJudged n x

  -- a broken row ends the check
  broken_first : {i : ℕ} {x : RulesAnswer} → RowBreaks S T i x → (y : RulesAnswer) → and_then x y ≡ x
  unfolding and_then
  broken_first (breaks_c f) y = refl
  broken_first (breaks_rule_d f l) y = refl

  rows_judged : (n : ℕ) → RowsJudged n (check_rows S T n)
  unfolding check_rows and_then
  rows_judged zero = rows_keep (λ i h. absurd (not-suc-le-zero h))
  rows_judged (suc n) = go (rows_judged n) (row_judged n)
    where
      go : {x y : RulesAnswer} → RowsJudged n x → RowJudged n y → RowsJudged (suc n) (and_then x y)
      go {y = y} (rows_break {x = x} i h f b) r = subst (RowsJudged (suc n)) (sym (broken_first b y)) (rows_break i (omega arith) f b)
      go (rows_keep f) (row_keeps k) = rows_keep (λ i h. ⊎_elim (λ l. f i l) (λ e. subst (RowKeeps S T) (sym e) k) (last_or_before h))
      go (rows_keep f) (row_breaks b) = rows_break n (omega arith) f b

  -- the answer names the first broken rule and its spot
  pub judged : Judged S T (check_rules S T)
  unfolding check_rules and_then broken_at
  judged = go (spotted (RuleA S T) (breaks_a S T) rule_a_iff T.count) (spotted (RuleB S T) (breaks_b S T) rule_b_iff S.packets) (rows_judged T.count)
    where
      go : {o u : Option ℕ} {x : RulesAnswer} → Spotted (RuleA S T) T.count o → Spotted (RuleB S T) S.packets u → RowsJudged T.count x
          → Judged S T (and_then (broken_at rule_a o) (and_then (broken_at rule_b u) x))
      go (spot l) u x = breaks_rule_a l
      go (kept a) (spot l) x = breaks_rule_b a l
      go (kept a) (kept b) (rows_keep f) = keeps (record { a = a; b = b; c = λ i h. (f i h).c; d = λ i h. (f i h).d })
      go (kept a) (kept b) (rows_break i h f r) = breaks_row a b i h f r

  -- what is said of a row is what its check answers
  row_kept : (i : ℕ) → RowKeeps S T i → check_row S T i ≡ accepted
  unfolding check_row and_then broken_at RuleC
  row_kept i k =
      ap₂ (λ o u. and_then (broken_at (λ γ. rule_c i) o) (broken_at (rule_d i) u)) (lowest_kept (λ γ. tells S (T.row i) γ ≡ false) (tells S (T.row i)) (tells_iff i) S.packets k.c) (lowest_kept (RuleD S T i) (breaks_d S T i) (rule_d_iff i) S.packets k.d)

  row_broken : {i : ℕ} {x : RulesAnswer} → RowBreaks S T i x → check_row S T i ≡ x
  unfolding check_row and_then broken_at RuleC
  row_broken {i} (breaks_c f) = go (spotted (λ γ. tells S (T.row i) γ ≡ false) (tells S (T.row i)) (tells_iff i) S.packets)
    where
      go : {o : Option ℕ} → Spotted (λ γ. tells S (T.row i) γ ≡ false) S.packets o → and_then (broken_at (λ γ. rule_c i) o) (broken_at (rule_d i) (lowest (breaks_d S T i) S.packets)) ≡ rule_c i
      go (kept g) = absurd (f g)
      go (spot l) = refl
  row_broken {i} (breaks_rule_d f l) =
      ap₂ (λ o u. and_then (broken_at (λ γ. rule_c i) o) (broken_at (rule_d i) u)) (lowest_kept (λ γ. tells S (T.row i) γ ≡ false) (tells S (T.row i)) (tells_iff i) S.packets f) (lowest_spot (RuleD S T i) (breaks_d S T i) (rule_d_iff i) S.packets l)

  pub rows_kept : (n : ℕ) → ((i : ℕ) → i < n → RowKeeps S T i) → check_rows S T n ≡ accepted
  unfolding check_rows and_then
  rows_kept zero f = refl
  rows_kept (suc n) f = ap₂ and_then (rows_kept n (λ i h. f i (omega arith))) (row_kept n (f n (omega arith)))

  pub rows_broken : (n : ℕ) {i : ℕ} {x : RulesAnswer} → i < n → ((j : ℕ) → j < i → RowKeeps S T j) → RowBreaks S T i x → check_rows S T n ≡ x
  unfolding check_rows and_then
  rows_broken zero h f b = absurd (not-suc-le-zero h)
  rows_broken (suc n) {i} {x} h f b = go (last_or_before h) (λ l. rows_broken n l f b)
    where
      go : (i < n) ⊎ (i ≡ n) → (i < n → check_rows S T n ≡ x) → and_then (check_rows S T n) (check_row S T n) ≡ x
      go (inl l) ih = ap (λ y. and_then y (check_row S T n)) (ih l) ∙ broken_first b (check_row S T n)
      go (inr e) ih = ap₂ and_then (rows_kept n (λ j l. f j (omega arith))) (subst (λ k. check_row S T k ≡ x) e (row_broken b))

  -- nothing else can be said of a table than what the answer says
  pub judged_is : {x : RulesAnswer} → Judged S T x → check_rules S T ≡ x
  unfolding check_rules and_then broken_at
  judged_is {x} j = go j
    where
      all : Option ℕ → Option ℕ → RulesAnswer → RulesAnswer
      all o u y = and_then (broken_at rule_a o) (and_then (broken_at rule_b u) y)

      kept_a : ((i : ℕ) → i < T.count → RuleA S T i) → lowest (breaks_a S T) T.count ≡ None
      kept_a = lowest_kept (RuleA S T) (breaks_a S T) rule_a_iff T.count

      kept_b : ((α : ℕ) → α < S.packets → RuleB S T α) → lowest (breaks_b S T) S.packets ≡ None
      kept_b = lowest_kept (RuleB S T) (breaks_b S T) rule_b_iff S.packets

      go : {x : RulesAnswer} → Judged S T x → all (lowest (breaks_a S T) T.count) (lowest (breaks_b S T) S.packets) (check_rows S T T.count) ≡ x
      go (keeps k) = ap₂ (λ o u. all o u (check_rows S T T.count)) (kept_a k.a) (kept_b k.b) ∙ rows_kept T.count (λ i h. record { c = k.c i h; d = k.d i h })
      go (breaks_rule_a l) = ap (λ o. all o (lowest (breaks_b S T) S.packets) (check_rows S T T.count)) (lowest_spot (RuleA S T) (breaks_a S T) rule_a_iff T.count l)
      go (breaks_rule_b a l) = ap₂ (λ o u. all o u (check_rows S T T.count)) (kept_a a) (lowest_spot (RuleB S T) (breaks_b S T) rule_b_iff S.packets l)
      go (breaks_row a b i h f r) = ap₂ (λ o u. all o u (check_rows S T T.count)) (kept_a a) (kept_b b) ∙ rows_broken T.count h f r

  -- accepted exactly when the four rules are kept
  pub accepted_iff : (check_rules S T ≡ accepted) ↔ KeepsRules S T
  accepted_iff = (λ e. there (subst (Judged S T) e judged), λ k. judged_is (keeps k))
    where
      never : {i : ℕ} → RowBreaks S T i accepted → ⊥
      never b = elim b [ ]

      there : Judged S T accepted → KeepsRules S T
      there (keeps k) = k
      there (breaks_row a b i h f r) = absurd (never r)

  -- rules (b), (c) and (d) make the table closed
  pub keeps_closed : KeepsRules S T → Closed S (Present S T)
  unfolding RuleB RuleC RuleD
  keeps_closed k =
      record {
        starting = k.b;
        silent = λ r p γ h. subst (λ q. tells S q γ ≡ false) p.there (k.c p.place p.inside γ h);
        onward = λ r p γ h. subst (λ q. (S.dead (next_row S q γ).state ≡ true) ⊎ Present S T (next_row S q γ)) p.there (k.d p.place p.inside γ h);
      }

  -- accepted: nothing tells, and each row of the row order is present
  pub accepted_silent : check_rules S T ≡ accepted → Silent S
  accepted_silent e = closed_silent S L (keeps_closed (accepted_iff.0 e))

  pub accepted_contains : check_rules S T ≡ accepted → (k : ℕ) (r : Row S) → Listed S (run S k).rows r → Present S T r
  accepted_contains e k = closed_contains S (keeps_closed (accepted_iff.0 e)) (invariant S L k).listing

  -- with as many rows as an accepted table has, the search answers equal
  pub accepted_enough : check_rules S T ≡ accepted → answer_with S T.count ≡ equal (length (held S T.count))
  accepted_enough e = closed_answer S L (keeps_closed (accepted_iff.0 e)) (record { row_at = T.row; placed = λ r p. (p.place, p.inside, p.there) })

  -- a table of listed rows that are closed and sound keeps the rules
  pub listed_keeps : (es : List (Entry S)) → T.count ≡ length es → ((i : ℕ) → i < length es → T.row i ≡ (entry_at S es i).row)
      → Closed S (Listed S es) → InRange S (Listed S es) → KeepsRules S T
  unfolding RuleA RuleB RuleC RuleD
  listed_keeps es n same C Q =
      record {
        a = λ i h. (Q.small (T.row i) (at i h), Q.valid (T.row i) (at i h));
        b = λ α h. is (C.starting α h);
        c = λ i h γ l. C.silent (T.row i) (at i h) γ l;
        d = λ i h γ l. ⊎_elim inl (λ x. inr (is x)) (C.onward (T.row i) (at i h) γ l);
      }
    where
      at : (i : ℕ) → i < T.count → Listed S es (T.row i)
      at i h = record { place = i; inside = omega arith; there = sym (same i (omega arith)) }

      is : {r : Row S} → Listed S es r → Present S T r
      is x = record { place = x.place; inside = omega (arith, x.inside); there = same x.place x.inside ∙ x.there }
