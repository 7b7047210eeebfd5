-- What the loops look for, step by step.
-- Assumes nothing.
use Prim.Native.Nat.{ℕ, zero, suc, ◌+◌, ◌≤◌, ◌<◌}
use native.Mathlib.Decide.{dec_lt}
use native.Mathlib.Nat.{le_refl, le_antisymm}
use native.Mathlib.Numerals.{add-one}
use native.Mathlib.Omega.{arith}
use mathlib.Core.Bool.{Bool, true, false, cond, not, ◌&&◌, ◌||◌, and-false}
use mathlib.Core.List.{List, [], ◌∷◌}
use Rattle.std.specs.Prelude.{Option, None, Some}
use mathlib.Core.Path.{◌≡◌, refl, sym, ◌∙◌, ap, ap₂, subst}
use lib.Dec.{eqb, ltb}
use lib.ListN.{length, get_or}
use borrow.Author.Tests.{ltb-true, eq-eqb, ne_eqb, lt-ltb, le-ltb}
use Rattle.packet.specs.Lowest.{lowest}
use Rattle.packet.proofs.Lowest.{Found, lowest_is, lowest_none, none_lowest, lowest_more, lowest_found, lowest_none_whole}
use Rattle.packet_set.specs.Bits.{mask_bits, only_bits}
use Rattle.index.specs.declared.Row.{Row}
use Rattle.index.specs.Columns.{policy_count, Small, row_at, rows_agree, listed_below}
use Rattle.index.specs.Index.{Indexed, LookEnds}
use Rattle.std.specs.Prelude.{Some, None, Result, Ok}
use Rattle.marks.proofs.Touched.{PassedOver, NextMarked}
use Rattle.row_rules.specs.Presence.{mask_row, states_in_range, row_in_range, DupsFit, stray_after, or_end, before, zero_states, in_columns, strays, start_missing, next_missing, Repeated}

-- ---- one row

module _ (l r : ℕ) where
  pub left_nonzero : (l ≡ 0 → ⊥) → false ≡ zero_states l r
  unfolding zero_states
  left_nonzero h = sym (ap (λ (b : Bool). b && eqb r 0) (ne_eqb l 0 h))

  pub left_zero : l ≡ 0 → eqb r 0 ≡ zero_states l r
  unfolding zero_states
  left_zero e = sym (ap (λ (b : Bool). b && eqb r 0) (eq-eqb l 0 e))

-- the states, policy by policy
module _ (dups states : List ℕ) where
  pub in_range_none : states_in_range 0 dups states ≡ true
  unfolding states_in_range
  in_range_none = refl

  pub in_range_more : (k : ℕ) (b : Bool) → states_in_range k dups states ≡ true → b ≡ only_bits (get_or states k 0) (get_or dups k 0) → b ≡ true → states_in_range (k + 1) dups states ≡ true
  unfolding states_in_range
  in_range_more k b e f t = subst (λ (n : ℕ). states_in_range n dups states ≡ true) (sym (add-one k)) (ap₂ ◌&&◌ e (sym f ∙ t))

  pub out_of_range : (k n : ℕ) → k < n → only_bits (get_or states k 0) (get_or dups k 0) ≡ false → states_in_range n dups states ≡ false
  unfolding states_in_range
  out_of_range k zero l e = absurd (omega arith)
  out_of_range k (suc n) l e = go (dec_lt k n) (λ h. out_of_range k n h e)
    where
      go : Dec (k < n) → (k < n → states_in_range n dups states ≡ false) → states_in_range n dups states && only_bits (get_or states n 0) (get_or dups n 0) ≡ false
      go (yes h) ih = ap (λ (b : Bool). b && only_bits (get_or states n 0) (get_or dups n 0)) (ih h)
      go (no h) ih =
          let q : k ≡ n = omega arith in
          ap (λ (b : Bool). states_in_range n dups states && b) (subst (λ (j : ℕ). only_bits (get_or states j 0) (get_or dups j 0) ≡ false) q e) ∙ and-false (states_in_range n dups states)

  pub in_range_all : (k n : ℕ) → k ≤ n → n ≤ k → states_in_range k dups states ≡ true → states_in_range n dups states ≡ true
  in_range_all k n l g e = subst (λ (m : ℕ). states_in_range m dups states ≡ true) (le_antisymm l g) e

module _ (count : ℕ) (dups : List ℕ) (x : Row) where
  pub packet_over : count ≤ x.packet → false ≡ row_in_range count dups x
  unfolding row_in_range
  packet_over h = sym (ap (λ (b : Bool). b && states_in_range policy_count dups x.states) (le-ltb x.packet count h))

  pub packet_below : x.packet < count → states_in_range policy_count dups x.states ≡ row_in_range count dups x
  unfolding row_in_range
  packet_below h = sym (ap (λ (b : Bool). b && states_in_range policy_count dups x.states) (lt-ltb x.packet count h))

-- a bit for each dup of two policies
pub two_fit : {l r : ℕ} → l < mask_bits → r < mask_bits → DupsFit (l ∷ r ∷ [])
two_fit a b zero h = a
two_fit a b (suc zero) h = b
two_fit a b (suc (suc k)) h = absurd (omega arith)

-- ---- the first row that breaks rule (a), as a number

module _ (end found i : ℕ) (b fits : Bool) (e : b ≡ fits) where
  pub stray_kept : b ≡ true → found ≡ stray_after end found i fits
  unfolding stray_after
  stray_kept t = sym (ap (stray_after end found i) (sym e ∙ t))

  pub stray_found : b ≡ false → found < end → found ≡ stray_after end found i fits
  unfolding stray_after
  stray_found f l = sym (ap (stray_after end found i) (sym e ∙ f) ∙ ap (λ (c : Bool). cond c found i) (lt-ltb found end l))

  pub stray_first : b ≡ false → end ≤ found → i ≡ stray_after end found i fits
  unfolding stray_after
  stray_first f l = sym (ap (stray_after end found i) (sym e ∙ f) ∙ ap (λ (c : Bool). cond c found i) (le-ltb found end l))

module _ (end found : ℕ) where
  pub spot_before : found < end → Some found ≡ before end found
  unfolding before
  spot_before l = sym (ap (λ (c : Bool). cond c (Some found) None) (lt-ltb found end l))

  pub spot_end : end ≤ found → None ≡ before end found
  unfolding before
  spot_end l = sym (ap (λ (c : Bool). cond c (Some found) None) (le-ltb found end l))

-- the number of the lowest, or the end, tells which it is
pub before_or_end : (test : ℕ → Bool) (end : ℕ) → before end (or_end end (lowest test end)) ≡ lowest test end
unfolding before or_end
before_or_end test end = go (lowest test end) (lowest_is test end)
  where
    go : (o : Option ℕ) → Found test end o → cond (ltb (or_end end o) end) (Some (or_end end o)) None ≡ o
    go None f = ap (λ (c : Bool). cond c (Some end) None) (le-ltb end end (le_refl end))
    go (Some i) f = ap (λ (c : Bool). cond c (Some i) None) (lt-ltb i end f.below)

-- ---- one row of the table

module _ (packets lefts rights : List ℕ) where
  -- rule (a) at row i, read off a row
  pub strays_at : (count : ℕ) (dups : List ℕ) (i : ℕ) (x : Row) → x ≡ row_at packets lefts rights i → (b : Bool) → b ≡ row_in_range count dups x → strays packets lefts rights count dups i ≡ not b
  unfolding strays
  strays_at count dups i x e b f = ap not (ap (row_in_range count dups) (sym e) ∙ sym f)

  pub start_at : (α : ℕ) (b : Bool) → b ≡ listed_below (row_at packets lefts rights) (length packets) (mask_row α 1 1) → start_missing packets lefts rights α ≡ not b
  unfolding start_missing in_columns
  start_at α b e = ap not (sym e)

  -- rule (d) at packet γ, with the place that the code reads
  pub next_at : (nextL nextR : List ℕ) (γ i : ℕ) → i ≡ γ → (b : Bool) → b ≡ next_missing packets lefts rights γ (get_or nextL i 0) (get_or nextR i 0)
      → next_missing packets lefts rights γ (get_or nextL γ 0) (get_or nextR γ 0) ≡ b
  next_at nextL nextR γ i e b f = ap (λ (n : ℕ). next_missing packets lefts rights γ (get_or nextL n 0) (get_or nextR n 0)) (sym e) ∙ sym f

  module _ (γ l r : ℕ) (z : Bool) (is_zero : z ≡ zero_states l r) where
    pub next_zero : z ≡ true → false ≡ next_missing packets lefts rights γ l r
    unfolding next_missing
    next_zero e = sym (ap (λ (b : Bool). not (b || in_columns packets lefts rights γ l r)) (sym is_zero ∙ e))

    pub next_looked : z ≡ false → (b : Bool) → b ≡ listed_below (row_at packets lefts rights) (length packets) (mask_row γ l r) → not b ≡ next_missing packets lefts rights γ l r
    unfolding next_missing in_columns
    next_looked e b f = sym (ap₂ (λ (a c : Bool). not (a || c)) (sym is_zero ∙ e) (sym f))

  -- no row is asked for where both states are 0
  pub next_unmarked : (γ l r : ℕ) → (l ≡ 0) × (r ≡ 0) → next_missing packets lefts rights γ l r ≡ false
  next_unmarked γ l r z = sym (next_zero γ l r (zero_states l r) refl (sym (left_zero l r z.0) ∙ eq-eqb r 0 z.1))

-- ---- a loop over the spots

-- nothing is found below i
pub record Unbroken (test : ℕ → Bool) (n i : ℕ) : Type 0 where
  pub within : i ≤ n
  pub before : lowest test i ≡ None

module _ (test : ℕ → Bool) (n : ℕ) where
  pub unbroken_none : Unbroken test n 0
  unfolding lowest
  unbroken_none = record { within = omega arith; before = refl }

  module _ {i : ℕ} (u : Unbroken test n i) where
    pub unbroken_more : i < n → (b : Bool) → test i ≡ b → b ≡ false → Unbroken test n (i + 1)
    unbroken_more h b e f = record { within = omega arith; before = rw add-one (lowest_more test i u.before (e ∙ f)) }

    -- spots at which nothing is broken may be skipped
    pub unbroken_skip : {j : ℕ} → i ≤ j → j ≤ n → ((k : ℕ) → i ≤ k → k < j → test k ≡ false) → Unbroken test n j
    unbroken_skip {j} l h passed = record { within = h; before = none_lowest test j (λ k b. go k b (dec_lt k i)) }
      where
        go : (k : ℕ) → k < j → Dec (k < i) → test k ≡ false
        go k b (yes a) = lowest_none test i u.before k a
        go k b (no a) = passed k (omega arith) b

    pub broken_here : i < n → (b : Bool) → test i ≡ b → b ≡ true → Some i ≡ lowest test n
    broken_here h b e f = sym (lowest_found test i n u.before (e ∙ f) h)

    pub unbroken_all : n ≤ i → None ≡ lowest test n
    unbroken_all h = sym (lowest_none_whole test i n u.before (le_antisymm u.within h))

-- a walk over the packets that have marks: no row is asked for at those passed over
module _ (packets lefts rights nextL nextR : List ℕ) (n from : ℕ) where
  abbrev broken : ℕ → Bool
  broken γ = next_missing packets lefts rights γ (get_or nextL γ 0) (get_or nextR γ 0)

  module _ (u : Unbroken broken n from) where
    passed_by : {to : ℕ} → from ≤ to → to ≤ n → PassedOver nextL nextR from to → Unbroken broken n to
    passed_by l h zeros = unbroken_skip _ _ u l h (λ γ a b. next_unmarked _ _ _ γ _ _ (zeros γ a b))

    pub unbroken_next : {γ : ℕ} → NextMarked n nextL nextR from γ → Unbroken broken n γ
    unbroken_next M = passed_by M.above (omega (arith, M.below)) M.passed

    pub unbroken_rest : PassedOver nextL nextR from n → None ≡ lowest broken n
    unbroken_rest zeros = unbroken_all _ _ (passed_by u.within (le_refl n) zeros) (le_refl n)

-- ---- repeats

module _ {packets lefts rights trees : List ℕ} {count i : ℕ} where
  pub looked_up : {n : ℕ} → Indexed packets lefts rights count n trees → Small packets count → i < length packets → (x : Row) → x ≡ row_at packets lefts rights i → x.packet < count
  looked_up I small l x is_row = subst (λ y. y.packet < count) (sym is_row) (small.small i l)

  pub repeats : {n : ℕ} (x : Row) → x ≡ row_at packets lefts rights i → {answer : Result ℕ ℕ} → LookEnds (row_at packets lefts rights) count n trees x answer → (j : ℕ) → answer ≡ Ok j
      → ltb j i ≡ true → Repeated packets lefts rights i
  repeats x is_row p j e l =
      record { first = j; before = ltb-true j i l; same = subst (λ y. rows_agree (row_at packets lefts rights j) y ≡ true) is_row (p.listed j e).same }
