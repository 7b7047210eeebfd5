-- A loop over words of a list: those before p are done, the others are as they were. Assumes nothing.
use Prim.Native.Nat.{ℕ, zero, suc, ◌+◌, ◌-◌, ◌/◌, ◌%◌, ◌^◌, ◌≤◌, ◌<◌}
use mathlib.Core.Bool.{Bool, true, false, not, ◌&&◌, ◌||◌, true≢false}
use mathlib.Core.List.{List}
use mathlib.Core.Logic.{◌⊎◌, inl, inr}
use mathlib.Core.Path.{◌≡◌, refl, sym, ap, ◌∙◌, subst}
use native.Mathlib.Decide.{dec_lt, ℕ_discrete}
use native.Mathlib.Omega.{arith}
use borrow.Author.Tests.{eqb-true, eqb-false, not-true, not-false}
use lib.Bits.{bit_and}
use lib.Count.{count_trailing_zeros}
use lib.Pow.{pow_pos}
use native.Mathlib.Nat.{pow-suc, mod-lt, zero-lt-suc}
use lib.Dec.{eqb}
use lib.ListN.{length, get_or, set, length-set}
use lib.Seq.{get_or-set_same, get_or-set_other}
use Rattle.packet.proofs.Tests.{or_true, or_false}
use Rattle.packet_set.specs.Bits.{bit}
use Rattle.packet_set.specs.InnerMembers.{without}
use Rattle.packet_set.proofs.Digits.{bit_zero, bit_suc, bit_high, bit_and_lem, bit_without, same_bits}
use Rattle.packet_set.proofs.Trailing.{trailing_lowest}
use Rattle.spans.specs.Spans.{Rewritten}

pub record Doing (f : ℕ → ℕ) (old now : List ℕ) (p : ℕ) : Type 0 where
  pub long : length now ≡ length old
  pub done : (j : ℕ) → j < p → get_or now j 0 ≡ f j
  pub left : (j : ℕ) → p ≤ j → get_or now j 0 ≡ get_or old j 0

module _ (f : ℕ → ℕ) (old : List ℕ) where
  pub none_done : (p : ℕ) → ((j : ℕ) → j < p → f j ≡ get_or old j 0) → Doing f old old p
  none_done p same = record { long = refl; done = λ j l. sym (same j l); left = λ j l. refl }

  module _ (now : List ℕ) (p : ℕ) (d : Doing f old now p) where
    pub one_done : (v q : ℕ) → p < length old → v ≡ f p → q ≡ p + 1 → Doing f old (set now p v) q
    one_done v q room e step = record {
      long = length-set now p v ∙ d.long;
      done = λ j l. split j l (ℕ_discrete j p);
      left = λ j l. get_or-set_other now p j v 0 (omega arith) ∙ d.left j (omega arith);
    }
      where
        split : (j : ℕ) → j < q → Dec (j ≡ p) → get_or (set now p v) j 0 ≡ f j
        split j l (yes h) = subst (λ (x : ℕ). get_or (set now p v) x 0 ≡ f x) (sym h) (get_or-set_same now p v 0 (omega (arith, d.long)) ∙ e)
        split j l (no h) = get_or-set_other now p j v 0 h ∙ d.done j (omega arith)

    pub all_done : ((j : ℕ) → p ≤ j → f j ≡ get_or old j 0) → Rewritten f old now
    all_done same = record { long = d.long; words = λ j. place j (dec_lt j p) }
      where
        place : (j : ℕ) → Dec (j < p) → get_or now j 0 ≡ f j
        place j (yes b) = d.done j b
        place j (no b) = let h : p ≤ j = omega arith in d.left j h ∙ sym (same j h)

-- ---- is any word not 0?

-- a word that is not 0 has a bit, and one that fits has it below 32
bit_found : (word : ℕ) → word < 2 ^ 32 → (word ≡ 0 → ⊥) → (b : ℕ) × (b < 32) × (bit word b ≡ true)
bit_found word fits n =
    let h = trailing_lowest 32 word fits (omega arith) in
    (count_trailing_zeros 32 word, h.below, h.passes)

-- `any` tells whether a word below i is not 0
pub record Any (f : ℕ → ℕ) (any : Bool) (i : ℕ) : Type 0 where
  pub none : any ≡ false → (j : ℕ) → j < i → f j ≡ 0
  pub some : any ≡ true → (j : ℕ) × (b : ℕ) × (b < 32) × (bit (f j) b ≡ true)

module _ (f : ℕ → ℕ) where
  pub none_seen : (from : ℕ) → ((j : ℕ) → j < from → f j ≡ 0) → Any f false from
  none_seen from z = record { none = λ e. z; some = λ e. absurd (true≢false (sym e)) }

  module _ (any : Bool) (i : ℕ) (a : Any f any i) where
    pub one_seen : (v : ℕ) → v ≡ f i → v < 2 ^ 32 → Any f (any || not (eqb v 0)) (i + 1)
    one_seen v e fits = record {
      none = λ z j l. let p = or_false any (not (eqb v 0)) z in out p.0 (eqb-true v 0 (not-false (eqb v 0) p.1)) j l (ℕ_discrete j i);
      some = λ t. at (or_true any (not (eqb v 0)) t);
    }
      where
        out : any ≡ false → v ≡ 0 → (j : ℕ) → j < i + 1 → Dec (j ≡ i) → f j ≡ 0
        out p q j l (yes h) = ap f h ∙ sym e ∙ q
        out p q j l (no h) = a.none p j (omega arith)

        at : (any ≡ true) ⊎ (not (eqb v 0) ≡ true) → (j : ℕ) × (b : ℕ) × (b < 32) × (bit (f j) b ≡ true)
        at (inl t) = a.some t
        at (inr t) = let h = bit_found v fits (eqb-false v 0 (not-true (eqb v 0) t)) in (i, h.0, h.1, ap (λ (x : ℕ). bit x h.0) (sym e) ∙ h.2)

    -- where no word is told all are 0
    pub all_zero : ((j : ℕ) → i ≤ j → f j ≡ 0) → any ≡ false → (j : ℕ) → f j ≡ 0
    all_zero z e j = go (dec_lt j i)
      where
        go : Dec (j < i) → f j ≡ 0
        go (yes l) = a.none e j l
        go (no l) = z j (omega arith)

-- ---- a word's bits that another word has not

bit_complement : (w m i : ℕ) → m < 2 ^ w → i < w → bit (2 ^ w - 1 - m) i ≡ not (bit m i)
bit_complement zero m i h l = absurd (omega arith)
bit_complement (suc w) m zero h l = bit_zero (2 ^ suc w - 1 - m) ∙ go (m % 2) (mod-lt m (zero-lt-suc 1)) refl ∙ ap not (sym (bit_zero m))
  where
    go : (d : ℕ) → d < 2 → m % 2 ≡ d → eqb ((2 ^ suc w - 1 - m) % 2) 1 ≡ not (eqb (m % 2) 1)
    go zero b e = let p : (2 ^ suc w - 1 - m) % 2 ≡ 1 = omega (arith, pow-suc 2 w) in rw (p, e) refl
    go (suc zero) b e = let p : (2 ^ suc w - 1 - m) % 2 ≡ 0 = omega (arith, pow-suc 2 w) in rw (p, e) refl
    go (suc (suc d)) b e = absurd (omega arith)
bit_complement (suc w) m (suc i) h l =
    let half : (2 ^ suc w - 1 - m) / 2 ≡ 2 ^ w - 1 - m / 2 = omega (arith, pow-suc 2 w, pow_pos w) in
    bit_suc (2 ^ suc w - 1 - m) i ∙ ap (λ (x : ℕ). bit x i) half ∙ bit_complement w (m / 2) i (omega (arith, pow-suc 2 w)) (omega arith) ∙ ap not (sym (bit_suc m i))

pub and_complement : (w x y : ℕ) → x < 2 ^ w → y < 2 ^ w → bit_and x (2 ^ w - 1 - y) ≡ without x y
and_complement w x y h k = same_bits _ _ (λ i. bit_and_lem x (2 ^ w - 1 - y) i ∙ go i (dec_lt i w) ∙ sym (bit_without x y i))
  where
    go : (i : ℕ) → Dec (i < w) → bit x i && bit (2 ^ w - 1 - y) i ≡ bit x i && not (bit y i)
    go i (yes l) = ap (λ b. bit x i && b) (bit_complement w y i k l)
    go i (no l) = let f = bit_high w x i h (omega arith) in ap (λ b. b && bit (2 ^ w - 1 - y) i) f ∙ sym (ap (λ b. b && not (bit y i)) f)
