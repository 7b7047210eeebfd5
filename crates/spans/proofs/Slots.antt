-- Slots become 0, one and all that were seen. Assumes nothing.
use Prim.Native.Nat.{ℕ, ◌+◌, ◌-◌, ◌*◌, ◌/◌, ◌%◌, ◌≤◌, ◌<◌}
use mathlib.Core.Bool.{Bool, false, cond}
use mathlib.Core.List.{List, ◌++◌}
use mathlib.Core.Path.{◌≡◌, sym, ap, ap₂, ◌∙◌, subst}
use native.Mathlib.Decide.{dec_lt, ℕ_discrete}
use native.Mathlib.Omega.{arith}
use borrow.Author.Tests.{eq-eqb, ne_eqb, lt-ltb, le-ltb}
use lib.Dec.{T, ltb, lit<}
use lib.ListN.{length, get_or, take, drop, replicate, length-append, length-drop, length-replicate}
use lib.Seq.{length-take-le}
use borrow.Rule.Slice.PartMut.{put_mid}
use Rattle.std.proofs.lemmas.List.{get_or_append_left, get_or-append_right, get_or-take, get_or-drop}
use mir.Syntax.{w32}
use mir.Val.{Fits}
use Rattle.packet.proofs.Tests.{T_false}
use Rattle.packet_set.specs.Bits.{bit}
use Rattle.std.specs.Prelude.{Option, Some, None}
use Rattle.packet_set.specs.InnerMembers.{member, lowest_in}
use Rattle.packet_set.proofs.Digits.{bits_same, bit_of_zero}
use Rattle.packet_set.proofs.Walk.{LowestIn, found_at, found_none}
use Rattle.spans.specs.Spans.{slot, Rewritten, cleared_word, Unseen}
use Rattle.spans.proofs.Rewriting.{Doing, none_done, all_done}
use Rattle.spans.proofs.Sets.{slot_word, zero_word}

-- ---- one slot

module _ (work : List ℕ) (n i : ℕ) where
  pub cleared_here : i / 32 ≡ n → 0 ≡ cleared_word work n i
  unfolding cleared_word
  cleared_here e = sym (ap (λ (b : Bool). cond b 0 (get_or work i 0)) (eq-eqb (i / 32) n e))

  pub cleared_else : (i / 32 ≡ n → ⊥) → cleared_word work n i ≡ get_or work i 0
  unfolding cleared_word
  cleared_else h = ap (λ (b : Bool). cond b 0 (get_or work i 0)) (ne_eqb (i / 32) n h)

-- the slot's 32 words are filled with 0
pub cleared : (work zeros : List ℕ) (n : ℕ) → 32 * n + 32 ≤ length work → zeros ≡ replicate 32 0 → Rewritten (cleared_word work n) work (put_mid (32 * n) 32 work zeros)
cleared work zeros n room e = record {
  long = omega (arith, length-append (take (32 * n) work) (zeros ++ drop 32 (drop (32 * n) work)), length-append zeros (drop 32 (drop (32 * n) work)), length-drop 32 (drop (32 * n) work), length-drop (32 * n) work, before, filled);
  words = λ j. word j (dec_lt j (32 * n)) (dec_lt j (32 * n + 32));
}
  where
    before : length (take (32 * n) work) ≡ 32 * n
    before = length-take-le (32 * n) work (omega arith)

    filled : length zeros ≡ 32
    filled = ap length e ∙ length-replicate {A = ℕ} 32 0

    rest : (j : ℕ) → 32 * n ≤ j → get_or (put_mid (32 * n) 32 work zeros) j 0 ≡ get_or (zeros ++ drop 32 (drop (32 * n) work)) (j - 32 * n) 0
    rest j l = get_or-append_right (take (32 * n) work) (zeros ++ drop 32 (drop (32 * n) work)) (32 * n) j 0 before l

    word : (j : ℕ) → Dec (j < 32 * n) → Dec (j < 32 * n + 32) → get_or (put_mid (32 * n) 32 work zeros) j 0 ≡ cleared_word work n j
    word j (yes l) h =
        get_or_append_left (take (32 * n) work) (zeros ++ drop 32 (drop (32 * n) work)) 0 j (omega (arith, before)) ∙ get_or-take (32 * n) work j 0 l
        ∙ sym (cleared_else work n j (λ q. omega arith))
    word j (no l) (yes h) =
        rest j (omega arith) ∙ get_or_append_left zeros (drop 32 (drop (32 * n) work)) 0 (j - 32 * n) (omega (arith, filled))
        ∙ ap (λ (z : List ℕ). get_or z (j - 32 * n) 0) e ∙ zero_word 32 (j - 32 * n) ∙ cleared_here work n j (omega arith)
    word j (no l) (no h) =
        let q : 32 * n + (32 + (j - 32 * n - 32)) ≡ j = omega arith in
        rest j (omega arith) ∙ get_or-append_right zeros (drop 32 (drop (32 * n) work)) 32 (j - 32 * n) 0 filled (omega arith)
        ∙ get_or-drop 32 (drop (32 * n) work) (j - 32 * n - 32) 0 ∙ get_or-drop (32 * n) work (32 + (j - 32 * n - 32)) 0
        ∙ ap (λ (x : ℕ). get_or work x 0) q ∙ sym (cleared_else work n j (λ q. omega arith))

-- ---- all slots

-- the words where the slots of all nodes become 0
unfoldable pub zeroed_word : List ℕ → ℕ → ℕ
zeroed_word work i = cond (ltb i 16384) 0 (get_or work i 0)

module _ (work : List ℕ) (i : ℕ) where
  zeroed_here : i < 16384 → zeroed_word work i ≡ 0
  unfolding zeroed_word
  zeroed_here l = ap (λ (b : Bool). cond b 0 (get_or work i 0)) (lt-ltb i 16384 l)

  zeroed_else : 16384 ≤ i → zeroed_word work i ≡ get_or work i 0
  unfolding zeroed_word
  zeroed_else l = ap (λ (b : Bool). cond b 0 (get_or work i 0)) (le-ltb i 16384 l)

pub unseeing_start : (work : List ℕ) → Doing (zeroed_word work) work work (32 * 0)
unseeing_start work = none_done (zeroed_word work) work (32 * 0) (λ j l. absurd (omega arith))

module _ (work seen : List ℕ) (fits : (i : ℕ) → Fits w32 (get_or work i 0)) (given : (m γ : ℕ) → T (slot work m γ) → m < 512 → T (member seen m)) where
  -- a node that was not seen has an empty slot
  unseen_zero : (i : ℕ) → i < 16384 → member seen (i / 32) ≡ false → get_or work i 0 ≡ 0
  unseen_zero i l e = bits_same 32 (get_or work i 0) 0 (fits i).fits (lit< tt) (λ b k. T_false (bit (get_or work i 0) b) (λ t. out b k t) ∙ sym (bit_of_zero b))
    where
      out : (b : ℕ) → b < 32 → T (bit (get_or work i 0) b) → ⊥
      out b k t =
          let q : 32 * (i / 32) + (32 * (i % 32) + b) / 32 ≡ i = omega arith in
          let r : (32 * (i % 32) + b) % 32 ≡ b = omega arith in
          let s = slot_word work (i / 32) (32 * (i % 32) + b) (omega arith) ∙ ap₂ (λ (x y : ℕ). bit (get_or work x 0) y) q r in
          subst T e (given (i / 32) (32 * (i % 32) + b) (subst T (sym s) t) (omega arith))

  unseen_same : (i : ℕ) → (i < 16384 → member seen (i / 32) ≡ false) → zeroed_word work i ≡ get_or work i 0
  unseen_same i h = go (dec_lt i 16384)
    where
      go : Dec (i < 16384) → zeroed_word work i ≡ get_or work i 0
      go (yes l) = zeroed_here work i l ∙ sym (unseen_zero i l (h l))
      go (no l) = zeroed_else work i (omega arith)

  module _ (now : List ℕ) (from : ℕ) (d : Doing (zeroed_word work) work now (32 * from)) (r : Option ℕ) (e : r ≡ lowest_in 16 from seen) where
    pub unseeing_at : (n : ℕ) → r ≡ Some n → LowestIn 16 from seen n
    unseeing_at n h = found_at 16 from seen r e n h

    pub unseeing_turn : (n : ℕ) → r ≡ Some n → (now' : List ℕ) → Rewritten (cleared_word now n) now now' → Doing (zeroed_word work) work now' (32 * (n + 1))
    unseeing_turn n h now' w = record {
      long = w.long ∙ d.long;
      done = λ j l. w.words j ∙ word j l (ℕ_discrete (j / 32) n) (dec_lt j (32 * from));
      left = λ j l. w.words j ∙ cleared_else now n j (omega arith) ∙ d.left j (omega (arith, (unseeing_at n h).above));
    }
      where
        word : (j : ℕ) → j < 32 * (n + 1) → Dec (j / 32 ≡ n) → Dec (j < 32 * from) → cleared_word now n j ≡ zeroed_word work j
        word j l (yes q) b = sym (cleared_here now n j q) ∙ sym (zeroed_here work j (omega (arith, (unseeing_at n h).below)))
        word j l (no q) (yes b) = cleared_else now n j q ∙ d.done j b
        word j l (no q) (no b) = cleared_else now n j q ∙ d.left j (omega arith) ∙ sym (unseen_same j (λ k. (unseeing_at n h).first (j / 32) (omega arith) (omega arith)))

    pub unseeing_end : r ≡ None → Unseen work now
    unseeing_end h =
        let w = all_done (zeroed_word work) work now (32 * from) d (λ j l. unseen_same j (λ k. found_none 16 from seen r e h (j / 32) (omega arith) (omega arith))) in
        record { clear = λ i l. w.words i ∙ zeroed_here work i l; beyond = λ i l. w.words i ∙ zeroed_else work i l }
