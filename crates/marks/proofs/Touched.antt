-- Laws of the touched packets: of one next list, of either, and which is next. Assumes nothing.
use Prim.Native.Nat.{ℕ, ◌+◌, ◌*◌, ◌/◌, ◌%◌, ◌≤◌, ◌<◌}
use mathlib.Core.Path.{◌≡◌, refl, sym, ap, ap₂, ◌∙◌, subst}
use mathlib.Core.Bool.{Bool, true, false, ◌&&◌, ◌||◌, true≢false}
use mathlib.Core.List.{List}
use native.Mathlib.Decide.{dec_lt}
use native.Mathlib.Omega.{arith}
use lib.Bits.{bit_or}
use lib.Dec.{T, ltb}
use lib.ListN.{length, get_or, set, replicate, length-set, length-replicate, get_or-eq_default}
use lib.Seq.{get_or-set_same, get_or-set_other}
use borrow.Author.Count.{below_more}
use borrow.Author.Tests.{lt-ltb, le-ltb}
use Rattle.packet_set.specs.Bits.{bit}
use Rattle.std.specs.Prelude.{Option, Some, None}
use Rattle.packet_set.specs.InnerMembers.{member, words_for, lowest_in}
use Rattle.packet_set.proofs.Digits.{bit_or_lem, bit_of_zero}
use Rattle.packet_set.proofs.Masks.{bit_low}
use Rattle.packet_set.proofs.Walk.{LowestIn, found_at, found_none}
use Rattle.packet_set.proofs.Words.{words_hold, words_within}
use Rattle.spans.specs.Spans.{has_mark, touched}
use Rattle.spans.proofs.Sets.{zero_word, slot_word, slot_beyond}
use Rattle.marks.specs.Marks.{Marking, Unmarked, Blank}

-- ---- one next list

module _ (next : List ℕ) where
  pub touched_bit : (γ : ℕ) → γ < 1024 → touched next γ ≡ bit (get_or next (1024 + γ / 32) 0) (γ % 32)
  unfolding touched
  touched_bit = slot_word next 32

  pub touched_over : (γ : ℕ) → 1024 ≤ γ → touched next γ ≡ false
  unfolding touched
  touched_over = slot_beyond next 32

  -- word i of the touched packets holds those from 32 i on
  pub touched_in_word : (i j : ℕ) → i < 32 → j < 32 → touched next (32 * i + j) ≡ bit (get_or next (1024 + i) 0) j
  touched_in_word i j l h =
      let q : (32 * i + j) / 32 ≡ i = omega arith in
      let r : (32 * i + j) % 32 ≡ j = omega arith in
      touched_bit (32 * i + j) (omega arith) ∙ ap₂ (λ (x y : ℕ). bit (get_or next (1024 + x) 0) y) q r

  pub no_marks : Unmarked next → (i γ : ℕ) → has_mark next i γ ≡ false
  unfolding has_mark
  no_marks U i γ = go (dec_lt γ 1024)
    where
      go : Dec (γ < 1024) → ltb γ 1024 && bit (get_or next γ 0) i ≡ false
      go (yes l) = ap₂ (λ (b : Bool) (m : ℕ). b && bit m i) (lt-ltb γ 1024 l) (U.masks γ l) ∙ bit_of_zero i
      go (no l) = ap (λ (b : Bool). b && bit (get_or next γ 0) i) (le-ltb γ 1024 (omega arith))

  pub marking_wider : {N M : ℕ} → N ≤ M → Marking N next → Marking M next
  marking_wider {N} l A =
      record {
        rest = A.rest;
        below = λ γ t.
            let h : γ < N = A.below γ t in
            omega arith;
      }

  -- what `forget` asks, whose bound is a number of words
  pub forget_asks : {N words : ℕ} → N ≤ 1024 → words ≡ words_for N → Marking N next → (words ≤ 32) × Marking (32 * words) next
  forget_asks {N} l e A = (subst (λ (k : ℕ). k ≤ 32) (sym e) (words_within N l), marking_wider (subst (λ (k : ℕ). N ≤ 32 * k) (sym e) (words_hold N)) A)

-- a new next list
pub blank_new : Blank (replicate 1056 0)
blank_new = record {
  long = length-replicate {A = ℕ} 1056 0;
  unmarked = record { masks = λ γ l. zero_word 1056 γ; untouched = λ γ. touch γ (dec_lt γ 1024) };
}
  where
    touch : (γ : ℕ) → Dec (γ < 1024) → touched (replicate 1056 0) γ ≡ false
    touch γ (yes l) = touched_bit (replicate 1056 0) γ l ∙ ap (λ (x : ℕ). bit x (γ % 32)) (zero_word 1056 (1024 + γ / 32)) ∙ bit_of_zero (γ % 32)
    touch γ (no l) = touched_over (replicate 1056 0) γ (omega arith)

-- ---- either of two

-- the words below i are joined
pub record JoinedTo (left right now : List ℕ) (i : ℕ) : Type 0 where
  pub at : i ≤ 32
  pub long : length now ≡ 32
  pub joined : (j : ℕ) → j < i → get_or now j 0 ≡ bit_or (get_or left (1024 + j) 0) (get_or right (1024 + j) 0) % 4294967296

module _ {left right now : List ℕ} where
  pub joined_none : length now ≡ 32 → JoinedTo left right now 0
  joined_none l = record { at = omega arith; long = l; joined = λ j h. absurd (omega arith) }

  pub joined_more : {i : ℕ} → JoinedTo left right now i → i < 32 → JoinedTo left right (set now i (bit_or (get_or left (1024 + i) 0) (get_or right (1024 + i) 0) % 4294967296)) (i + 1)
  joined_more {i} J l =
      record {
        at = omega arith;
        long = length-set now i _ ∙ J.long;
        joined = below_more _ i
            (λ j h. get_or-set_other now i j _ 0 (omega arith) ∙ J.joined j h)
            (get_or-set_same now i _ 0 (omega (arith, J.long)));
      }

  pub joined_members : {i : ℕ} → JoinedTo left right now i → 32 ≤ i → (γ : ℕ) → member now γ ≡ (touched left γ || touched right γ)
  unfolding member
  joined_members {i} J l γ = go (dec_lt γ 1024)
    where
      go : Dec (γ < 1024) → member now γ ≡ (touched left γ || touched right γ)
      go (yes h) =
          ap (λ (x : ℕ). bit x (γ % 32)) (J.joined (γ / 32) (omega arith)) ∙ bit_low 32 _ (γ % 32) (omega arith) ∙ bit_or_lem _ _ (γ % 32)
          ∙ sym (ap₂ (λ (a b : Bool). a || b) (touched_bit left γ h) (touched_bit right γ h))
      go (no h) =
          ap (λ (x : ℕ). bit x (γ % 32)) (get_or-eq_default now 0 (omega (arith, J.long))) ∙ bit_of_zero (γ % 32)
          ∙ sym (ap₂ (λ (a b : Bool). a || b) (touched_over left γ (omega arith)) (touched_over right γ (omega arith)))

-- ---- a walk over the packets that have marks in one of two next lists

-- the packets from `from` on that are below `to` have no marks
abbrev pub PassedOver : (left right : List ℕ) (from to : ℕ) → Type 0
PassedOver left right from to = (β : ℕ) → from ≤ β → β < to → (get_or left β 0 ≡ 0) × (get_or right β 0 ≡ 0)

-- the walk goes on at γ
pub record NextMarked (N : ℕ) (left right : List ℕ) (from γ : ℕ) : Type 0 where
  pub below : γ < N
  pub above : from ≤ γ
  pub passed : PassedOver left right from γ

-- the words that N packets need
pub walk_words : {N words n : ℕ} → N ≤ 1024 → words ≡ words_for n → n ≡ N → words ≤ 32
walk_words {N} small e q = subst (λ (k : ℕ). k ≤ 32) (sym (e ∙ ap words_for q)) (words_within N small)

module _ {N : ℕ} {left right : List ℕ} (L : Marking N left) (R : Marking N right) (s : List ℕ)
    (joined : (γ : ℕ) → member s γ ≡ (touched left γ || touched right γ)) (small : N ≤ 1024) where
  either_below : (γ : ℕ) → T (member s γ) → γ < N
  either_below γ t = go (touched left γ) (touched right γ) (L.below γ) (R.below γ) (subst T (joined γ) t)
    where
      go : (a b : Bool) → (T a → γ < N) → (T b → γ < N) → T (a || b) → γ < N
      go true b l r t = l tt
      go false b l r t = r t

  unmarked : {from to : ℕ} → to ≤ N → ((β : ℕ) → from ≤ β → β < to → member s β ≡ false) → PassedOver left right from to
  unmarked h first β a b = go (touched left β) (touched right β) refl refl (sym (joined β) ∙ first β a b)
    where
      go : (x y : Bool) → touched left β ≡ x → touched right β ≡ y → x || y ≡ false → (get_or left β 0 ≡ 0) × (get_or right β 0 ≡ 0)
      go false false p q e = (L.rest β (omega arith) p, R.rest β (omega arith) q)
      go true y p q e = absurd (true≢false e)
      go false true p q e = absurd (true≢false e)

  -- with the words that N packets need
  module _ {words n : ℕ} (e : words ≡ words_for n) (q : n ≡ N) where
    wide : N ≤ 32 * words
    wide = subst (λ (k : ℕ). N ≤ 32 * k) (sym (e ∙ ap words_for q)) (words_hold N)

    module _ {from : ℕ} {r : Option ℕ} (f : r ≡ lowest_in words from s) where
      pub walk_at : {γ : ℕ} → r ≡ Some γ → NextMarked N left right from γ
      walk_at {γ} h =
          let l : LowestIn words from s γ = found_at words from s r f γ h in
          let b : γ < N = either_below γ (subst T (sym l.inside) tt) in
          record { below = b; above = l.above; passed = unmarked (omega arith) l.first }

      pub walk_end : r ≡ None → PassedOver left right from N
      walk_end h = unmarked (omega arith) (λ β a b. found_none words from s r f h β a (omega (arith, wide)))
