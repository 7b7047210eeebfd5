-- Packets get a mark, word by word of a set and bit by bit of a word. Assumes nothing.
use Prim.Native.Nat.{ℕ, ◌+◌, ◌-◌, ◌*◌, ◌/◌, ◌%◌, ◌^◌, ◌≤◌, ◌<◌}
use mathlib.Core.Bool.{Bool, true, false, not, ◌&&◌, ◌||◌, cond, and-true, and-false, or-false}
use mathlib.Core.List.{List}
use mathlib.Core.Path.{◌≡◌, refl, sym, ap, ap₂, ◌∙◌, subst}
use native.Mathlib.Decide.{dec_lt, ℕ_discrete}
use native.Mathlib.Omega.{arith}
use borrow.Author.Tests.{eq-eqb, ne_eqb, lt-ltb, le-ltb}
use lib.Bits.{bit_or, bit_and, and_le_l, or_zero_r}
use lib.Count.{count_trailing_zeros}
use lib.Dec.{eqb, ltb}
use lib.ListN as L
use lib.ListN.{length, get_or, length-set}
use lib.Seq.{get_or-set_same, get_or-set_other}
use Rattle.packet.proofs.Lowest.{IsLowest}
use Rattle.packet.proofs.Tests.{and_true as both_true}
use Rattle.packet_set.specs.Bits.{mask_bits, bit, marked}
use Rattle.packet_set.specs.InnerMembers.{member}
use Rattle.packet_set.proofs.Digits.{bit_of_zero, bit_or_lem, bit_marked, shift_marks}
use Rattle.packet_set.proofs.Trailing.{trailing_lowest, bit_cleared}
use Rattle.spans.specs.Spans.{has_mark, touched, Spanned, Rewritten, marked_entry, GotMark}
use Rattle.spans.proofs.Sets.{slot_word, slot_beyond, member_beyond, below_span, above_span}

-- ---- the packets of one word

-- the packets in `rest` have the mark to come
pub record Marking (next : List ℕ) (label i word : ℕ) (now : List ℕ) (rest : ℕ) : Type 0 where
  pub long : length now ≡ length next
  pub small : rest < 2 ^ 32
  pub within : (b : ℕ) → bit rest b ≡ true → bit word b ≡ true
  pub entries : (γ : ℕ) → get_or now γ 0 ≡ cond (eqb (γ / 32) i && bit rest (γ % 32)) (get_or next γ 0) (marked_entry next label i word γ)

module _ (next : List ℕ) (label i word : ℕ) where
  pub marking_start : word < 2 ^ 32 → Marking next label i word next word
  unfolding marked_entry
  marking_start fits = record { long = refl; small = fits; within = λ b e. e; entries = λ γ. go (eqb (γ / 32) i && bit word (γ % 32)) (get_or next γ 0) (marked (get_or next γ 0) label) }
    where
      go : (p : Bool) (x y : ℕ) → x ≡ cond p x (cond p y x)
      go true x y = refl
      go false x y = refl

  module _ (now : List ℕ) (rest : ℕ) (m : Marking next label i word now rest) where
    turn : label < mask_bits → i < 32 → length next ≡ 1056 → 0 < rest
        → Marking next label i word (L.set now (32 * i + count_trailing_zeros 32 rest) (bit_or (get_or now (32 * i + count_trailing_zeros 32 rest) 0) (1 * 2 ^ label % 2 ^ mask_bits))) (bit_and rest (rest - 1))
    unfolding marked_entry
    turn ll li wide p = go (count_trailing_zeros 32 rest) (trailing_lowest 32 rest m.small p) (λ j. bit_cleared 32 rest j m.small p)
      where
        go : (z : ℕ) → IsLowest (bit rest) 32 z → ((j : ℕ) → bit (bit_and rest (rest - 1)) j ≡ bit rest j && not (eqb j z))
            → Marking next label i word (L.set now (32 * i + z) (bit_or (get_or now (32 * i + z) 0) (1 * 2 ^ label % 2 ^ mask_bits))) (bit_and rest (rest - 1))
        go z low left = record {
          long = length-set now at v ∙ m.long;
          small = omega (arith, and_le_l rest (rest - 1), m.small);
          within = λ b e. m.within b (both_true (bit rest b) (not (eqb b z)) (sym (left b) ∙ e)).0;
          entries = λ γ. split γ (ℕ_discrete γ at);
        }
          where
            at : ℕ
            at = 32 * i + z

            v : ℕ
            v = bit_or (get_or now (32 * i + z) 0) (1 * 2 ^ label % 2 ^ mask_bits)

            rest' : ℕ
            rest' = bit_and rest (rest - 1)

            entry : ℕ → ℕ → ℕ
            entry r γ = cond (eqb (γ / 32) i && bit r (γ % 32)) (get_or next γ 0) (marked_entry next label i word γ)

            word_at : (32 * i + z) / 32 ≡ i
            word_at = let l = low.below in omega arith

            bit_at : (32 * i + z) % 32 ≡ z
            bit_at = let l = low.below in omega arith

            -- the test of the packet that gets the mark now
            test_at : (r : ℕ) (b : Bool) → bit r z ≡ b → eqb ((32 * i + z) / 32) i && bit r ((32 * i + z) % 32) ≡ b
            test_at r b e = ap₂ (λ (x y : ℕ). eqb x i && bit r y) word_at bit_at ∙ ap (λ (q : Bool). q && bit r z) (eq-eqb i i refl) ∙ e

            gone : bit (bit_and rest (rest - 1)) z ≡ false
            gone = left z ∙ ap (λ (q : Bool). bit rest z && not q) (eq-eqb z z refl) ∙ and-false (bit rest z)

            there : get_or (L.set now (32 * i + z) (bit_or (get_or now (32 * i + z) 0) (1 * 2 ^ label % 2 ^ mask_bits))) (32 * i + z) 0 ≡ cond (eqb ((32 * i + z) / 32) i && bit (bit_and rest (rest - 1)) ((32 * i + z) % 32)) (get_or next (32 * i + z) 0) (marked_entry next label i word (32 * i + z))
            there =
                get_or-set_same now (32 * i + z) v 0 (let l = low.below in omega (arith, m.long)) ∙ shift_marks mask_bits (get_or now (32 * i + z) 0) label ll
                ∙ ap (λ (x : ℕ). marked x label) (m.entries (32 * i + z) ∙ ap (λ (q : Bool). cond q (get_or next (32 * i + z) 0) (marked_entry next label i word (32 * i + z))) (test_at rest true low.passes))
                ∙ sym (ap (λ (q : Bool). cond q (marked (get_or next (32 * i + z) 0) label) (get_or next (32 * i + z) 0)) (test_at word true (m.within z low.passes)))
                ∙ sym (ap (λ (q : Bool). cond q (get_or next (32 * i + z) 0) (marked_entry next label i word (32 * i + z))) (test_at rest' false gone))

            same : (γ : ℕ) → (γ ≡ 32 * i + z → ⊥) → Dec (γ / 32 ≡ i) → eqb (γ / 32) i && bit rest (γ % 32) ≡ eqb (γ / 32) i && bit (bit_and rest (rest - 1)) (γ % 32)
            same γ n (yes e) = ap (λ (q : Bool). eqb (γ / 32) i && q) (sym (left (γ % 32) ∙ ap (λ (q : Bool). bit rest (γ % 32) && not q) (ne_eqb (γ % 32) z (λ f. n (omega arith))) ∙ and-true (bit rest (γ % 32))))
            same γ n (no e) = let f = ne_eqb (γ / 32) i e in ap (λ (q : Bool). q && bit rest (γ % 32)) f ∙ sym (ap (λ (q : Bool). q && bit (bit_and rest (rest - 1)) (γ % 32)) f)

            split : (γ : ℕ) → Dec (γ ≡ 32 * i + z) → get_or (L.set now (32 * i + z) (bit_or (get_or now (32 * i + z) 0) (1 * 2 ^ label % 2 ^ mask_bits))) γ 0 ≡ cond (eqb (γ / 32) i && bit (bit_and rest (rest - 1)) (γ % 32)) (get_or next γ 0) (marked_entry next label i word γ)
            split γ (yes e) = subst (λ (x : ℕ). get_or (L.set now at v) x 0 ≡ entry rest' x) (sym e) there
            split γ (no e) = get_or-set_other now at γ v 0 e ∙ m.entries γ ∙ ap (λ (q : Bool). cond q (get_or next γ 0) (marked_entry next label i word γ)) (same γ e (ℕ_discrete (γ / 32) i))

    -- the lowest packet left gets the mark
    pub marking_turn : label < mask_bits → i < 32 → length next ≡ 1056 → 0 < rest → (mask : ℕ) → mask ≡ marked (get_or now (32 * i + count_trailing_zeros 32 rest) 0) label
        → Marking next label i word (L.set now (32 * i + count_trailing_zeros 32 rest) mask) (bit_and rest (rest - 1))
    marking_turn ll li wide p mask e =
        subst (λ (x : ℕ). Marking next label i word (L.set now (32 * i + count_trailing_zeros 32 rest) x) (bit_and rest (rest - 1))) (shift_marks mask_bits _ label ll ∙ sym e) (turn ll li wide p)

    pub marking_end : rest ≡ 0 → Rewritten (marked_entry next label i word) next now
    marking_end e = record {
      long = m.long;
      words = λ γ. m.entries γ ∙ ap (λ (q : Bool). cond q (get_or next γ 0) (marked_entry next label i word γ)) (ap (λ (q : Bool). eqb (γ / 32) i && q) (ap (λ (x : ℕ). bit x (γ % 32)) e ∙ bit_of_zero (γ % 32)) ∙ and-false (eqb (γ / 32) i));
    }

-- ---- the packets of a set

-- the entry of a packet that gets the mark if it is in the set
unfoldable pub entry_with : List ℕ → ℕ → List ℕ → ℕ → ℕ
entry_with set label next γ = cond (member set γ) (marked (get_or next γ 0) label) (get_or next γ 0)

-- the first i words of the set are done
pub record Spreading (set : List ℕ) (label : ℕ) (next now : List ℕ) (i : ℕ) : Type 0 where
  pub long : length now ≡ length next
  pub marks_done : (γ : ℕ) → γ < 1024 → γ / 32 < i → get_or now γ 0 ≡ entry_with set label next γ
  pub marks_left : (γ : ℕ) → γ < 1024 → i ≤ γ / 32 → get_or now γ 0 ≡ get_or next γ 0
  pub touch_done : (j : ℕ) → j < i → get_or now (1024 + j) 0 ≡ bit_or (get_or next (1024 + j) 0) (get_or set j 0)
  pub touch_left : (j : ℕ) → i ≤ j → get_or now (1024 + j) 0 ≡ get_or next (1024 + j) 0

module _ (set : List ℕ) (label : ℕ) (next : List ℕ) where
  entry_same : (γ : ℕ) → get_or set (γ / 32) 0 ≡ 0 → entry_with set label next γ ≡ get_or next γ 0
  unfolding entry_with member
  entry_same γ e = ap (λ (b : Bool). cond b (marked (get_or next γ 0) label) (get_or next γ 0)) (ap (λ (x : ℕ). bit x (γ % 32)) e ∙ bit_of_zero (γ % 32))

  module _ (from to : ℕ) (s : Spanned from to set) where
    pub spreading_start : Spreading set label next next from
    spreading_start = record {
      long = refl;
      marks_done = λ γ b l. sym (entry_same γ (below_span from to set s (γ / 32) l));
      marks_left = λ γ b l. refl;
      touch_done = λ j l. sym (ap (bit_or (get_or next (1024 + j) 0)) (below_span from to set s j l) ∙ or_zero_r (get_or next (1024 + j) 0));
      touch_left = λ j l. refl;
    }

    module _ (now : List ℕ) (i : ℕ) (w : Spreading set label next now i) where
      spread : i < to → length next ≡ 1056
          → (now' : List ℕ) → Rewritten (marked_entry (L.set now (1024 + i) (bit_or (get_or now (1024 + i) 0) (get_or set i 0))) label i (get_or set i 0)) (L.set now (1024 + i) (bit_or (get_or now (1024 + i) 0) (get_or set i 0))) now'
          → Spreading set label next now' (i + 1)
      unfolding marked_entry entry_with member
      spread l wide now' r = record {
        long = r.long ∙ length-set now (1024 + i) v ∙ w.long;
        marks_done = λ γ b k. mark_at γ b k (ℕ_discrete (γ / 32) i);
        marks_left = λ γ b k. off γ (b, omega arith) ∙ w.marks_left γ b (omega arith);
        touch_done = λ j k. off_touch j ∙ touch_at j k (ℕ_discrete j i);
        touch_left = λ j k. off_touch j ∙ get_or-set_other now (1024 + i) (1024 + j) v 0 (omega arith) ∙ w.touch_left j (omega arith);
      }
        where
          v : ℕ
          v = bit_or (get_or now (1024 + i) 0) (get_or set i 0)

          mid : List ℕ
          mid = L.set now (1024 + i) (bit_or (get_or now (1024 + i) 0) (get_or set i 0))

          -- a packet's entry before its word is marked
          mid_entry : (γ : ℕ) → γ < 1024 → get_or (L.set now (1024 + i) (bit_or (get_or now (1024 + i) 0) (get_or set i 0))) γ 0 ≡ get_or now γ 0
          mid_entry γ b = get_or-set_other now (1024 + i) γ v 0 (omega arith)

          -- what is not in word i stays
          still : (γ : ℕ) → (γ / 32 ≡ i → ⊥) → get_or now' γ 0 ≡ get_or (L.set now (1024 + i) (bit_or (get_or now (1024 + i) 0) (get_or set i 0))) γ 0
          still γ n = r.words γ ∙ ap (λ (q : Bool). cond (q && bit (get_or set i 0) (γ % 32)) (marked (get_or mid γ 0) label) (get_or mid γ 0)) (ne_eqb (γ / 32) i n)

          off : (γ : ℕ) → (γ < 1024) × (γ / 32 ≡ i → ⊥) → get_or now' γ 0 ≡ get_or now γ 0
          off γ h = still γ h.1 ∙ mid_entry γ h.0

          off_touch : (j : ℕ) → get_or now' (1024 + j) 0 ≡ get_or (L.set now (1024 + i) (bit_or (get_or now (1024 + i) 0) (get_or set i 0))) (1024 + j) 0
          off_touch j = still (1024 + j) (λ e. omega (arith, s.within))

          touch_at : (j : ℕ) → j < i + 1 → Dec (j ≡ i) → get_or (L.set now (1024 + i) (bit_or (get_or now (1024 + i) 0) (get_or set i 0))) (1024 + j) 0 ≡ bit_or (get_or next (1024 + j) 0) (get_or set j 0)
          touch_at j k (yes e) = subst (λ (x : ℕ). get_or mid (1024 + x) 0 ≡ bit_or (get_or next (1024 + x) 0) (get_or set x 0)) (sym e)
              (get_or-set_same now (1024 + i) v 0 (omega (arith, w.long, s.within)) ∙ ap (λ (x : ℕ). bit_or x (get_or set i 0)) (w.touch_left i (omega arith)))
          touch_at j k (no e) = get_or-set_other now (1024 + i) (1024 + j) v 0 (omega arith) ∙ w.touch_done j (omega arith)

          mark_at : (γ : ℕ) → γ < 1024 → γ / 32 < i + 1 → Dec (γ / 32 ≡ i) → get_or now' γ 0 ≡ cond (bit (get_or set (γ / 32) 0) (γ % 32)) (marked (get_or next γ 0) label) (get_or next γ 0)
          mark_at γ b k (yes e) =
              r.words γ ∙ ap₂ (λ (q : Bool) (x : ℕ). cond (q && bit (get_or set i 0) (γ % 32)) (marked x label) x) (eq-eqb (γ / 32) i e) (mid_entry γ b ∙ w.marks_left γ b (omega arith))
              ∙ ap (λ (x : ℕ). cond (bit (get_or set x 0) (γ % 32)) (marked (get_or next γ 0) label) (get_or next γ 0)) (sym e)
          mark_at γ b k (no e) = off γ (b, e) ∙ w.marks_done γ b (omega arith)

      -- one more word, as the code holds it in an entry
      pub spreading_turn : i < to → length next ≡ 1056 → (x : ℕ) → x ≡ get_or set i 0
          → (now' : List ℕ) → Rewritten (marked_entry (L.set now (1024 + i) (bit_or (get_or now (1024 + i) 0) x)) label i (get_or set i 0)) (L.set now (1024 + i) (bit_or (get_or now (1024 + i) 0) x)) now'
          → Spreading set label next now' (i + 1)
      spreading_turn l wide x e now' r =
          spread l wide now' (subst (λ (y : ℕ). Rewritten (marked_entry (L.set now (1024 + i) (bit_or (get_or now (1024 + i) 0) y)) label i (get_or set i 0)) (L.set now (1024 + i) (bit_or (get_or now (1024 + i) 0) y)) now') e r)

      pub spreading_end : to ≤ i → GotMark label set next now
      unfolding has_mark touched entry_with member
      spreading_end l = record {
        marks = λ n γ. marks n γ (dec_lt γ 1024);
        touches = λ γ. touches γ (dec_lt γ 1024);
        long = w.long;
      }
        where
          entry : (γ : ℕ) → γ < 1024 → Dec (γ / 32 < i) → get_or now γ 0 ≡ cond (member set γ) (marked (get_or next γ 0) label) (get_or next γ 0)
          entry γ b (yes k) = w.marks_done γ b k
          entry γ b (no k) = w.marks_left γ b (omega arith) ∙ sym (entry_same γ (above_span from to set s (γ / 32) (omega arith)))

          touch : (j : ℕ) → Dec (j < i) → get_or now (1024 + j) 0 ≡ bit_or (get_or next (1024 + j) 0) (get_or set j 0)
          touch j (yes k) = w.touch_done j k
          touch j (no k) = w.touch_left j (omega arith) ∙ sym (ap (bit_or (get_or next (1024 + j) 0)) (above_span from to set s j (omega arith)) ∙ or_zero_r (get_or next (1024 + j) 0))

          bits : (n x : ℕ) (q : Bool) → bit (cond q (marked x label) x) n ≡ bit x n || (eqb n label && q)
          bits n x true = bit_marked x label n ∙ ap (λ (p : Bool). bit x n || p) (sym (and-true (eqb n label)))
          bits n x false = sym (ap (λ (p : Bool). bit x n || p) (and-false (eqb n label)) ∙ or-false (bit x n))

          marks : (n γ : ℕ) → Dec (γ < 1024) → ltb γ 1024 && bit (get_or now γ 0) n ≡ (ltb γ 1024 && bit (get_or next γ 0) n) || (eqb n label && member set γ)
          marks n γ (yes b) =
              let t = lt-ltb γ 1024 b in
              ap (λ (p : Bool). p && bit (get_or now γ 0) n) t ∙ ap (λ (x : ℕ). bit x n) (entry γ b (dec_lt (γ / 32) i)) ∙ bits n (get_or next γ 0) (member set γ)
              ∙ sym (ap (λ (p : Bool). (p && bit (get_or next γ 0) n) || (eqb n label && member set γ)) t)
          marks n γ (no b) =
              let t = le-ltb γ 1024 (omega arith) in
              ap (λ (p : Bool). p && bit (get_or now γ 0) n) t
              ∙ sym (ap₂ (λ (p q : Bool). (p && bit (get_or next γ 0) n) || (eqb n label && q)) t (member_beyond from to set s γ (omega arith)) ∙ and-false (eqb n label))

          touches : (γ : ℕ) → Dec (γ < 1024) → touched now γ ≡ touched next γ || member set γ
          touches γ (yes b) =
              slot_word now 32 γ b ∙ ap (λ (x : ℕ). bit x (γ % 32)) (touch (γ / 32) (dec_lt (γ / 32) i)) ∙ bit_or_lem (get_or next (1024 + γ / 32) 0) (get_or set (γ / 32) 0) (γ % 32)
              ∙ sym (ap (λ (p : Bool). p || member set γ) (slot_word next 32 γ b))
          touches γ (no b) =
              slot_beyond now 32 γ (omega arith)
              ∙ sym (ap₂ (λ (p q : Bool). p || q) (slot_beyond next 32 γ (omega arith)) (member_beyond from to set s γ (omega arith)))
