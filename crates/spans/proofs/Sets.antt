-- Sets in spans, slots and marks by their words. Assumes nothing.
use Prim.Native.Nat.{ℕ, zero, suc, ◌+◌, ◌-◌, ◌*◌, ◌/◌, ◌%◌, ◌^◌, ◌≤◌, ◌<◌}
use mathlib.Core.Bool.{Bool, true, false, not, ◌&&◌, ◌||◌, cond, true≢false, and-false, or-false}
use mathlib.Core.List.{List}
use mathlib.Core.Logic.{◌⊎◌, inl, inr, ⊎_elim}
use mathlib.Core.Path.{◌≡◌, refl, sym, ap, ap₂, ◌∙◌, subst}
use native.Mathlib.Decide.{dec_lt}
use native.Mathlib.Omega.{arith}
use borrow.Author.Tests.{eqb-true, eq-eqb, lt-ltb, le-ltb}
use lib.Bits.{bit_or, bit_and, bit_xor, and_zero_l, and_le_l, or_zero_r}
use lib.Dec.{eqb}
use lib.ListN as L
use lib.ListN.{length, get_or, replicate, length-replicate}
use lib.Seq.{get_or-set_other, ext_get_or}
use Rattle.std.specs.Bool.{MatchBool}
use Rattle.std.specs.List.{range_with_len, AllWithin}
use Rattle.std.proofs.lemmas.List.FromFn.{get_or-range_with_len, length-range_with_len}
use Rattle.packet.proofs.Tests.{true_T}
use Rattle.packet_set.specs.Bits.{bit}
use Rattle.packet_set.specs.InnerMembers.{Members, member, empty_set, with_packet, without}
use Rattle.packet_set.proofs.Digits.{bit_or_lem, bit_and_lem, bit_without, bit_of_zero}
use Rattle.packet_set.proofs.Words.{length_with, member_with, member_in_word}
use Rattle.spans.specs.Spans.{slot, Spanned, Rewritten, Hull, Holds, Left, Noted}
use Rattle.spans.proofs.Rewriting.{Doing, none_done, one_done, all_done, Any, none_seen, one_seen, all_zero, and_complement}

-- ---- a word is in the span or outside

pub outside_of : (from to i : ℕ) → (from ≤ i → i < to → ⊥) → (i < from) ⊎ (to ≤ i)
outside_of from to i h = go (dec_lt i from) (dec_lt i to)
  where
    go : Dec (i < from) → Dec (i < to) → (i < from) ⊎ (to ≤ i)
    go (yes a) b = inl a
    go (no a) (yes b) = absurd (h (omega arith) b)
    go (no a) (no b) = inr (omega arith)

-- a list of zeros
pub zero_word : (n i : ℕ) → ◌≡◌ {A = ℕ} (get_or (replicate n 0) i 0) 0
zero_word zero i = refl
zero_word (suc n) zero = refl
zero_word (suc n) (suc i) = zero_word n i

empty_word : (i : ℕ) → get_or empty_set i 0 ≡ 0
unfolding empty_set
empty_word i = zero_word 32 i

-- ---- one packet, and none

pub one_packet : (γ : ℕ) → γ < 1024 → Spanned (γ / 32) (γ / 32 + 1) (with_packet empty_set γ)
unfolding with_packet
one_packet γ l = record {
  wide = (unfold with_packet in length_with empty_set γ) ∙ (unfold empty_set in length-replicate {A = ℕ} 32 0);
  within = omega arith;
  outside = λ i o. get_or-set_other empty_set (γ / 32) i _ 0 (⊎_elim (λ (a : i < γ / 32). omega arith) (λ (b : γ / 32 + 1 ≤ i). omega arith) o) ∙ empty_word i;
}

pub no_packet : (from : ℕ) → Spanned from 0 empty_set
no_packet from = record { wide = unfold empty_set in length-replicate {A = ℕ} 32 0; within = omega arith; outside = λ i o. empty_word i }

module _ (from to : ℕ) (set : List ℕ) (s : Spanned from to set) where
  pub below_span : (j : ℕ) → j < from → get_or set j 0 ≡ 0
  below_span j l = s.outside j (inl l)

  pub above_span : (j : ℕ) → to ≤ j → get_or set j 0 ≡ 0
  above_span j l = s.outside j (inr l)

  pub member_outside : (γ : ℕ) → (γ / 32 < from) ⊎ (to ≤ γ / 32) → member set γ ≡ false
  unfolding member
  member_outside γ o = ap (λ (x : ℕ). bit x (γ % 32)) (s.outside (γ / 32) o) ∙ bit_of_zero (γ % 32)

  -- a member is below 1,024
  pub member_beyond : (γ : ℕ) → 1024 ≤ γ → member set γ ≡ false
  member_beyond γ l = member_outside γ (inr (omega (arith, s.within)))

  pub emptied : (now : List ℕ) → Rewritten (λ i. 0) set now → now ≡ empty_set
  emptied now r = ext_get_or 0 now empty_set (r.long ∙ s.wide ∙ sym (unfold empty_set in length-replicate {A = ℕ} 32 0)) (λ i l. r.words i ∙ sym (empty_word i))

-- ---- two words at a time

pub slot_word : (list : List ℕ) (n γ : ℕ) → γ < 1024 → slot list n γ ≡ bit (get_or list (32 * n + γ / 32) 0) (γ % 32)
unfolding slot
slot_word list n γ l = ap (λ (b : Bool). b && bit (get_or list (32 * n + γ / 32) 0) (γ % 32)) (lt-ltb γ 1024 l)

pub slot_beyond : (list : List ℕ) (n γ : ℕ) → 1024 ≤ γ → slot list n γ ≡ false
unfolding slot
slot_beyond list n γ l = ap (λ (b : Bool). b && bit (get_or list (32 * n + γ / 32) 0) (γ % 32)) (le-ltb γ 1024 l)

-- what slot n has of the set, and what it has not
unfoldable pub common_word : List ℕ → List ℕ → ℕ → ℕ → ℕ
common_word set list n i = bit_and (get_or set i 0) (get_or list (32 * n + i) 0)

unfoldable pub new_word : List ℕ → List ℕ → ℕ → ℕ → ℕ
new_word set list n i = without (get_or set i 0) (get_or list (32 * n + i) 0)

pub common_zero : (set list : List ℕ) (n i : ℕ) → get_or set i 0 ≡ 0 → common_word set list n i ≡ 0
unfolding common_word
common_zero set list n i e = ap (λ (x : ℕ). bit_and x (get_or list (32 * n + i) 0)) e ∙ and_zero_l (get_or list (32 * n + i) 0)

pub new_zero : (set list : List ℕ) (n i : ℕ) → get_or set i 0 ≡ 0 → new_word set list n i ≡ 0
unfolding new_word
new_zero set list n i e = ap (λ (x : ℕ). without x (get_or list (32 * n + i) 0)) e ∙ ap (bit_xor 0) (and_zero_l (get_or list (32 * n + i) 0))

module _ (from to : ℕ) (set : List ℕ) (s : Spanned from to set) (list : List ℕ) (n : ℕ) where
  -- beyond 1,024 there is no member, so the slot's words may stand for the slot
  by_words : (g : Bool → Bool) (γ : ℕ) → member set γ && g (slot list n γ) ≡ bit (get_or set (γ / 32) 0) (γ % 32) && g (bit (get_or list (32 * n + γ / 32) 0) (γ % 32))
  unfolding member
  by_words g γ = go (dec_lt γ 1024)
    where
      go : Dec (γ < 1024) → member set γ && g (slot list n γ) ≡ bit (get_or set (γ / 32) 0) (γ % 32) && g (bit (get_or list (32 * n + γ / 32) 0) (γ % 32))
      go (yes l) = ap (λ (b : Bool). bit (get_or set (γ / 32) 0) (γ % 32) && g b) (slot_word list n γ l)
      go (no l) =
          let m = member_beyond from to set s γ (omega arith) in
          ap (λ (b : Bool). b && g (slot list n γ)) m ∙ sym (ap (λ (b : Bool). b && g (bit (get_or list (32 * n + γ / 32) 0) (γ % 32))) m)

  pub common_members : (γ : ℕ) → member set γ && slot list n γ ≡ bit (common_word set list n (γ / 32)) (γ % 32)
  unfolding common_word
  common_members γ = by_words (λ b. b) γ ∙ sym (bit_and_lem (get_or set (γ / 32) 0) (get_or list (32 * n + γ / 32) 0) (γ % 32))

  pub new_members : (γ : ℕ) → member set γ && not (slot list n γ) ≡ bit (new_word set list n (γ / 32)) (γ % 32)
  unfolding new_word
  new_members γ = by_words not γ ∙ sym (bit_without (get_or set (γ / 32) 0) (get_or list (32 * n + γ / 32) 0) (γ % 32))

-- ---- a loop over the words of the span that turns word i into f i, where a word that is 0 stays so

module _ (from to : ℕ) (set : List ℕ) (s : Spanned from to set) (f : ℕ → ℕ) (zeros : (i : ℕ) → get_or set i 0 ≡ 0 → f i ≡ 0) where
  same_zero : (i : ℕ) → get_or set i 0 ≡ 0 → f i ≡ get_or set i 0
  same_zero i e = zeros i e ∙ sym e

  pub words_start : Doing f set set from
  words_start = none_done f set from (λ j l. same_zero j (below_span from to set s j l))

  pub words_seen : Any f false from
  words_seen = none_seen f from (λ j l. zeros j (below_span from to set s j l))

  module _ (now : List ℕ) (i : ℕ) (l : to ≤ i) where
    pub words_end : Doing f set now i → Rewritten f set now
    words_end d = all_done f set now i d (λ j h. same_zero j (above_span from to set s j (omega arith)))

    -- what is left, if the loop leaves f of the words
    pub words_left : (any : Bool) → Any f any i → Rewritten f set now → Left any now
    unfolding member
    words_left any a w = record {
      none = λ e. record { wide = w.long ∙ s.wide; within = omega arith; outside = λ j o. w.words j ∙ all_zero f any i a (λ k h. zeros k (above_span from to set s k (omega arith))) e j };
      found = λ e. let h = a.some e in (h.0 * 32 + h.1, true_T (member_in_word now h.0 h.1 h.2 ∙ ap (λ (x : ℕ). bit x h.1) (w.words h.0) ∙ h.3));
    }

  module _ (now : List ℕ) (r : Rewritten f set now) where
    pub members_now : (γ : ℕ) → member now γ ≡ bit (f (γ / 32)) (γ % 32)
    unfolding member
    members_now γ = ap (λ (x : ℕ). bit x (γ % 32)) (r.words (γ / 32))

    pub holds_now : (X : Members) → ((γ : ℕ) → X γ ≡ bit (f (γ / 32)) (γ % 32)) → Holds from to now X
    holds_now X x = record {
      spanned = record { wide = r.long ∙ s.wide; within = s.within; outside = λ i o. r.words i ∙ zeros i (s.outside i o) };
      members = λ γ. members_now γ ∙ sym (x γ);
    }

-- ---- the set has nothing that a slot has

-- what an answer `false` says of all numbers of a range
pub in_range : (P : ℕ → Type 0) (Q : Type 0) (from to : ℕ) (r : Bool) → MatchBool r Q (AllWithin P (range_with_len from (to - from)) 0 (length (range_with_len from (to - from)))) → r ≡ false → (i : ℕ) → from ≤ i → i < to → P i
in_range P Q from to true h e i l k = absurd (true≢false e)
in_range P Q from to false h f i l k =
    let e : get_or (range_with_len from (to - from)) (i - from) 0 ≡ from + (i - from) = get_or-range_with_len from (to - from) (i - from) 0 (omega arith) in
    let q : from + (i - from) ≡ i = omega arith in
    subst P (e ∙ q) (h (i - from) 0 (omega arith) (omega (arith, length-range_with_len from (to - from))))

module _ (from to : ℕ) (set tests : List ℕ) (k : ℕ) (s : Spanned from to set) where
  pub apart : ((i : ℕ) → from ≤ i → i < to → bit_and (get_or set i 0) (get_or tests (32 * k + i) 0) ≡ 0) → (γ : ℕ) → (member set γ && slot tests k γ) ≡ false
  unfolding common_word
  apart words γ = common_members from to set s tests k γ ∙ ap (λ (x : ℕ). bit x (γ % 32)) (go (dec_lt (γ / 32) from) (dec_lt (γ / 32) to)) ∙ bit_of_zero (γ % 32)
    where
      go : Dec (γ / 32 < from) → Dec (γ / 32 < to) → bit_and (get_or set (γ / 32) 0) (get_or tests (32 * k + γ / 32) 0) ≡ 0
      go (yes l) h = common_zero set tests k (γ / 32) (below_span from to set s (γ / 32) l)
      go (no l) (yes h) = words (γ / 32) (omega arith) h
      go (no l) (no h) = common_zero set tests k (γ / 32) (above_span from to set s (γ / 32) (omega arith))

-- ---- the set keeps what a slot has

pub record Keeping (set tests : List ℕ) (k : ℕ) (now : List ℕ) (any : Bool) (i : ℕ) : Type 0 where
  pub words : Doing (common_word set tests k) set now i
  pub seen : Any (common_word set tests k) any i

module _ (from to : ℕ) (set tests : List ℕ) (k : ℕ) (s : Spanned from to set) where
  pub keeping_start : Keeping set tests k set false from
  keeping_start = record {
    words = words_start from to set s (common_word set tests k) (common_zero set tests k);
    seen = words_seen from to set s (common_word set tests k) (common_zero set tests k);
  }

  module _ (now : List ℕ) (any : Bool) (i : ℕ) (w : Keeping set tests k now any i) where
    pub keeping_turn : i < to → get_or now i 0 < 2 ^ 32
        → Keeping set tests k (L.set now i (bit_and (get_or now i 0) (get_or tests (32 * k + i) 0))) (any || not (eqb (bit_and (get_or now i 0) (get_or tests (32 * k + i) 0)) 0)) (i + 1)
    unfolding common_word
    keeping_turn l fits = record {
      words = one_done (common_word set tests k) set now i w.words word (i + 1) (omega (arith, s.within, s.wide)) is refl;
      seen = one_seen (common_word set tests k) any i w.seen word is (omega (arith, and_le_l (get_or now i 0) (get_or tests (32 * k + i) 0)));
    }
      where
        word : ℕ
        word = bit_and (get_or now i 0) (get_or tests (32 * k + i) 0)

        is : bit_and (get_or now i 0) (get_or tests (32 * k + i) 0) ≡ common_word set tests k i
        is = ap (λ (x : ℕ). bit_and x (get_or tests (32 * k + i) 0)) (w.words.left i (omega arith))

    pub keeping_end : to ≤ i → Holds from to now (λ γ. member set γ && slot tests k γ) × Left any now
    keeping_end l =
        let w' = words_end from to set s (common_word set tests k) (common_zero set tests k) now i l w.words in (
          holds_now from to set s (common_word set tests k) (common_zero set tests k) now w' (λ γ. member set γ && slot tests k γ) (common_members from to set s tests k),
          words_left from to set s (common_word set tests k) (common_zero set tests k) now i l any w.seen w',
        )

-- ---- a set enters a slot

-- the words where slot n takes the set
unfoldable pub taken_word : List ℕ → ℕ → List ℕ → ℕ → ℕ
taken_word work n set i = cond (eqb (i / 32) n) (bit_or (get_or work i 0) (get_or set (i % 32) 0)) (get_or work i 0)

pub record Noting (work : List ℕ) (n : ℕ) (set work' set' : List ℕ) (any : Bool) (i : ℕ) : Type 0 where
  pub stored : Doing (taken_word work n set) work work' (32 * n + i)
  pub fresh : Doing (new_word set work n) set set' i
  pub seen : Any (new_word set work n) any i

module _ (work : List ℕ) (n : ℕ) (set : List ℕ) where
  taken_same : (i : ℕ) → (i / 32 ≡ n → get_or set (i % 32) 0 ≡ 0) → taken_word work n set i ≡ get_or work i 0
  unfolding taken_word
  taken_same i h = go (eqb (i / 32) n) refl
    where
      go : (b : Bool) → eqb (i / 32) n ≡ b → cond b (bit_or (get_or work i 0) (get_or set (i % 32) 0)) (get_or work i 0) ≡ get_or work i 0
      go true e = ap (bit_or (get_or work i 0)) (h (eqb-true (i / 32) n e)) ∙ or_zero_r (get_or work i 0)
      go false e = refl

  taken_here : (m i : ℕ) → i < 32 → taken_word work n set (32 * m + i) ≡ cond (eqb m n) (bit_or (get_or work (32 * m + i) 0) (get_or set i 0)) (get_or work (32 * m + i) 0)
  unfolding taken_word
  taken_here m i l =
      let q : (32 * m + i) / 32 ≡ m = omega arith in
      let r : (32 * m + i) % 32 ≡ i = omega arith in
      ap₂ (λ (x y : ℕ). cond (eqb x n) (bit_or (get_or work (32 * m + i) 0) (get_or set y 0)) (get_or work (32 * m + i) 0)) q r

  module _ (from to : ℕ) (s : Spanned from to set) where
    pub noting_start : Noting work n set work set false from
    noting_start = record {
      stored = none_done (taken_word work n set) work (32 * n + from) (λ j l. taken_same j (λ e. below_span from to set s (j % 32) (omega arith)));
      fresh = words_start from to set s (new_word set work n) (new_zero set work n);
      seen = words_seen from to set s (new_word set work n) (new_zero set work n);
    }

    module _ (work' set' : List ℕ) (any : Bool) (i : ℕ) (w : Noting work n set work' set' any i) where
      pub noting_turn : i < to → 32 * n + 32 ≤ length work → get_or set' i 0 < 2 ^ 32 → get_or work' (32 * n + i) 0 < 2 ^ 32
          → Noting work n set (L.set work' (32 * n + i) (bit_or (get_or work' (32 * n + i) 0) (get_or set' i 0))) (L.set set' i (bit_and (get_or set' i 0) (2 ^ 32 - 1 - get_or work' (32 * n + i) 0)))
          (any || not (eqb (bit_and (get_or set' i 0) (2 ^ 32 - 1 - get_or work' (32 * n + i) 0)) 0)) (i + 1)
      unfolding new_word
      noting_turn l room sf wf = record {
        stored =
            one_done (taken_word work n set) work work' (32 * n + i) w.stored (bit_or (get_or work' (32 * n + i) 0) (get_or set' i 0)) (32 * n + (i + 1)) (omega (arith, s.within))
            (ap₂ bit_or old left ∙ sym (taken_here n i (omega (arith, s.within)) ∙ ap (λ (b : Bool). cond b (bit_or (get_or work (32 * n + i) 0) (get_or set i 0)) (get_or work (32 * n + i) 0)) (eq-eqb n n refl))) (omega arith);
        fresh = one_done (new_word set work n) set set' i w.fresh v (i + 1) (omega (arith, s.within, s.wide)) new refl;
        seen = one_seen (new_word set work n) any i w.seen v new (omega (arith, and_le_l (get_or set' i 0) (2 ^ 32 - 1 - get_or work' (32 * n + i) 0)));
      }
        where
          old : get_or work' (32 * n + i) 0 ≡ get_or work (32 * n + i) 0
          old = w.stored.left (32 * n + i) (omega arith)

          left : get_or set' i 0 ≡ get_or set i 0
          left = w.fresh.left i (omega arith)

          v : ℕ
          v = bit_and (get_or set' i 0) (2 ^ 32 - 1 - get_or work' (32 * n + i) 0)

          new : bit_and (get_or set' i 0) (2 ^ 32 - 1 - get_or work' (32 * n + i) 0) ≡ new_word set work n i
          new = and_complement 32 _ _ sf wf ∙ ap₂ (λ (x y : ℕ). without x y) left old

      pub noting_end : to ≤ i → n < 512 → (seen seen' : List ℕ) → length seen ≡ 16 → seen' ≡ with_packet seen n
          → Noted n from to work seen set any work' seen' set'
      unfolding member
      noting_end l small seen seen' wide e = record {
        slots = λ m γ. slots m γ (dec_lt γ 1024);
        seen_nodes = λ m. ap (λ (x : List ℕ). member x m) e ∙ member_with seen n m (omega arith);
        new = holds_now from to set s (new_word set work n) (new_zero set work n) set' fresh (λ γ. member set γ && not (slot work n γ)) (new_members from to set s work n);
        told = words_left from to set s (new_word set work n) (new_zero set work n) set' i l any w.seen fresh;
        beyond = λ j b. stored.words j ∙ taken_same j (λ q. absurd (omega arith));
        long = ap length e ∙ length_with seen n;
      }
        where
          stored : Rewritten (taken_word work n set) work work'
          stored = all_done (taken_word work n set) work work' (32 * n + i) w.stored (λ j b. taken_same j (λ q. above_span from to set s (j % 32) (omega arith)))

          fresh : Rewritten (new_word set work n) set set'
          fresh = words_end from to set s (new_word set work n) (new_zero set work n) set' i l w.fresh

          slots : (m γ : ℕ) → Dec (γ < 1024) → slot work' m γ ≡ slot work m γ || (eqb m n && member set γ)
          slots m γ (no b) =
              slot_beyond work' m γ (omega arith)
              ∙ sym (ap₂ (λ (p q : Bool). p || q) (slot_beyond work m γ (omega arith)) (ap (λ (p : Bool). eqb m n && p) (member_beyond from to set s γ (omega arith)) ∙ and-false (eqb m n)))
          slots m γ (yes b) =
              slot_word work' m γ b ∙ ap (λ (x : ℕ). bit x (γ % 32)) (stored.words (32 * m + γ / 32) ∙ taken_here m (γ / 32) (omega arith))
              ∙ go (eqb m n)
              ∙ sym (ap (λ (p : Bool). p || (eqb m n && bit (get_or set (γ / 32) 0) (γ % 32))) (slot_word work m γ b))
            where
              go : (p : Bool) → bit (cond p (bit_or (get_or work (32 * m + γ / 32) 0) (get_or set (γ / 32) 0)) (get_or work (32 * m + γ / 32) 0)) (γ % 32)
                  ≡ bit (get_or work (32 * m + γ / 32) 0) (γ % 32) || (p && bit (get_or set (γ / 32) 0) (γ % 32))
              go true = bit_or_lem (get_or work (32 * m + γ / 32) 0) (get_or set (γ / 32) 0) (γ % 32)
              go false = sym (or-false (bit (get_or work (32 * m + γ / 32) 0) (γ % 32)))

-- ---- two sets become one

unfoldable pub joined_word : List ℕ → List ℕ → ℕ → ℕ
joined_word a b i = bit_or (get_or a i 0) (get_or b i 0)

module _ (a b : List ℕ) where
  joined_same : (i : ℕ) → get_or b i 0 ≡ 0 → joined_word a b i ≡ get_or a i 0
  unfolding joined_word
  joined_same i e = ap (bit_or (get_or a i 0)) e ∙ or_zero_r (get_or a i 0)

  module _ (from to : ℕ) (s : Spanned from to b) where
    pub joining_start : Doing (joined_word a b) a a from
    joining_start = none_done (joined_word a b) a from (λ j l. joined_same j (below_span from to b s j l))

    module _ (now : List ℕ) (i : ℕ) (d : Doing (joined_word a b) a now i) where
      pub joining_turn : i < to → length a ≡ 32 → Doing (joined_word a b) a (L.set now i (bit_or (get_or now i 0) (get_or b i 0))) (i + 1)
      unfolding joined_word
      joining_turn l wide = one_done (joined_word a b) a now i d (bit_or (get_or now i 0) (get_or b i 0)) (i + 1) (omega (arith, s.within)) (ap (λ (x : ℕ). bit_or x (get_or b i 0)) (d.left i (omega arith))) refl

      pub joining_end : to ≤ i → (from' to' : ℕ) → Spanned from' to' a → (p q : ℕ) → Hull from' to' from to p q → Holds p q now (λ γ. member a γ || member b γ)
      unfolding member joined_word
      joining_end l from' to' s' p q h = record {
        spanned = record {
          wide = r.long ∙ s'.wide;
          within = h.within s'.within s.within;
          outside = λ j o. r.words j ∙ joined_same j (zero_in b from to s (λ x y. not_in j o (h.second j x y))) ∙ zero_in a from' to' s' (λ x y. not_in j o (h.first j x y));
        };
        members = λ γ. ap (λ (x : ℕ). bit x (γ % 32)) (r.words (γ / 32)) ∙ bit_or_lem (get_or a (γ / 32) 0) (get_or b (γ / 32) 0) (γ % 32);
      }
        where
          r : Rewritten (joined_word a b) a now
          r = all_done (joined_word a b) a now i d (λ j k. joined_same j (above_span from to b s j (omega arith)))

          not_in : (j : ℕ) → (j < p) ⊎ (q ≤ j) → (p ≤ j) × (j < q) → ⊥
          not_in j (inl k) t = omega arith
          not_in j (inr k) t = omega arith

          zero_in : (set : List ℕ) (x y : ℕ) → Spanned x y set → {j : ℕ} → (x ≤ j → j < y → ⊥) → get_or set j 0 ≡ 0
          zero_in set x y t {j} n = t.outside j (outside_of x y j n)
