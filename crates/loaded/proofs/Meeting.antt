-- Packet sets of tests: intersections and complements, and where the sets of the tests lie.
use Prim.Native.Nat.{ℕ, ◌+◌, ◌-◌, ◌*◌, ◌/◌, ◌%◌, ◌≤◌, ◌<◌}
use mathlib.Core.Bool.{Bool, false, ◌&&◌}
use mathlib.Core.List.{List}
use mathlib.Core.Logic.{◌⊎◌, inl, inr}
use mathlib.Core.Path.{◌≡◌, sym, ap, ap₂, ◌∙◌}
use native.Mathlib.Omega.{arith}
use borrow.Author.Tests.{lt-ltb, le-ltb}
use lib.Bits.{bit_and}
use lib.Dec.{ltb}
use borrow.Rule.Slice.PartMut.{put_mid, same_len_mid}
use lib.ListN.{length, get_or, take, drop, length-take, length-drop, get_or-append, get_or-eq_default}
use lib.Seq.{get_or-append_right, get_or-take, get_or-drop}
use Rattle.packet.proofs.Tests.{lt_or_le}
use Rattle.packet_set.specs.Bits.{bit}
use Rattle.packet_set.specs.InnerMembers.{member, wordwise}
use Rattle.packet_set.proofs.Digits.{bit_and_lem, bit_of_zero}
use Rattle.packet_set.proofs.Words.{length_wordwise, wordwise_below}
use Rattle.spans.specs.Spans.{slot}
use Rattle.loaded.specs.Loading.{Met, SlotFilled}

-- a set of 32 words has no packet from 1,024 on
pub member_beyond : (s : List ℕ) (γ : ℕ) → length s ≡ 32 → 1024 ≤ γ → member s γ ≡ false
unfolding member
member_beyond s γ w l = ap (λ (x : ℕ). bit x (γ % 32)) (get_or-eq_default s 0 (omega arith)) ∙ bit_of_zero (γ % 32)

-- ---- intersection

pub met : (a b r : List ℕ) → length a ≡ 32 → r ≡ wordwise bit_and 32 a b → Met a b r
met a b r w e = record { wide = long; members = λ γ. go γ (lt_or_le γ 1024) }
  where
    long : length r ≡ 32
    long = ap length e ∙ length_wordwise bit_and 32 a b ∙ w

    word : (γ : ℕ) → γ < 1024 → get_or r (γ / 32) 0 ≡ bit_and (get_or a (γ / 32) 0) (get_or b (γ / 32) 0)
    word γ l = ap (λ (x : List ℕ). get_or x (γ / 32) 0) e ∙ wordwise_below bit_and 32 a b (γ / 32) (omega arith) (omega arith)

    go : (γ : ℕ) → (γ < 1024) ⊎ (1024 ≤ γ) → member r γ ≡ member a γ && member b γ
    go γ (inl l) = unfold member in (ap (λ (x : ℕ). bit x (γ % 32)) (word γ l) ∙ bit_and_lem (get_or a (γ / 32) 0) (get_or b (γ / 32) 0) (γ % 32))
    go γ (inr l) = member_beyond r γ long l ∙ sym (ap (λ (x : Bool). x && member b γ) (member_beyond a γ w l))

-- ---- slots

-- the words of the set stand in slot k
pub record Keeping (k : ℕ) (s tests now : List ℕ) : Type 0 where
  pub long : length now ≡ length tests
  pub done : (j : ℕ) → j < 32 → get_or now (32 * k + j) 0 ≡ get_or s j 0
  pub others : (p : ℕ) → (p < 32 * k) ⊎ (32 * k + 32 ≤ p) → get_or now p 0 ≡ get_or tests p 0

module _ (k : ℕ) (s tests : List ℕ) (w : length s ≡ 32) where
  pub kept : (n : ℕ) → n ≡ 32 → k ≤ 256 → length tests ≡ 8224 → Keeping k s tests (put_mid (32 * k) n tests s)
  kept n e small long =
      record {
        long = same_len_mid (32 * k) n tests s (omega (arith, length-take n (drop (32 * k) tests), length-drop (32 * k) tests));
        done = λ j h.
            get_or-append_right (take (32 * k) tests) _ (32 * k + j) 0 (omega (arith, front))
            ∙ get_or-append s _ 0 (32 * k + j - length (take (32 * k) tests)) (omega (arith, front))
            ∙ ap (λ i. get_or s i 0) (omega (arith, front));
        others = λ p h. other p h;
      }
    where
      front : length (take (32 * k) tests) ≡ 32 * k
      front = omega (arith, length-take (32 * k) tests)

      other : (p : ℕ) → (p < 32 * k) ⊎ (32 * k + 32 ≤ p) → get_or (put_mid (32 * k) n tests s) p 0 ≡ get_or tests p 0
      other p (inl h) = get_or-append (take (32 * k) tests) _ 0 p (omega (arith, front)) ∙ get_or-take (32 * k) tests p 0 h
      other p (inr h) =
          get_or-append_right (take (32 * k) tests) _ p 0 (omega (arith, front))
          ∙ get_or-append_right s _ (p - length (take (32 * k) tests)) 0 (omega (arith, front))
          ∙ get_or-drop n (drop (32 * k) tests) (p - length (take (32 * k) tests) - length s) 0
          ∙ get_or-drop (32 * k) tests (n + (p - length (take (32 * k) tests) - length s)) 0
          ∙ ap (λ i. get_or tests i 0) (omega (arith, front))

  pub kept_slot : (now : List ℕ) → Keeping k s tests now → SlotFilled k (member s) tests now
  kept_slot now m = record { long = m.long; here = λ γ. here γ (lt_or_le γ 1024); others = λ n γ h. other n γ h (lt_or_le γ 1024) }
    where
      here : (γ : ℕ) → (γ < 1024) ⊎ (1024 ≤ γ) → slot now k γ ≡ member s γ
      here γ (inl h) = unfold slot member in (ap₂ (λ (b : Bool) (x : ℕ). b && bit x (γ % 32)) (lt-ltb γ 1024 h) (m.done (γ / 32) (omega arith)))
      here γ (inr h) = unfold slot in (ap (λ (b : Bool). b && bit (get_or now (32 * k + γ / 32) 0) (γ % 32)) (le-ltb γ 1024 h)) ∙ sym (member_beyond s γ w h)

      apart : (n q : ℕ) → (n ≡ k → ⊥) → q < 32 → (32 * n + q < 32 * k) ⊎ (32 * k + 32 ≤ 32 * n + q)
      apart n q h l = go (lt_or_le n k)
        where
          go : (n < k) ⊎ (k ≤ n) → (32 * n + q < 32 * k) ⊎ (32 * k + 32 ≤ 32 * n + q)
          go (inl a) = inl (omega arith)
          go (inr a) = inr (let d : k < n = omega arith in omega arith)

      other : (n γ : ℕ) → (n ≡ k → ⊥) → (γ < 1024) ⊎ (1024 ≤ γ) → slot now n γ ≡ slot tests n γ
      other n γ h (inl a) = unfold slot in (ap (λ (x : ℕ). ltb γ 1024 && bit x (γ % 32)) (m.others (32 * n + γ / 32) (apart n (γ / 32) h (omega arith))))
      other n γ h (inr a) = unfold slot in (ap (λ (b : Bool). b && bit (get_or now (32 * n + γ / 32) 0) (γ % 32)) (le-ltb γ 1024 a) ∙ sym (ap (λ (b : Bool). b && bit (get_or tests (32 * n + γ / 32) 0) (γ % 32)) (le-ltb γ 1024 a)))
