-- Laws of packet sets: what the word loops leave, membership, extensionality. Assumes nothing.
use Prim.Native.Nat.{ℕ, zero, suc, ◌+◌, ◌*◌, ◌/◌, ◌%◌, ◌^◌, ◌≤◌, ◌<◌}
use mathlib.Core.Path.{◌≡◌, refl, sym, ap, ap₂, ◌∙◌}
use mathlib.Core.Bool.{Bool, false, xor, ◌||◌, or-false}
use mathlib.Core.List.{List, [], ◌∷◌}
use native.Mathlib.Nat.{le_of_suc-le-suc, not-suc-le-zero}
use native.Mathlib.Decide.{ℕ_discrete}
use native.Mathlib.Omega.{arith}
use lib.Dec.{eqb}
use borrow.Author.Tests.{eq-eqb, ne_eqb}
use lib.ListN.{length, get_or, set, replicate, length-set}
use lib.Seq.{get_or-set_same, get_or-set_other}
use lib.Bits.{bit_or, bit_xor}
use Rattle.packet_set.specs.Bits.{bit, marked}
use Rattle.packet_set.specs.InnerMembers.{member, words_for, empty_set, with_packet, wordwise, union_of, exclusive_or_of}
use Rattle.packet_set.proofs.Digits.{bit_or_lem, bit_xor_lem, bit_of_zero, bit_marked, shift_marks}

-- ---- a word loop: f done below i, the first set's words from i on

module _ (f : ℕ → ℕ → ℕ) where
  pub length_wordwise : (k : ℕ) (a b : List ℕ) → length (wordwise f k a b) ≡ length a
  unfolding wordwise
  length_wordwise zero a b = refl
  length_wordwise (suc k) [] b = refl
  length_wordwise (suc k) (x ∷ a) [] = ap suc (length_wordwise k a [])
  length_wordwise (suc k) (x ∷ a) (y ∷ b) = ap suc (length_wordwise k a b)

  pub wordwise_below : (k : ℕ) (a b : List ℕ) (i : ℕ) → i < k → i < length a → get_or (wordwise f k a b) i 0 ≡ f (get_or a i 0) (get_or b i 0)
  unfolding wordwise
  wordwise_below zero a b i l h = absurd (not-suc-le-zero l)
  wordwise_below (suc k) [] b i l h = absurd (not-suc-le-zero h)
  wordwise_below (suc k) (x ∷ a) [] zero l h = refl
  wordwise_below (suc k) (x ∷ a) (y ∷ b) zero l h = refl
  wordwise_below (suc k) (x ∷ a) [] (suc i) l h = wordwise_below k a [] i (le_of_suc-le-suc l) (le_of_suc-le-suc h)
  wordwise_below (suc k) (x ∷ a) (y ∷ b) (suc i) l h = wordwise_below k a b i (le_of_suc-le-suc l) (le_of_suc-le-suc h)

  -- a turn of the loop
  wordwise_more : (i : ℕ) (a b : List ℕ) → set (wordwise f i a b) i (f (get_or (wordwise f i a b) i 0) (get_or b i 0)) ≡ wordwise f (suc i) a b
  unfolding wordwise
  wordwise_more zero [] b = refl
  wordwise_more zero (x ∷ a) [] = refl
  wordwise_more zero (x ∷ a) (y ∷ b) = refl
  wordwise_more (suc i) [] b = refl
  wordwise_more (suc i) (x ∷ a) [] = ap (λ (r : List ℕ). f x 0 ∷ r) (wordwise_more i a [])
  wordwise_more (suc i) (x ∷ a) (y ∷ b) = ap (λ (r : List ℕ). f x y ∷ r) (wordwise_more i a b)

  pub wordwise_none : (a b : List ℕ) → a ≡ wordwise f 0 a b
  unfolding wordwise
  wordwise_none a b = refl

  pub wordwise_turn : (a b now : List ℕ) (i : ℕ) → now ≡ wordwise f i a b → set now i (f (get_or now i 0) (get_or b i 0)) ≡ wordwise f (suc i) a b
  wordwise_turn a b now i e = ap (λ (r : List ℕ). set r i (f (get_or r i 0) (get_or b i 0))) e ∙ wordwise_more i a b

-- ---- members

module _ (f : ℕ → ℕ → ℕ) (g : Bool → Bool → Bool) (bits : (x y i : ℕ) → bit (f x y) i ≡ g (bit x i) (bit y i)) (k : ℕ) (a b : List ℕ) where
  member_wordwise : (γ : ℕ) → γ < 32 * k → k ≤ length a → member (wordwise f k a b) γ ≡ g (member a γ) (member b γ)
  unfolding member
  member_wordwise γ l h =
      ap (λ (x : ℕ). bit x (γ % 32)) (wordwise_below f k a b (γ / 32) (omega arith) (omega arith)) ∙ bits (get_or a (γ / 32) 0) (get_or b (γ / 32) 0) (γ % 32)

module _ (k : ℕ) (a b : List ℕ) where
  pub member_union : (γ : ℕ) → γ < 32 * k → k ≤ length a → member (union_of k a b) γ ≡ member a γ || member b γ
  unfolding union_of
  member_union = member_wordwise bit_or ◌||◌ bit_or_lem k a b

  pub member_exclusive_or : (γ : ℕ) → γ < 32 * k → k ≤ length a → member (exclusive_or_of k a b) γ ≡ xor (member a γ) (member b γ)
  unfolding exclusive_or_of
  member_exclusive_or = member_wordwise bit_xor xor bit_xor_lem k a b

get_d_zeros : (n i : ℕ) → ◌≡◌ {A = ℕ} (get_or (replicate n 0) i 0) 0
get_d_zeros zero i = refl
get_d_zeros (suc n) zero = refl
get_d_zeros (suc n) (suc i) = get_d_zeros n i

pub member_empty : (γ : ℕ) → member empty_set γ ≡ false
unfolding member empty_set
member_empty γ = ap (λ (x : ℕ). bit x (γ % 32)) (get_d_zeros 32 (γ / 32)) ∙ bit_of_zero (γ % 32)

pub member_with : (s : List ℕ) (β γ : ℕ) → β < 32 * length s → member (with_packet s β) γ ≡ member s γ || eqb γ β
unfolding member with_packet
member_with s β γ h = go (ℕ_discrete (γ / 32) (β / 32))
  where
    w : ℕ
    w = get_or s (β / 32) 0

    go : Dec (γ / 32 ≡ β / 32) → bit (get_or (set s (β / 32) (marked w (β % 32))) (γ / 32) 0) (γ % 32) ≡ bit (get_or s (γ / 32) 0) (γ % 32) || eqb γ β
    go (yes e) =
        ap (λ (x : ℕ). bit (get_or (set s (β / 32) (marked w (β % 32))) x 0) (γ % 32)) e
        ∙ ap (λ (x : ℕ). bit x (γ % 32)) (get_or-set_same s (β / 32) (marked w (β % 32)) 0 (omega arith))
        ∙ bit_marked w (β % 32) (γ % 32)
        ∙ ap₂ (λ (x : ℕ) (q : Bool). bit (get_or s x 0) (γ % 32) || q) (sym e) (same (ℕ_discrete γ β))
      where
        same : Dec (γ ≡ β) → eqb (γ % 32) (β % 32) ≡ eqb γ β
        same (yes q) = eq-eqb (γ % 32) (β % 32) (ap (λ (x : ℕ). x % 32) q) ∙ sym (eq-eqb γ β q)
        same (no q) = ne_eqb (γ % 32) (β % 32) (λ r. q (omega arith)) ∙ sym (ne_eqb γ β q)
    go (no e) =
        ap (λ (x : ℕ). bit x (γ % 32)) (get_or-set_other s (β / 32) (γ / 32) (marked w (β % 32)) 0 e)
        ∙ sym (ap (λ (q : Bool). bit (get_or s (γ / 32) 0) (γ % 32) || q) (ne_eqb γ β (λ q. e (ap (λ (x : ℕ). x / 32) q))) ∙ or-false (bit (get_or s (γ / 32) 0) (γ % 32)))

-- the store that marks packet γ
pub stored_packet : (s : List ℕ) (γ : ℕ) → set s (γ / 32) (bit_or (get_or s (γ / 32) 0) (1 * 2 ^ (γ % 32) % 2 ^ 32)) ≡ with_packet s γ
unfolding with_packet
stored_packet s γ = ap (set s (γ / 32)) (shift_marks 32 (get_or s (γ / 32) 0) (γ % 32) (omega arith))

-- ---- lengths

pub length_with : (s : List ℕ) (γ : ℕ) → length (with_packet s γ) ≡ length s
unfolding with_packet
length_with s γ = length-set s (γ / 32) (marked (get_or s (γ / 32) 0) (γ % 32))

pub length_union : (k : ℕ) (a b : List ℕ) → length (union_of k a b) ≡ length a
unfolding union_of
length_union = length_wordwise bit_or

-- ---- words

-- word i holds the packets from 32 i on
pub member_in_word : (s : List ℕ) (i j : ℕ) → j < 32 → member s (i * 32 + j) ≡ bit (get_or s i 0) j
unfolding member
member_in_word s i j h =
    let q : (i * 32 + j) / 32 ≡ i = omega arith in
    let r : (i * 32 + j) % 32 ≡ j = omega arith in
    ap₂ (λ (x y : ℕ). bit (get_or s x 0) y) q r

-- the words that n packets need hold them, and 32 words hold 1,024
pub words_hold : (n : ℕ) → n ≤ 32 * words_for n
unfolding words_for
words_hold n = omega arith

pub words_within : (n : ℕ) → n ≤ 1024 → words_for n ≤ 32
unfolding words_for
words_within n h = omega arith
