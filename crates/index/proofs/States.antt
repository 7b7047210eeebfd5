-- Two rows' states, policy by policy.
use mathlib.Core.Path.{◌≡◌, refl, sym, ◌∙◌, ap, ap₂, subst}
use mathlib.Core.Bool.{Bool, true, false, ◌&&◌}
use mathlib.Core.List.{List, [], ◌∷◌}
use mathlib.Core.Logic.{◌⊎◌, inl, inr}
use Prim.Native.Nat.{ℕ, zero, suc, ◌+◌, ◌*◌, ◌/◌, ◌%◌, ◌^◌, ◌≤◌, ◌<◌}
use native.Mathlib.Nat.{not-suc-le-zero, mod-lt, mod-eq_of_lt}
use native.Mathlib.Omega.{arith}
use lib.Arith.{digits_div, digits_mod}
use lib.Dec.{eqb}
use lib.ListN.{length, get_or}
use lib.Pointwise.{pointwise}
use borrow.Author.Tests.{eqb-true, eq-eqb}
use Rattle.system.proofs.Basics.{and_true, last_or_before}
use Rattle.packet_set.specs.Bits.{mask_bits, bit}
use Rattle.packet_set.proofs.Digits.{bits_same}
use Rattle.index.specs.declared.Row.{Row}
use Rattle.index.specs.Columns.{policy_count, masks_agree, rows_agree}
use Rattle.index.specs.Index.{side_at}

and_yes : (b : Bool) → (b && true) ≡ b
and_yes true = refl
and_yes false = refl

two : (a : List ℕ) → length a ≡ policy_count → a ≡ get_or a 0 0 ∷ get_or a 1 0 ∷ []
two [] e = absurd (omega arith)
two (x ∷ []) e = absurd (omega arith)
two (x ∷ y ∷ []) e = refl
two (x ∷ y ∷ z ∷ l) e = absurd (omega arith)

module _ (a b : List ℕ) where
  -- what `==` says of two lists of states
  pub states_equal : length a ≡ policy_count → length b ≡ policy_count → pointwise eqb a b ≡ masks_agree policy_count a b
  unfolding masks_agree
  states_equal la lb = ap₂ (pointwise eqb) (two a la) (two b lb) ∙ ap (λ t. eqb (get_or a 0 0) (get_or b 0 0) && t) (and_yes (eqb (get_or a 1 0) (get_or b 1 0)))

states_refl : (k : ℕ) (a : List ℕ) → masks_agree k a a ≡ true
unfolding masks_agree
states_refl zero a = refl
states_refl (suc k) a = ap₂ ◌&&◌ (states_refl k a) (eq-eqb (get_or a k 0) (get_or a k 0) refl)

pub same_refl : (a : Row) → rows_agree a a ≡ true
unfolding rows_agree
same_refl a = ap₂ ◌&&◌ (eq-eqb a.packet a.packet refl) (states_refl _ a.states)

-- what `==` says of two rows
pub rows_equal : (a b : Row) → length a.states ≡ policy_count → length b.states ≡ policy_count → (eqb a.packet b.packet && pointwise eqb a.states b.states) ≡ rows_agree a b
unfolding rows_agree
rows_equal a b la lb = ap (λ t. eqb a.packet b.packet && t) (states_equal a.states b.states la lb)

-- states that are the same are one by one
states_at : (k i : ℕ) (a b : List ℕ) → i < k → masks_agree k a b ≡ true → get_or a i 0 ≡ get_or b i 0
unfolding masks_agree
states_at zero i a b l e = absurd (not-suc-le-zero l)
states_at (suc k) i a b l e = go (states_at k i a b) (and_true (masks_agree k a b) (eqb (get_or a k 0) (get_or b k 0)) e) (last_or_before l)
  where
    go : (i < k → masks_agree k a b ≡ true → get_or a i 0 ≡ get_or b i 0) → (masks_agree k a b ≡ true) × (eqb (get_or a k 0) (get_or b k 0) ≡ true) → (i < k) ⊎ (i ≡ k) → get_or a i 0 ≡ get_or b i 0
    go ih both (inl h) = ih h both.0
    go ih both (inr p) = subst (λ j. get_or a j 0 ≡ get_or b j 0) (sym p) (eqb-true _ _ both.1)

states_left : (k : ℕ) (a b c : List ℕ) → ((i : ℕ) → i < k → get_or a i 0 ≡ get_or b i 0) → masks_agree k a c ≡ masks_agree k b c
unfolding masks_agree
states_left zero a b c e = refl
states_left (suc k) a b c e = ap₂ ◌&&◌ (states_left k a b c (λ i l. e i (omega arith))) (ap (λ x. eqb x (get_or c k 0)) (e k (omega arith)))

states_right : (k : ℕ) (a b c : List ℕ) → ((i : ℕ) → i < k → get_or a i 0 ≡ get_or b i 0) → masks_agree k c a ≡ masks_agree k c b
unfolding masks_agree
states_right zero a b c e = refl
states_right (suc k) a b c e = ap₂ ◌&&◌ (states_right k a b c (λ i l. e i (omega arith))) (ap (eqb (get_or c k 0)) (e k (omega arith)))

-- rows that are the same: whatever is asked of the one is asked of the other
module _ (a b : Row) (same : rows_agree a b ≡ true) where
  same_packet : a.packet ≡ b.packet
  unfolding rows_agree
  same_packet = eqb-true _ _ (and_true (eqb a.packet b.packet) (masks_agree policy_count a.states b.states) same).0

  same_at : (i : ℕ) → i < policy_count → get_or a.states i 0 ≡ get_or b.states i 0
  unfolding rows_agree
  same_at i l = states_at policy_count i a.states b.states l (and_true (eqb a.packet b.packet) (masks_agree policy_count a.states b.states) same).1

  pub same_left : (c : Row) → rows_agree a c ≡ rows_agree b c
  unfolding rows_agree
  same_left c = ap₂ ◌&&◌ (ap (λ x. eqb x c.packet) same_packet) (states_left policy_count a.states b.states c.states same_at)

  pub same_right : (c : Row) → rows_agree c a ≡ rows_agree c b
  unfolding rows_agree
  same_right c = ap₂ ◌&&◌ (ap (eqb c.packet) same_packet) (states_right policy_count a.states b.states c.states same_at)

  pub same_side : (depth : ℕ) → side_at depth a.states ≡ side_at depth b.states
  unfolding side_at
  same_side depth = ap (λ x. x / 2 ^ (depth / policy_count % mask_bits) % 2) (same_at (depth % policy_count) (mod-lt depth (omega arith)))

-- Rows that a look takes the same way at every depth below twice the width have the same states. The rows of a bucket have one packet, so no
-- look passes more than so many of them.
module _ (a b : List ℕ) (fit : (k : ℕ) → (get_or a k 0 < 2 ^ mask_bits) × (get_or b k 0 < 2 ^ mask_bits)) (same : (depth : ℕ) → depth < policy_count * mask_bits → side_at depth a ≡ side_at depth b) where
  -- the depth at which a look goes by bit j of policy k's state
  at_depth : (x : List ℕ) (j k : ℕ) → j < mask_bits → k < policy_count → side_at (j * policy_count + k) x ≡ get_or x k 0 / 2 ^ j % 2
  unfolding side_at
  at_depth x j k l h =
      ap₂ (λ (u v : ℕ). get_or x u 0 / 2 ^ v % 2) (digits_mod j h) (ap (λ (u : ℕ). u % mask_bits) (digits_div j h) ∙ mod-eq_of_lt l)

  same_bit : (j k : ℕ) → j < mask_bits → k < policy_count → bit (get_or a k 0) j ≡ bit (get_or b k 0) j
  unfolding bit
  same_bit j k l h = ap (λ (d : ℕ). eqb d 1) (sym (at_depth a j k l h) ∙ same (j * policy_count + k) (omega arith) ∙ at_depth b j k l h)

  sides_upto : (n : ℕ) → n ≤ policy_count → masks_agree n a b ≡ true
  unfolding masks_agree
  sides_upto zero l = refl
  sides_upto (suc n) l = ap₂ ◌&&◌ (sides_upto n (omega arith)) (eq-eqb _ _ (bits_same mask_bits (get_or a n 0) (get_or b n 0) (fit n).0 (fit n).1 (λ j h. same_bit j n h (omega arith))))

  pub sides_tell : masks_agree policy_count a b ≡ true
  sides_tell = sides_upto policy_count (omega arith)
