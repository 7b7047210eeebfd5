-- Equal rows have one bucket, and a packet's range of buckets lies within them all.
use mathlib.Core.Path.{◌≡◌, refl, sym, ◌∙◌, ap, ap₂, subst}
use mathlib.Core.Bool.{Bool, true, false, cond}
use mathlib.Core.List.{List}
use Prim.Native.Nat.{ℕ, zero, suc, ◌+◌, ◌*◌, ◌/◌, ◌%◌, ◌≤◌, ◌<◌}
use native.Mathlib.Nat.{mod-lt, div-mul-le_self, mul_comm, mul-le-mul_right, le_trans, le-div_iff_mul-le, one-mul, suc-mul, le_antisymm}
use native.Mathlib.Numerals.{add-one}
use native.Mathlib.Omega.{arith}
use lib.Dec.{eqb}
use lib.ListN.{get_or}
use borrow.Author.Tests.{eqb-true, eq-eqb, ne_eqb}
use Rattle.system.proofs.Basics.{and_true}
use Rattle.index.specs.declared.Row.{Row}
use Rattle.index.specs.Columns.{policy_count, masks_agree, rows_agree}
use Rattle.index.specs.Index.{hash_factor, hash_prime, mixed, mixed_upper, hash_of, bucket_of}

pub mixed_is : (h half : ℕ) → ((h + half) * hash_factor % hash_prime ≡ mixed h half) × ((h + half) * hash_factor % hash_prime < hash_prime)
unfolding mixed
mixed_is h half = (refl, mod-lt _ (omega arith))

-- the upper half of a state is a half
pub high_half : {s : ℕ} → s < 18446744073709551616 → s / 4294967296 < 4294967296
high_half h = omega arith

pub upper_none : (h upper : ℕ) → upper ≡ 0 → h ≡ mixed_upper h upper
unfolding mixed_upper
upper_none h upper e = sym (ap (λ (b : Bool). cond b h (mixed h upper)) (eq-eqb upper 0 e))

pub upper_some : (h upper r : ℕ) → (upper ≡ 0 → ⊥) → r ≡ mixed h upper → r ≡ mixed_upper h upper
unfolding mixed_upper
upper_some h upper r n e = e ∙ sym (ap (λ (b : Bool). cond b h (mixed h upper)) (ne_eqb upper 0 n))

mixed_below : (h half : ℕ) → mixed h half < hash_prime
unfolding mixed
mixed_below h half = mod-lt _ (omega arith)

pub hash_below : (k : ℕ) (a : List ℕ) → hash_of k a < hash_prime
unfolding hash_of mixed_upper
hash_below zero a = omega arith
hash_below (suc k) a = go (eqb (get_or a k 0 / 4294967296) 0)
  where
    go : (b : Bool) → cond b (mixed (hash_of k a) (get_or a k 0 % 4294967296)) (mixed (mixed (hash_of k a) (get_or a k 0 % 4294967296)) (get_or a k 0 / 4294967296)) < hash_prime
    go true = mixed_below _ _
    go false = mixed_below _ _

pub hash_none : (a : List ℕ) → 0 ≡ hash_of 0 a
unfolding hash_of
hash_none a = refl

-- one more state, half by half
pub hash_more : (a : List ℕ) (h s k : ℕ) → h ≡ hash_of k a → s ≡ get_or a k 0 → (x y : ℕ) → x ≡ mixed h (s % 4294967296) → y ≡ mixed_upper x (s / 4294967296) → y ≡ hash_of (k + 1) a
unfolding hash_of
hash_more a h s k e f x y p q = rw add-one (q ∙ ap (λ z. mixed_upper z (s / 4294967296)) p ∙ ap₂ (λ (z t : ℕ). mixed_upper (mixed z (t % 4294967296)) (t / 4294967296)) e f)

pub hash_all : (a : List ℕ) (h k n : ℕ) → k ≤ n → n ≤ k → h ≡ hash_of k a → h ≡ hash_of n a
hash_all a h k n l g e = e ∙ ap (λ m. hash_of m a) (le_antisymm l g)

same_hash : (k : ℕ) (a b : List ℕ) → masks_agree k a b ≡ true → hash_of k a ≡ hash_of k b
unfolding hash_of masks_agree
same_hash zero a b e = refl
same_hash (suc k) a b e =
    let both = and_true (masks_agree k a b) (eqb (get_or a k 0) (get_or b k 0)) e in
    ap₂ (λ h s. mixed_upper (mixed h (s % 4294967296)) (s / 4294967296)) (same_hash k a b both.0) (eqb-true _ _ both.1)

pub same_bucket : (size count : ℕ) (a b : Row) → rows_agree a b ≡ true → bucket_of size count a ≡ bucket_of size count b
unfolding bucket_of rows_agree
same_bucket size count a b e =
    let both = and_true (eqb a.packet b.packet) (masks_agree policy_count a.states b.states) e in
    ap₂ (λ p h. p * (size / count) + h % (size / count)) (eqb-true _ _ both.0) (same_hash policy_count a.states b.states both.1)

module _ (size count : ℕ) (r : Row) (small : r.packet < count) (room : count ≤ size) where
  pub count_positive : 0 < count
  count_positive = omega arith

  -- each packet has a bucket at least
  pub width_positive : 0 < size / count
  width_positive = (le-div_iff_mul-le count_positive).1 (rw one-mul room)

  -- the packet's range ends within the buckets
  pub range_within : r.packet * (size / count) + size / count ≤ size
  range_within =
      le_trans (subst (λ n. n ≤ count * (size / count)) (suc-mul r.packet (size / count)) (mul-le-mul_right (size / count) small))
      (subst (λ n. n ≤ size) (mul_comm (size / count) count) (div-mul-le_self size count))

  pub bucket_below : bucket_of size count r < size
  unfolding bucket_of
  bucket_below = omega (arith, range_within, mod-lt (hash_of policy_count r.states) width_positive)

  -- the same with the numbers that the code holds
  module _ (c p : ℕ) (isCount : c ≡ count) (isPacket : p ≡ r.packet) where
    pub held_positive : 0 < size / c
    held_positive = rw isCount width_positive

    pub held_range : p * (size / c) + size / c ≤ size
    held_range = rw (isCount, isPacket) range_within

    pub held_bucket : (h : ℕ) → h ≡ hash_of policy_count r.states → p * (size / c) + h % (size / c) ≡ bucket_of size count r
    unfolding bucket_of
    held_bucket h isHash = rw (isCount, isPacket, isHash)
