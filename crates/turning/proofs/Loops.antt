-- The two loops: values split off a number field by field, and a number put together field by field.
-- Assumes nothing.
use Prim.Native.Nat.{ℕ, zero, suc, ◌<◌, ◌≤◌, ◌+◌, ◌*◌, ◌/◌, ◌%◌}
use native.Mathlib.Nat.{mul-div_right, mod-lt, not-suc-le-zero, mul-zero, zero-mul, mul-one, le-mul_of_pos_right}
use native.Mathlib.Numerals.{add-one}
use native.Mathlib.Omega.{arith}
use mathlib.Core.List.{List, [], ◌∷◌, ◌++◌, append_assoc, append-nil}
use mathlib.Core.Path.{◌≡◌, refl, ap, ap₂, sym, ◌∙◌, subst}
use lib.ListN.{length, get_or, take, drop, set, length-set, drop_of_length-le}
use lib.Seq.{take-suc-set, drop-cons, take_all}
use Rattle.packet.specs.Sizes.{product, LegalSizes}
use Rattle.packet.specs.Packets.{values_of, number_of, Declared, stride}
use Rattle.packet.proofs.Sizes.{product_from}
use Rattle.packet.proofs.Packets.{declared_length, number_below, stride_positive}
use Rattle.turning.specs.Turning.{class_in, classes_in}
use Rattle.turning.proofs.Classes.{class_at}

-- the values of the first i fields are written, and what is left of the number holds the others
pub record Split (sizes values : List ℕ) (number block rest i : ℕ) : Type 0 where
  pub within : i ≤ length sizes
  pub long : length values ≡ length sizes
  pub blocks : block ≡ product (drop i sizes)
  pub less : rest < block
  pub so_far : take i values ++ values_of (drop i sizes) rest ≡ values_of sizes number

pub split_none : (sizes values : List ℕ) (number count : ℕ) → count ≡ product sizes → number < count → length values ≡ length sizes
    → Split sizes values number count number 0
split_none sizes values number count c h l = record { within = omega arith; long = l; blocks = c; less = h; so_far = refl }

module _ (sizes values : List ℕ) (number : ℕ) {block rest i : ℕ} (s : Split sizes values number block rest i) (h : i < length sizes) where
  pub size_positive : 0 < get_or sizes i 0
  size_positive = go (get_or sizes i 0) (s.blocks ∙ product_from sizes i h) s.less
    where
      go : (z : ℕ) → block ≡ z * product (drop (suc i) sizes) → rest < block → 0 < z
      go zero e k = absurd (not-suc-le-zero (subst (λ (n : ℕ). rest < n) (e ∙ zero-mul (product (drop (suc i) sizes))) k))
      go (suc z) e k = omega arith

  next_block : block / get_or sizes i 0 ≡ product (drop (suc i) sizes)
  next_block = ap (λ (n : ℕ). n / get_or sizes i 0) (s.blocks ∙ product_from sizes i h) ∙ mul-div_right (product (drop (suc i) sizes)) size_positive

  pub block_positive : 0 < block / get_or sizes i 0
  block_positive = go (block / get_or sizes i 0) (s.blocks ∙ product_from sizes i h ∙ ap (λ (n : ℕ). get_or sizes i 0 * n) (sym next_block)) s.less
    where
      go : (b : ℕ) → block ≡ get_or sizes i 0 * b → rest < block → 0 < b
      go zero e k = absurd (not-suc-le-zero (subst (λ (n : ℕ). rest < n) (e ∙ mul-zero (get_or sizes i 0)) k))
      go (suc b) e k = omega arith

  written : take (suc i) (set values i (rest / (block / get_or sizes i 0))) ≡ take i values ++ (rest / (block / get_or sizes i 0) ∷ [])
  written = take-suc-set values i _ (subst (λ (n : ℕ). i < n) (sym s.long) h)

  left : values_of (drop i sizes) rest ≡ rest / (block / get_or sizes i 0) ∷ values_of (drop (suc i) sizes) (rest % (block / get_or sizes i 0))
  unfolding values_of
  left =
      ap (λ (l : List ℕ). values_of l rest) (drop-cons sizes i 0 h)
      ∙ ap (λ (b : ℕ). rest / b ∷ values_of (drop (suc i) sizes) (rest % b)) (sym next_block)

  pub split_more : Split sizes (set values i (rest / (block / get_or sizes i 0))) number (block / get_or sizes i 0) (rest % (block / get_or sizes i 0)) (i + 1)
  split_more =
      rw add-one
      (record {
        within = h;
        long = length-set values i _ ∙ s.long;
        blocks = next_block;
        less = mod-lt rest block_positive;
        so_far =
            ap (λ (l : List ℕ). l ++ values_of (drop (suc i) sizes) (rest % (block / get_or sizes i 0))) written
            ∙ append_assoc (take i values) _ _
            ∙ ap (λ (l : List ℕ). take i values ++ l) (sym left)
            ∙ s.so_far;
      })

pub split_all : (sizes values : List ℕ) (number : ℕ) {block rest i : ℕ} → Split sizes values number block rest i → length sizes ≤ i
    → values ≡ values_of sizes number
unfolding values_of
split_all sizes values number {rest = rest} {i = i} s end =
    sym
    (sym s.so_far
    ∙ ap₂ (λ (a b : List ℕ). a ++ values_of b rest) (take_all i values (subst (λ (n : ℕ). n ≤ i) (sym s.long) end)) (drop_of_length-le sizes end)
    ∙ append-nil values)

-- the first i fields have been put together
pub record Joined (sizes values : List ℕ) (number i : ℕ) : Type 0 where
  pub within : i ≤ length sizes
  pub so_far : number * product (drop i sizes) + number_of (drop i sizes) (drop i values) ≡ number_of sizes values

pub joined_none : (sizes values : List ℕ) → Joined sizes values 0 0
joined_none sizes values = record { within = omega arith; so_far = omega (arith, zero-mul (product sizes)) }

module _ (sizes values : List ℕ) (legal : LegalSizes sizes) (declared : Declared sizes values) {number i : ℕ} (j : Joined sizes values number i) (h : i < length sizes) where
  long : i < length values
  long = subst (λ (n : ℕ). i < n) (sym (declared_length sizes values declared)) h

  step : (number * get_or sizes i 0 + get_or values i 0) * product (drop (suc i) sizes) + number_of (drop (suc i) sizes) (drop (suc i) values) ≡ number_of sizes values
  unfolding product number_of
  step =
      regroup number (get_or sizes i 0) (get_or values i 0) (product (drop (suc i) sizes)) (number_of (drop (suc i) sizes) (drop (suc i) values))
      ∙ sym (ap₂ (λ (a b : List ℕ). number * product a + number_of a b) (drop-cons sizes i 0 h) (drop-cons values i 0 long))
      ∙ j.so_far
    where
      regroup : (n s v m r : ℕ) → (n * s + v) * m + r ≡ n * (s * m) + (v * m + r)
      regroup n s v m r = omega arith

  pub joined_more : Joined sizes values (number * get_or sizes i 0 + get_or values i 0) (i + 1)
  joined_more = rw add-one (record { within = h; so_far = step })

  pub joined_fits : number * get_or sizes i 0 + get_or values i 0 < 1024
  unfolding stride
  joined_fits =
      let below : number_of sizes values < product sizes = number_below sizes values declared in
      let grown : number * get_or sizes i 0 + get_or values i 0 ≤ (number * get_or sizes i 0 + get_or values i 0) * product (drop (suc i) sizes) = le-mul_of_pos_right _ (stride_positive sizes i _ below) in
      omega (arith, step, legal.small)

pub joined_all : (sizes values : List ℕ) {number i : ℕ} → Joined sizes values number i → length sizes ≤ i → number ≡ number_of sizes values
unfolding product number_of
joined_all sizes values {number} {i} j end =
    sym
    (sym j.so_far
    ∙ ap (λ (l : List ℕ). number * product l + number_of l (drop i values)) (drop_of_length-le sizes end)
    ∙ omega (arith, mul-one number))

-- the class of one more value
module _ (core values : List ℕ) (legal : LegalSizes core) (long : length values ≡ length core) (declared : Declared core (classes_in core values)) {number i x : ℕ} (inv : Joined core (classes_in core values) number i) (h : i < length core) (e : x ≡ class_in (get_or core i 0) (get_or values i 0)) where
  same : x ≡ get_or (classes_in core values) i 0
  same = e ∙ sym (class_at core values i long h)

  pub class_joined : Joined core (classes_in core values) (number * get_or core i 0 + x) (i + 1)
  class_joined = subst (λ v. Joined core (classes_in core values) (number * get_or core i 0 + v) (i + 1)) (sym same) (joined_more core (classes_in core values) legal declared inv h)

  pub class_fits : number * get_or core i 0 + x < 1024
  class_fits = subst (λ v. number * get_or core i 0 + v < 1024) (sym same) (joined_fits core (classes_in core values) legal declared inv h)
