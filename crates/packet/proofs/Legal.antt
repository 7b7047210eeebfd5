-- The stages of the sizes pass exactly when the sizes are legal.
-- Assumes nothing.
use Prim.Native.Nat.{ℕ, zero, suc, pred, ◌<◌, ◌≤◌, ◌-◌, ◌*◌, suc-le-suc}
use native.Mathlib.Nat.{not-suc-le-zero, zero-mul, mul-zero, mul_comm, le_refl, le_trans, mul-pos}
use native.Mathlib.Omega.{arith}
use mathlib.Core.Bool.{false}
use mathlib.Core.List.{List, [], ◌∷◌}
use mathlib.Core.Path.{◌≡◌, refl, ap, sym, ◌∙◌, subst}
use borrow.Author.Tests.{eqb-false, ltb-false}
use lib.Dec.{eqb, ltb}
use lib.ListN.{length, get_or, take, drop}
use lib.Seq.{take_all, drop-length}
use Rattle.std.specs.Prelude.{Ok}
use Rattle.packet.specs.Lowest.{lowest}
use Rattle.packet.specs.Refusals.{refused_at, at_zero, first_refused}
use Rattle.packet.specs.Sizes.{product, bad_count, zero_size, product_over, fields_stage, product_stage, LegalSizes}
use Rattle.packet.specs.Packets.{stride}
use Rattle.packet.proofs.Tests.{or_false}
use Rattle.packet.proofs.Lowest.{lowest_none}
use Rattle.packet.proofs.Sizes.{product_from}
use Rattle.packet.proofs.Stages.{first_refused_passed, refused_at_passed, at_place_none}

-- the last running product is the product
last_running : (sizes : List ℕ) → 0 < length sizes → product (take (suc (pred (length sizes))) sizes) ≡ product sizes
last_running sizes h = ap product (take_all (suc (pred (length sizes))) sizes (omega arith))

-- what causes 1 and 2 ask
pub record LegalFields (sizes : List ℕ) : Type 0 where
  pub some : 0 < length sizes
  pub few : length sizes ≤ 8
  pub positive : (i : ℕ) → i < length sizes → 0 < get_or sizes i 0

pub fields_legal : (sizes : List ℕ) → fields_stage sizes ≡ Ok tt → LegalFields sizes
unfolding fields_stage bad_count zero_size
fields_legal sizes p = record { some = some; few = ltb-false 8 (length sizes) count.1; positive = positive }
  where
    tests : (refused_at 1 0 (at_zero (bad_count sizes)) ≡ Ok tt) × (first_refused (refused_at 2 0 (lowest (zero_size sizes) (length sizes)) ∷ []) ≡ Ok tt)
    tests = first_refused_passed _ _ p

    count : (eqb (length sizes) 0 ≡ false) × (ltb 8 (length sizes) ≡ false)
    count = or_false _ _ (at_place_none 0 _ (refused_at_passed 1 0 _ tests.0))

    some : 0 < length sizes
    some = let n : (length sizes ≡ 0 → ⊥) = eqb-false (length sizes) 0 count.0 in omega (arith, n)

    positive : (i : ℕ) → i < length sizes → 0 < get_or sizes i 0
    positive i h =
        let n : (get_or sizes i 0 ≡ 0 → ⊥) = eqb-false (get_or sizes i 0) 0 (lowest_none _ _ (refused_at_passed 2 0 _ (first_refused_passed _ _ tests.1).0) i h) in
        omega (arith, n)

-- and cause 3
pub sizes_legal : (sizes : List ℕ) → LegalFields sizes → product_stage sizes ≡ Ok tt → LegalSizes sizes
unfolding product_stage product_over
sizes_legal sizes h q = record { some = h.some; few = h.few; positive = h.positive; small = small }
  where
    small : product sizes ≤ 1024
    small =
        subst (λ (n : ℕ). n ≤ 1024) (last_running sizes h.some)
        (ltb-false 1024 _ (lowest_none _ _ (refused_at_passed 3 0 _ q) (pred (length sizes)) (omega (arith, h.some))))

pub product_positive : (sizes : List ℕ) → ((i : ℕ) → i < length sizes → 0 < get_or sizes i 0) → 0 < product sizes
unfolding product
product_positive [] h = omega arith
product_positive (s ∷ ss) h = mul-pos (h 0 (omega arith)) (product_positive ss (λ i k. h (suc i) (suc-le-suc k)))

-- fewer fields have no more packets
pub product_drop_le : (sizes : List ℕ) (i : ℕ) → 0 < product sizes → product (drop i sizes) ≤ product sizes
unfolding product
product_drop_le sizes zero h = le_refl (product sizes)
product_drop_le [] (suc i) h = le_refl 1
product_drop_le (s ∷ ss) (suc i) h = go s (product ss) refl h (product_drop_le ss i)
  where
    go : (a b : ℕ) → b ≡ product ss → 0 < a * b → (0 < product ss → product (drop i ss) ≤ product ss) → product (drop i ss) ≤ a * b
    go zero b e k rest = absurd (not-suc-le-zero (subst (λ (n : ℕ). 0 < n) (zero-mul b) k))
    go (suc a) zero e k rest = absurd (not-suc-le-zero (subst (λ (n : ℕ). 0 < n) (mul-zero (suc a)) k))
    go (suc a) (suc b) e k rest = le_trans (subst (λ (n : ℕ). product (drop i ss) ≤ n) (sym e) (rest (omega arith))) (omega arith)

-- ---- from the last field down: p is the product of the sizes from i on

pub record From (sizes : List ℕ) (i p : ℕ) : Type 0 where
  pub within : i ≤ length sizes
  pub is : p ≡ product (drop i sizes)

pub from_last : (sizes : List ℕ) → From sizes (length sizes) 1
unfolding product
from_last sizes = record { within = le_refl (length sizes); is = sym (ap product (drop-length sizes)) }

module _ (sizes : List ℕ) (legal : LegalSizes sizes) where
  pub from_small : {i p : ℕ} → From sizes i p → p ≤ 1024
  from_small {i} {p} f =
      subst (λ (n : ℕ). n ≤ 1024) (sym f.is) (le_trans (product_drop_le sizes i (product_positive sizes legal.positive)) legal.small)

  pub from_down : {i p : ℕ} → From sizes i p → 0 < i → From sizes (i - 1) (p * get_or sizes (i - 1) 0)
  from_down {i} {p} f h =
      record {
        within = omega (arith, f.within);
        is = ap (λ (n : ℕ). n * get_or sizes (i - 1) 0) (f.is ∙ ap (λ (j : ℕ). product (drop j sizes)) next) ∙ mul_comm _ _ ∙ sym (product_from sizes (i - 1) (omega (arith, f.within)));
      }
    where
      next : i ≡ suc (i - 1)
      next = omega arith

pub from_stride : (sizes : List ℕ) {i p : ℕ} → From sizes i p → (f : ℕ) → i ≡ suc f → p ≡ stride sizes f
unfolding stride
from_stride sizes r f e = r.is ∙ ap (λ (j : ℕ). product (drop j sizes)) e
