-- The running product of the sizes, field by field.
-- Assumes nothing.
use Prim.Native.Nat.{ℕ, zero, suc, ◌<◌, ◌≤◌, ◌+◌, ◌*◌}
use native.Mathlib.Nat.{not-suc-le-zero, le_of_suc-le-suc, mul-one, one-mul, mul_assoc, mul-le-mul}
use native.Mathlib.Numerals.{add-one}
use native.Mathlib.Omega.{arith}
use mathlib.Core.List.{List, [], ◌∷◌}
use Rattle.std.specs.Prelude.{Option, None}
use mathlib.Core.Path.{◌≡◌, refl, ap, ap₂, sym, ◌∙◌, subst}
use borrow.Author.Tests.{lt-ltb, le-ltb}
use lib.ListN.{length, get_or, take, drop}
use lib.Seq.{take_all, drop-cons}
use Rattle.packet.specs.Lowest.{lowest}
use Rattle.packet.specs.Refusals.{refused_at, refusal}
use mathlib.Core.Bool.{true≢false}
use Rattle.packet.specs.declared.Refusal.{Refusal}
use Rattle.packet.specs.Refusals.{Tested}
use Rattle.std.specs.Prelude.{Ok, Err}
use Rattle.packet.specs.Sizes.{product, product_over, product_stage, counted, packet_count}
use Rattle.packet.proofs.Lowest.{lowest_more, lowest_found, lowest_none_whole}

-- ---- a value where a stage passes

pub counted_refused : (t : Tested) (n : ℕ) {q : Refusal} → counted t n ≡ Err q → t ≡ Err q
unfolding counted
counted_refused (Ok _) n e = absurd (true≢false (cc))
counted_refused (Err r) n {q = q} e = let same : r ≡ q = cc in ap Err same

pub counted_as : {t : Tested} (n : ℕ) {q : Refusal} → t ≡ Err q → counted t n ≡ Err q
unfolding counted
counted_as n e = ap (λ (t : Tested). counted t n) e

pub counted_passed : (t : Tested) {n m : ℕ} → counted t n ≡ Ok m → (t ≡ Ok tt) × (m ≡ n)
unfolding counted
counted_passed (Ok _) {n} {m} e = let same : m ≡ n = cc in (refl, same)
counted_passed (Err r) e = absurd (true≢false (cc))

-- one field more
pub product_more : (sizes : List ℕ) (i : ℕ) → i < length sizes → product (take (suc i) sizes) ≡ product (take i sizes) * get_or sizes i 0
unfolding product
product_more [] i h = absurd (not-suc-le-zero h)
product_more (s ∷ ss) zero h = mul-one s ∙ sym (one-mul s)
product_more (s ∷ ss) (suc i) h =
    ap (λ (n : ℕ). s * n) (product_more ss i (le_of_suc-le-suc h)) ∙ sym (mul_assoc s (product (take i ss)) (get_or ss i 0))

-- after the first i fields p is their product, and no running product was over 1,024
pub record Running (sizes : List ℕ) (i p : ℕ) : Type 0 where
  pub within : i ≤ length sizes
  pub is : p ≡ product (take i sizes)
  pub small : p ≤ 1024
  pub passed : lowest (product_over sizes) i ≡ None

pub running_none : (sizes : List ℕ) → Running sizes 0 1
unfolding product lowest
running_none sizes = record { within = omega arith; is = refl; small = omega arith; passed = refl }

-- the next field has the size x
module _ (sizes : List ℕ) {i p x : ℕ} (r : Running sizes i p) (h : i < length sizes) (e : x ≡ get_or sizes i 0) where
  more_is : p * x ≡ product (take (suc i) sizes)
  more_is = ap₂ (λ (m n : ℕ). m * n) r.is e ∙ sym (product_more sizes i h)

  pub running_fits : x ≤ 65535 → p * x ≤ 1024 * 65535
  running_fits small = mul-le-mul r.small small

  pub running_more : p * x ≤ 1024 → Running sizes (i + 1) (p * x)
  unfolding product_over
  running_more small =
      rw add-one
      (record {
        within = h;
        is = more_is;
        small = small;
        passed = lowest_more (product_over sizes) i r.passed (le-ltb 1024 _ (subst (λ (n : ℕ). n ≤ 1024) more_is small));
      })

  pub running_over : 1024 < p * x → Err (refusal 3 0 i) ≡ packet_count sizes
  unfolding product_over packet_count product_stage refused_at counted
  running_over over =
      let stops = lowest_found (product_over sizes) i (length sizes) r.passed (lt-ltb 1024 _ (subst (λ (n : ℕ). 1024 < n) more_is over)) h in
      sym (ap (λ (o : Option ℕ). counted (refused_at 3 0 o) (product sizes)) stops)

pub running_all : (sizes : List ℕ) {i p : ℕ} → Running sizes i p → length sizes ≤ i → Ok p ≡ packet_count sizes
unfolding packet_count product_stage refused_at counted
running_all sizes {i} {p} r end =
    let all = lowest_none_whole (product_over sizes) i (length sizes) r.passed (omega (arith, r.within)) in
    ap Ok (r.is ∙ ap product (take_all i sizes end)) ∙ sym (ap (λ (o : Option ℕ). counted (refused_at 3 0 o) (product sizes)) all)

-- ---- from the last field down

-- the fields from i on, of which the first has size s
pub product_from : (sizes : List ℕ) (i : ℕ) → i < length sizes → product (drop i sizes) ≡ get_or sizes i 0 * product (drop (suc i) sizes)
unfolding product
product_from sizes i h = ap product (drop-cons sizes i 0 h)
