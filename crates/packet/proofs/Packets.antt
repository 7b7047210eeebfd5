-- Numbers and values of packets: each turns into the other and back; a changed field reads back. Any sizes, no bound on N.
-- Assumes nothing.
use Prim.Native.Nat.{ℕ, zero, suc, ◌<◌, ◌+◌, ◌*◌, ◌/◌, ◌%◌}
use native.Mathlib.Nat.{not-suc-le-zero, le_of_suc-le-suc, div-lt_iff_lt-mul, mod-lt, mod-eq_of_lt, div-add-mod', mul-zero, mul_assoc, add_comm, add-mul-div_right, add-mul-mod_self_right}
use native.Mathlib.Omega.{arith}
use mathlib.Core.List.{List, [], ◌∷◌}
use mathlib.Core.Logic.{◌≢◌}
use mathlib.Core.Path.{◌≡◌, refl, ap, ap₂, sym, ◌∙◌, subst}
use lib.Arith.{digits_lt, digits_div, digits_mod}
use lib.ListN.{length, get_or, set, drop}
use lib.Seq.{get_or-set_same, get_or-set_other}
use Rattle.packet.specs.Sizes.{product}
use Rattle.packet.specs.Packets.{number_of, values_of, value_at, changed, Declared, stride}

pub number_below : (sizes vs : List ℕ) → Declared sizes vs → number_of sizes vs < product sizes
unfolding number_of product Declared
number_below [] [] d = omega arith
number_below [] (v ∷ vs) d = absurd d
number_below (s ∷ ss) [] d = absurd d
number_below (s ∷ ss) (v ∷ vs) d = digits_lt d.0 (number_below ss vs d.1)

rest_positive : (s m α : ℕ) → α < s * m → 0 < m
rest_positive s zero α h = absurd (not-suc-le-zero (subst (λ (n : ℕ). α < n) (mul-zero s) h))
rest_positive s (suc m) α h = omega arith

pub values_declared : (sizes : List ℕ) (α : ℕ) → α < product sizes → Declared sizes (values_of sizes α)
unfolding values_of product Declared
values_declared [] α h = tt
values_declared (s ∷ ss) α h =
    let pos : 0 < product ss = rest_positive s (product ss) α h in
    ((div-lt_iff_lt-mul pos).1 h, values_declared ss (α % product ss) (mod-lt α pos))

pub values_of_number : (sizes vs : List ℕ) → Declared sizes vs → values_of sizes (number_of sizes vs) ≡ vs
unfolding number_of values_of product Declared
values_of_number [] [] d = refl
values_of_number [] (v ∷ vs) d = absurd d
values_of_number (s ∷ ss) [] d = absurd d
values_of_number (s ∷ ss) (v ∷ vs) d =
    let below : number_of ss vs < product ss = number_below ss vs d.1 in
    ap₂ (λ (x : ℕ) (xs : List ℕ). x ∷ xs) (digits_div v below)
    (ap (λ (n : ℕ). values_of ss n) (digits_mod v below) ∙ values_of_number ss vs d.1)

pub number_of_values : (sizes : List ℕ) (α : ℕ) → α < product sizes → number_of sizes (values_of sizes α) ≡ α
unfolding number_of values_of product
number_of_values [] α h = omega arith
number_of_values (s ∷ ss) α h =
    let pos : 0 < product ss = rest_positive s (product ss) α h in
    ap (λ (n : ℕ). α / product ss * product ss + n) (number_of_values ss (α % product ss) (mod-lt α pos)) ∙ div-add-mod' α (product ss)

pub declared_set : (sizes vs : List ℕ) (f v : ℕ) → Declared sizes vs → v < get_or sizes f 0 → Declared sizes (set vs f v)
unfolding Declared
declared_set [] [] f v d h = tt
declared_set [] (x ∷ vs) f v d h = absurd d
declared_set (s ∷ ss) [] f v d h = absurd d
declared_set (s ∷ ss) (x ∷ vs) zero v d h = (h, d.1)
declared_set (s ∷ ss) (x ∷ vs) (suc f) v d h = (d.0, declared_set ss vs f v d.1 h)

pub declared_length : (sizes vs : List ℕ) → Declared sizes vs → length vs ≡ length sizes
unfolding Declared
declared_length [] [] d = refl
declared_length [] (x ∷ vs) d = absurd d
declared_length (s ∷ ss) [] d = absurd d
declared_length (s ∷ ss) (x ∷ vs) d = ap suc (declared_length ss vs d.1)

-- the values of a changed packet
pub values_changed : (sizes : List ℕ) (f v α : ℕ) → v < get_or sizes f 0 → α < product sizes
    → values_of sizes (changed sizes f v α) ≡ set (values_of sizes α) f v
unfolding changed
values_changed sizes f v α h b = values_of_number sizes (set (values_of sizes α) f v) (declared_set sizes _ f v (values_declared sizes α b) h)

pub changed_below : (sizes : List ℕ) (f v α : ℕ) → v < get_or sizes f 0 → α < product sizes → changed sizes f v α < product sizes
unfolding changed
changed_below sizes f v α h b = number_below sizes _ (declared_set sizes _ f v (values_declared sizes α b) h)

-- a changed field reads back as the new value, the others as before
pub changed_reads : (sizes : List ℕ) (f v α : ℕ) → f < length sizes → v < get_or sizes f 0 → α < product sizes
    → value_at sizes f (changed sizes f v α) ≡ v
unfolding value_at
changed_reads sizes f v α k h b =
    ap (λ (vs : List ℕ). get_or vs f 0) (values_changed sizes f v α h b)
    ∙ get_or-set_same (values_of sizes α) f v 0
    (subst (λ (n : ℕ). f < n) (sym (declared_length sizes (values_of sizes α) (values_declared sizes α b))) k)

pub changed_keeps : (sizes : List ℕ) (f g v α : ℕ) → g ≢ f → v < get_or sizes f 0 → α < product sizes
    → value_at sizes g (changed sizes f v α) ≡ value_at sizes g α
unfolding value_at
changed_keeps sizes f g v α d h b =
    ap (λ (vs : List ℕ). get_or vs g 0) (values_changed sizes f v α h b) ∙ get_or-set_other (values_of sizes α) f g v 0 d

-- ---- a field's value and change by its stride

-- the packets of the fields from f on are a multiple of the field's size times its stride
block : (sizes : List ℕ) (f : ℕ) → f < length sizes → (m : ℕ) × (product sizes ≡ m * get_or sizes f 0 * stride sizes f)
unfolding product stride
block [] f h = absurd (not-suc-le-zero h)
block (s ∷ ss) zero h = (1, omega arith)
block (s ∷ ss) (suc f) h = let rest = block ss f (le_of_suc-le-suc h) in (s * rest.0, ap (λ (n : ℕ). s * n) rest.1 ∙ regroup s rest.0 (get_or ss f 0) (product (drop (suc f) ss)))
  where
    regroup : (a b c d : ℕ) → a * (b * c * d) ≡ a * b * c * d
    regroup a b c d = sym (mul_assoc a (b * c) d) ∙ ap (λ (n : ℕ). n * d) (sym (mul_assoc a b c))

-- reading below a multiple of t times z leaves the digit to the base z at t as it is
digit_of_rest : (α m z t : ℕ) → 0 < t → α % (m * z * t) / t % z ≡ α / t % z
digit_of_rest α m z t h =
    sym
    (ap (λ (n : ℕ). n / t % z) (sym (div-add-mod' α (m * z * t)) ∙ add_comm (α / (m * z * t) * (m * z * t)) (α % (m * z * t)) ∙ ap (λ (n : ℕ). α % (m * z * t) + n) (sym (mul_assoc (α / (m * z * t)) (m * z) t)))
    ∙ ap (λ (n : ℕ). n % z) (add-mul-div_right (α % (m * z * t)) (α / (m * z * t) * (m * z)) h ∙ ap (λ (n : ℕ). α % (m * z * t) / t + n) (sym (mul_assoc (α / (m * z * t)) m z)))
    ∙ add-mul-mod_self_right (α % (m * z * t) / t) (α / (m * z * t) * m) z)

pub stride_positive : (sizes : List ℕ) (f α : ℕ) → α < product sizes → 0 < stride sizes f
unfolding product stride
stride_positive [] f α h = omega arith
stride_positive (s ∷ ss) zero α h = rest_positive s (product ss) α h
stride_positive (s ∷ ss) (suc f) α h = stride_positive ss f (α % product ss) (mod-lt α (rest_positive s (product ss) α h))

pub value_by_stride : (sizes : List ℕ) (f α : ℕ) → f < length sizes → α < product sizes → value_at sizes f α ≡ α / stride sizes f % get_or sizes f 0
unfolding value_at values_of product stride
value_by_stride [] f α k h = absurd (not-suc-le-zero k)
value_by_stride (s ∷ ss) zero α k h = sym (mod-eq_of_lt ((div-lt_iff_lt-mul (rest_positive s (product ss) α h)).1 h))
value_by_stride (s ∷ ss) (suc f) α k h =
    let pos : 0 < product ss = rest_positive s (product ss) α h in
    let m = block ss f (le_of_suc-le-suc k) in
    value_by_stride ss f (α % product ss) (le_of_suc-le-suc k) (mod-lt α pos)
    ∙ ap (λ (n : ℕ). α % n / product (drop (suc f) ss) % get_or ss f 0) m.1
    ∙ digit_of_rest α m.0 (get_or ss f 0) (product (drop (suc f) ss)) (stride_positive ss f (α % product ss) (mod-lt α pos))

number_set : (sizes vs : List ℕ) (f v : ℕ) → Declared sizes vs → f < length sizes
    → number_of sizes (set vs f v) + get_or vs f 0 * stride sizes f ≡ number_of sizes vs + v * stride sizes f
unfolding number_of stride Declared
number_set [] vs f v d h = absurd (not-suc-le-zero h)
number_set (s ∷ ss) [] f v d h = absurd d
number_set (s ∷ ss) (x ∷ vs) zero v d h = omega arith
number_set (s ∷ ss) (x ∷ vs) (suc f) v d h = let rest = number_set ss vs f v d.1 (le_of_suc-le-suc h) in omega arith

pub changed_by_stride : (sizes : List ℕ) (f v α : ℕ) → f < length sizes → α < product sizes
    → changed sizes f v α + value_at sizes f α * stride sizes f ≡ α + v * stride sizes f
unfolding changed value_at
changed_by_stride sizes f v α k h =
    number_set sizes (values_of sizes α) f v (values_declared sizes α h) k ∙ ap (λ (n : ℕ). n + v * stride sizes f) (number_of_values sizes α h)
