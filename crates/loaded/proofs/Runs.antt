-- Packets put into a set by runs: those with a value in a field lie in runs as long as the field's stride, a period apart.
use Prim.Native.Nat.{ℕ, zero, suc, ◌+◌, ◌*◌, ◌/◌, ◌%◌, ◌≤◌, ◌<◌}
use mathlib.Core.Bool.{Bool, true, false, ◌&&◌, ◌||◌}
use mathlib.Core.List.{List, [], ◌∷◌}
use mathlib.Core.Logic.{◌⊎◌, inl, inr}
use mathlib.Core.Path.{◌≡◌, refl, sym, ap, ap₂, ◌∙◌, subst}
use native.Mathlib.Nat.{mul-le-mul_right, mul-lt-mul_of_pos_right, lt_of_mul-lt-mul_right, le_of_mul-le-mul_right, mul_assoc, mul_comm, div-add-mod', mod-eq_of_lt, add-mul-mod_self_right, le-div_iff_mul-le, div-lt_iff_lt-mul, not-suc-le-zero, le_of_suc-le-suc}
use native.Mathlib.Omega.{arith}
use lib.Dec.{T, eqb, leb, ltb, leb→le, ltb→lt, eqb→eq, le→leb, lt→ltb, nleb→lt, not_T}
use lib.ListN.{length, get_or}
use Rattle.packet.specs.Packets.{value_at, stride}
use Rattle.packet.specs.Sizes.{product, LegalSizes}
use Rattle.packet.proofs.Legal.{product_positive, product_drop_le}
use Rattle.packet.proofs.Packets.{value_by_stride, stride_positive}
use Rattle.packet.proofs.Sizes.{product_from}
use Rattle.packet.proofs.Tests.{lt_or_le}
use Rattle.policy.specs.Legality.{bad_field}
use Rattle.packet_set.specs.InnerMembers.{member, empty_set, with_packet}
use Rattle.packet_set.proofs.Words.{member_empty, member_with, length_with}
use Rattle.automaton.proofs.Tests.{T_false, eqb_true, same_test, both, either}
use Rattle.loaded.specs.Loading.{HasMembers, RangeAdded, every_packet, with_value}

pub empty_wide : (s : List ℕ) → s ≡ empty_set → length s ≡ 32
unfolding empty_set
empty_wide s e = ap length e

-- ---- one run

-- the packets of the run below p are in
pub record Inserting (from to : ℕ) (s₀ s : List ℕ) (p : ℕ) : Type 0 where
  pub low : from ≤ p
  pub high : p ≤ to
  pub wide : length s ≡ 32
  pub members : (γ : ℕ) → member s γ ≡ member s₀ γ || (leb from γ && ltb γ p)

no_run : (from γ : ℕ) → leb from γ && ltb γ from ≡ false
no_run from γ = T_false (leb from γ && ltb γ from) (λ t. let h = (both (leb from γ) (ltb γ from)).0 t in absurd (omega (arith, leb→le from γ h.0, ltb→lt γ from h.1)))

run_more : (from p γ : ℕ) → from ≤ p → (leb from γ && ltb γ p) || eqb γ p ≡ leb from γ && ltb γ (p + 1)
run_more from p γ l = same_test ((leb from γ && ltb γ p) || eqb γ p) (leb from γ && ltb γ (p + 1)) (λ t. to ((either (leb from γ && ltb γ p) (eqb γ p)).0 t)) (λ t. back ((both (leb from γ) (ltb γ (p + 1))).0 t) (lt_or_le γ p))
  where
    to : T (leb from γ && ltb γ p) ⊎ T (eqb γ p) → T (leb from γ && ltb γ (p + 1))
    to (inl t) = let h = (both (leb from γ) (ltb γ p)).0 t in (both (leb from γ) (ltb γ (p + 1))).1 (h.0, lt→ltb γ (p + 1) (let k = ltb→lt γ p h.1 in omega arith))
    to (inr t) = let e = eqb→eq γ p t in (both (leb from γ) (ltb γ (p + 1))).1 (le→leb from γ (omega arith), lt→ltb γ (p + 1) (omega arith))

    back : T (leb from γ) × T (ltb γ (p + 1)) → (γ < p) ⊎ (p ≤ γ) → T ((leb from γ && ltb γ p) || eqb γ p)
    back h (inl k) = (either (leb from γ && ltb γ p) (eqb γ p)).1 (inl ((both (leb from γ) (ltb γ p)).1 (h.0, lt→ltb γ p k)))
    back h (inr k) = (either (leb from γ && ltb γ p) (eqb γ p)).1 (inr (eqb_true γ p (let q = ltb→lt γ (p + 1) h.1 in omega arith)))

or_more : (a b c d : Bool) → b || c ≡ d → (a || b) || c ≡ a || d
or_more true b c d e = refl
or_more false b c d e = e

module _ (from to : ℕ) (s₀ : List ℕ) where
  module _ (s : List ℕ) (p : ℕ) (i : Inserting from to s₀ s p) where
    pub inserting_turn : p < to → to ≤ 1024 → (s' : List ℕ) → s' ≡ with_packet s p → Inserting from to s₀ s' (p + 1)
    inserting_turn l small s' e = record {
      low = let h = i.low in omega arith;
      high = omega arith;
      wide = ap length e ∙ length_with s p ∙ i.wide;
      members = λ γ. ap (λ (x : List ℕ). member x γ) e ∙ member_with s p γ (omega (arith, i.wide)) ∙ ap (λ (b : Bool). b || eqb γ p) (i.members γ) ∙ or_more (member s₀ γ) (leb from γ && ltb γ p) (eqb γ p) (leb from γ && ltb γ (p + 1)) (run_more from p γ i.low);
    }

-- ---- every packet

pub every : (sizes s : List ℕ) (count : ℕ) → count ≡ product sizes → (s₀ : List ℕ) → s₀ ≡ empty_set → RangeAdded 0 count s₀ s → HasMembers s (every_packet sizes)
unfolding every_packet
every sizes s count e s₀ es r = record { wide = r.wide; members = λ γ. r.members γ ∙ ap₂ (λ (x : Bool) (n : ℕ). x || (leb 0 γ && ltb γ n)) (ap (λ (x : List ℕ). member x γ) es ∙ member_empty γ) e ∙ all γ }
  where
    all : (γ : ℕ) → leb 0 γ && ltb γ (product sizes) ≡ ltb γ (product sizes)
    all γ = same_test (leb 0 γ && ltb γ (product sizes)) (ltb γ (product sizes)) (λ t. ((both (leb 0 γ) (ltb γ (product sizes))).0 t).1) (λ t. (both (leb 0 γ) (ltb γ (product sizes))).1 (le→leb 0 γ (omega arith), t))

-- ---- the packets with a value

-- a packet count is a multiple of each stride
stride_divides : (sizes : List ℕ) (f : ℕ) → f < length sizes → (m : ℕ) × (product sizes ≡ m * stride sizes f)
unfolding product stride
stride_divides [] f h = absurd (not-suc-le-zero h)
stride_divides (s ∷ ss) zero h = (s, refl)
stride_divides (s ∷ ss) (suc f) h = let r = stride_divides ss f (le_of_suc-le-suc h) in (s * r.0, ap (λ (n : ℕ). s * n) r.1 ∙ sym (mul_assoc s r.0 (stride ss f)))

in_field : (sizes : List ℕ) (f v : ℕ) → bad_field sizes f v ≡ false → (f < length sizes) × (v < get_or sizes f 0)
unfolding bad_field
in_field sizes f v e = (
  nleb→lt (length sizes) f (not_T (leb (length sizes) f) (λ t. subst T e ((either (leb (length sizes) f) (leb (get_or sizes f 0) v)).1 (inl t)))),
  nleb→lt (get_or sizes f 0) v (not_T (leb (get_or sizes f 0) v) (λ t. subst T e ((either (leb (length sizes) f) (leb (get_or sizes f 0) v)).1 (inr t)))),
)

-- the digit of γ at t to the base z
abbrev digit : ℕ → ℕ → ℕ → ℕ
digit t z γ = γ / t % z

-- the only number within z from h z + v on that ends in the digit v is h z + v
one_of_period : (z v h q : ℕ) → h * z + v ≤ q → q < h * z + v + z → q % z ≡ v → q ≡ h * z + v
one_of_period z v h q a b e =
    let d = div-add-mod' q z in
    let lo : h * z ≤ q / z * z = omega arith in
    let hi : q / z * z < suc h * z = omega arith in
    let k : h ≡ q / z = omega (arith, le_of_mul-le-mul_right lo (omega arith), lt_of_mul-lt-mul_right z hi) in
    let w = ap (λ (x : ℕ). x * z) k in
    omega arith

-- the packets of the runs before `start` are in
pub record Filling (t z v N : ℕ) (s : List ℕ) (start : ℕ) : Type 0 where
  pub wide : length s ≡ 32
  pub row : ℕ
  pub at : start ≡ (row * z + v) * t
  pub members : (γ : ℕ) → member s γ ≡ ltb γ N && (ltb γ start && eqb (digit t z γ) v)

module _ (t z v N : ℕ) (some : 0 < t) (value : v < z) where
  filling_start : (s : List ℕ) → s ≡ empty_set → (start : ℕ) → start ≡ v * t → Filling t z v N s start
  filling_start s e start es = record {
    wide = empty_wide s e;
    row = 0;
    at = es ∙ ap (λ (x : ℕ). x * t) (omega arith);
    members = λ γ. ap (λ (x : List ℕ). member x γ) e ∙ member_empty γ ∙ sym (none γ);
  }
    where
      none : (γ : ℕ) → ltb γ N && (ltb γ start && eqb (digit t z γ) v) ≡ false
      none γ = T_false (ltb γ N && (ltb γ start && eqb (digit t z γ) v)) (λ q.
          let h = (both (ltb γ start) (eqb (digit t z γ) v)).0 ((both (ltb γ N) (ltb γ start && eqb (digit t z γ) v)).0 q).1 in
          let low : γ / t < v = (div-lt_iff_lt-mul some).1 (subst (λ (x : ℕ). γ < x) es (ltb→lt γ start h.0)) in
          let same : γ / t % z ≡ γ / t = mod-eq_of_lt (omega arith) in
          absurd (omega (arith, eqb→eq (γ / t % z) v h.1)))

  module _ (M : ℕ) (whole : N ≡ M * t) (s : List ℕ) (start : ℕ) (i : Filling t z v N s start) where
    next_row : (row : ℕ) → (row * z + v) * t + t ≡ suc (row * z + v) * t
    next_row row = omega arith

    -- a run that begins below N ends there
    run_within : start < N → start + t ≤ N
    run_within l =
        let x = i.row * z + v in
        let k : i.row * z + v < M = lt_of_mul-lt-mul_right t (omega (arith, i.at)) in
        let h = mul-le-mul_right t k in
        omega (arith, i.at, next_row i.row)

    filling_turn : start < N → (s' : List ℕ) → RangeAdded start (start + t) s s' → Filling t z v N s' (start + t * z)
    filling_turn l s' r = record {
      wide = r.wide;
      row = suc i.row;
      at = ap (λ (x : ℕ). x + t * z) i.at ∙ period i.row;
      members = λ γ. r.members γ ∙ ap (λ (b : Bool). b || (leb start γ && ltb γ (start + t))) (i.members γ) ∙ same_test (filled' γ || run γ) (filled'' γ) (λ q. to γ ((either (filled' γ) (run γ)).0 q)) (back γ);
    }
      where
        filled' : ℕ → Bool
        filled' γ = ltb γ N && (ltb γ start && eqb (digit t z γ) v)

        filled'' : ℕ → Bool
        filled'' γ = ltb γ N && (ltb γ (start + t * z) && eqb (digit t z γ) v)

        run : ℕ → Bool
        run γ = leb start γ && ltb γ (start + t)

        period : (h : ℕ) → (h * z + v) * t + t * z ≡ (suc h * z + v) * t
        period h = omega arith

        row : ℕ
        row = i.row

        make : (γ : ℕ) → γ < N → γ < start + t * z → digit t z γ ≡ v → T (filled'' γ)
        make γ a b e = (both (ltb γ N) (ltb γ (start + t * z) && eqb (digit t z γ) v)).1 (lt→ltb γ N a, (both (ltb γ (start + t * z)) (eqb (digit t z γ) v)).1 (lt→ltb γ (start + t * z) b, eqb_true (digit t z γ) v e))

        to : (γ : ℕ) → T (filled' γ) ⊎ T (run γ) → T (filled'' γ)
        to γ (inl q) =
            let h = (both (ltb γ N) (ltb γ start && eqb (digit t z γ) v)).0 q in
            let k = (both (ltb γ start) (eqb (digit t z γ) v)).0 h.1 in
            let below = ltb→lt γ start k.0 in
            make γ (ltb→lt γ N h.0) (omega arith) (eqb→eq (digit t z γ) v k.1)
        to γ (inr q) =
            let h = (both (leb start γ) (ltb γ (start + t))).0 q in
            let a = leb→le start γ h.0 in
            let b = ltb→lt γ (start + t) h.1 in
            let lo : row * z + v ≤ γ / t = (le-div_iff_mul-le some).1 (omega (arith, i.at)) in
            let hi : γ / t < suc (row * z + v) = (div-lt_iff_lt-mul some).1 (omega (arith, i.at, next_row row)) in
            let e : γ / t ≡ v + row * z = omega arith in
            let inside = run_within l in
            let room : t ≤ t * z = subst (λ (x : ℕ). x ≤ t * z) (omega arith) (subst (λ (x : ℕ). 1 * t ≤ x) (mul_comm z t) (mul-le-mul_right t (omega arith))) in
            make γ (omega arith) (omega arith) (ap (λ (x : ℕ). x % z) e ∙ add-mul-mod_self_right v row z ∙ mod-eq_of_lt value)

        back : (γ : ℕ) → T (filled'' γ) → T (filled' γ || run γ)
        back γ q = go (lt_or_le γ start)
          where
            h : T (ltb γ N) × T (ltb γ (start + t * z) && eqb (digit t z γ) v)
            h = (both (ltb γ N) (ltb γ (start + t * z) && eqb (digit t z γ) v)).0 q

            k : T (ltb γ (start + t * z)) × T (eqb (digit t z γ) v)
            k = (both (ltb γ (start + t * z)) (eqb (digit t z γ) v)).0 h.1

            go : (γ < start) ⊎ (start ≤ γ) → T (filled' γ || run γ)
            go (inl a) = (either (filled' γ) (run γ)).1 (inl ((both (ltb γ N) (ltb γ start && eqb (digit t z γ) v)).1 (h.0, (both (ltb γ start) (eqb (digit t z γ) v)).1 (lt→ltb γ start a, k.1))))
            go (inr a) =
                let below = ltb→lt γ (start + t * z) k.0 in
                let lo : row * z + v ≤ γ / t = (le-div_iff_mul-le some).1 (omega (arith, i.at)) in
                let hi : γ / t < row * z + v + z = (div-lt_iff_lt-mul some).1 (omega (arith, i.at)) in
                let e = one_of_period z v row (γ / t) lo hi (eqb→eq (digit t z γ) v k.1) in
                let under : γ < suc (row * z + v) * t = (div-lt_iff_lt-mul some).0 (omega arith) in
                (either (filled' γ) (run γ)).1 (inr ((both (leb start γ) (ltb γ (start + t))).1 (le→leb start γ a, lt→ltb γ (start + t) (omega (arith, i.at, next_row row)))))

-- what the fill asks of a field and a value
pub record Field (sizes : List ℕ) (f v : ℕ) : Type 0 where
  pub legal : LegalSizes sizes
  pub is_in_field : bad_field sizes f v ≡ false

pub asked : {sizes : List ℕ} {count f v : ℕ} → LegalSizes sizes × (count ≡ product sizes) × (bad_field sizes f v ≡ false) → Field sizes f v
asked h = record { legal = h.0; is_in_field = h.2 }

module _ (sizes : List ℕ) (f v : ℕ) (g : Field sizes f v) where
  pub field_within : f < length sizes
  field_within = (in_field sizes f v g.is_in_field).0

  value_within : v < get_or sizes f 0
  value_within = (in_field sizes f v g.is_in_field).1

  packets_some : 0 < product sizes
  packets_some = product_positive sizes g.legal.positive

  module _ (t : ℕ) (et : t ≡ stride sizes f) where
    stride_some : 0 < t
    stride_some = let h = stride_positive sizes f 0 packets_some in omega arith

    pub period_small : t * get_or sizes f 0 ≤ 1024
    unfolding stride
    period_small =
        let h = product_from sizes f field_within in
        let k = product_drop_le sizes f packets_some in
        let e = mul_comm (get_or sizes f 0) (stride sizes f) in
        let q = ap (λ (x : ℕ). x * get_or sizes f 0) et in
        omega (arith, g.legal.small)

    pub period_some : 0 < t * get_or sizes f 0
    period_some =
        let h = mul-lt-mul_of_pos_right {k = get_or sizes f 0} stride_some (let k = value_within in omega arith) in
        omega arith

    pub value_small : v * t ≤ 1024
    value_small =
        let h = period_small in
        let k = mul-le-mul_right t value_within in
        let e = mul_comm (get_or sizes f 0) t in
        omega arith

    abbrev z : ℕ
    z = get_or sizes f 0

    pub of_start : (count : ℕ) (s : List ℕ) → s ≡ empty_set → (start : ℕ) → start ≡ v * t → Filling t z v count s start
    of_start count s e start es = filling_start t z v count stride_some value_within s e start es

    module _ (count : ℕ) (ec : count ≡ product sizes) (s : List ℕ) (start : ℕ) (i : Filling t z v count s start) where
      divides : (m : ℕ) × (count ≡ m * t)
      divides = let d = stride_divides sizes f field_within in (d.0, ec ∙ d.1 ∙ ap (λ (x : ℕ). d.0 * x) (sym et))

      pub of_within : start < count → start + t ≤ 1024
      of_within l = let h = run_within t z v count stride_some value_within divides.0 divides.1 s start i l in omega (arith, g.legal.small)

      pub of_turn : start < count → (s' : List ℕ) → RangeAdded start (start + t) s s' → Filling t z v count s' (start + t * z)
      of_turn l s' r = filling_turn t z v count stride_some value_within divides.0 divides.1 s start i l s' r

      pub of_end : count ≤ start → HasMembers s (with_value sizes f v)
      unfolding with_value
      of_end l = record { wide = i.wide; members = λ γ. i.members γ ∙ ap (λ (n : ℕ). ltb γ n && (ltb γ start && eqb (digit t z γ) v)) ec ∙ same γ }
        where
          same : (γ : ℕ) → ltb γ (product sizes) && (ltb γ start && eqb (digit t z γ) v) ≡ ltb γ (product sizes) && eqb (value_at sizes f γ) v
          same γ = same_test (ltb γ (product sizes) && (ltb γ start && eqb (digit t z γ) v)) (ltb γ (product sizes) && eqb (value_at sizes f γ) v) to back
            where
              value : γ < product sizes → value_at sizes f γ ≡ digit t z γ
              value k = value_by_stride sizes f γ field_within k ∙ ap (λ (x : ℕ). γ / x % z) (sym et)

              to : T (ltb γ (product sizes) && (ltb γ start && eqb (digit t z γ) v)) → T (ltb γ (product sizes) && eqb (value_at sizes f γ) v)
              to q =
                  let h = (both (ltb γ (product sizes)) (ltb γ start && eqb (digit t z γ) v)).0 q in
                  let k = (both (ltb γ start) (eqb (digit t z γ) v)).0 h.1 in
                  (both (ltb γ (product sizes)) (eqb (value_at sizes f γ) v)).1 (h.0, eqb_true (value_at sizes f γ) v (value (ltb→lt γ (product sizes) h.0) ∙ eqb→eq (digit t z γ) v k.1))

              back : T (ltb γ (product sizes) && eqb (value_at sizes f γ) v) → T (ltb γ (product sizes) && (ltb γ start && eqb (digit t z γ) v))
              back q =
                  let h = (both (ltb γ (product sizes)) (eqb (value_at sizes f γ) v)).0 q in
                  let b = ltb→lt γ (product sizes) h.0 in
                  (both (ltb γ (product sizes)) (ltb γ start && eqb (digit t z γ) v)).1 (h.0, (both (ltb γ start) (eqb (digit t z γ) v)).1 (lt→ltb γ start (omega arith), eqb_true (digit t z γ) v (sym (value b) ∙ eqb→eq (value_at sizes f γ) v h.1)))
