-- A field changed in a whole set at once, by words. Assumes nothing.
use Prim.Native.Nat.{ℕ, zero, suc, ◌+◌, ◌-◌, ◌*◌, ◌/◌, ◌%◌, ◌^◌, ◌≤◌, ◌<◌}
use mathlib.Core.Bool.{Bool, true, false, ◌&&◌, ◌||◌}
use mathlib.Core.List.{List, [], ◌∷◌, ◌++◌}
use mathlib.Core.Logic.{◌⊎◌, inl, inr}
use mathlib.Core.Path.{◌≡◌, refl, sym, ap, ap₂, ◌∙◌, subst}
use native.Mathlib.Nat.{mul-le-mul_right, mul_comm, div-add-mod', mod-lt}
use native.Mathlib.Decide.{dec_lt, ℕ_discrete}
use native.Mathlib.Omega.{arith}
use borrow.Author.Tests.{eqb-true, eq-eqb, ltb-true, lt-ltb}
use lib.Arith.{digits_div, digits_mod}
use lib.Bits.{bit_or, bit_and}
use lib.Dec.{T, eqb, ltb}
use lib.ListN.{length, get_or, set, replicate, length-set, length-append, length-replicate, get_or-append}
use lib.Pow.{low, high}
use lib.Seq.{get_or-set_same, get_or-set_other, get_or-append_right}
use Rattle.std.proofs.lemmas.List.{get_or-append-add}
use Rattle.packet.specs.Packets.{value_at, changed, stride}
use Rattle.packet.specs.Sizes.{product, LegalSizes}
use Rattle.packet.proofs.Packets.{value_by_stride, changed_by_stride, changed_below, changed_reads}
use Rattle.packet.proofs.Tests.{T_true, true_T, and_true, or_true}
use Rattle.packet_set.specs.Bits.{bit}
use Rattle.packet_set.specs.InnerMembers.{member, words_for, empty_set}
use Rattle.packet_set.proofs.Digits.{bit_or_lem, bit_and_lem, bit_shift, bit_of_zero}
use Rattle.packet_set.proofs.Masks.{bit_low}
use Rattle.spans.proofs.Sets.{no_packet}
use Rattle.loaded.specs.Loading.{HasMembers, with_value}
use Rattle.loaded.proofs.Runs.{empty_wide, period_small}
use Rattle.changes.specs.Changes.{Changing, Changed}
use Rattle.changes.specs.Folding.{JoinedWord, Window, Padded, Gathered, Masked, Folded}
use Rattle.changes.proofs.Walking.{digit_within, in_field, stride_some, field_within, goal_fits}

-- ---- two words

module _ (a b : ℕ) (fits : a < 2 ^ 32) where
  bit_first : (i : ℕ) → i < 32 → bit (b * 2 ^ 32 + a) i ≡ bit a i
  bit_first i l = sym (bit_low 32 (b * 2 ^ 32 + a) i l) ∙ ap (λ (x : ℕ). bit x i) (low b 32 fits)

  bit_second : (i : ℕ) → bit (b * 2 ^ 32 + a) (32 + i) ≡ bit b i
  bit_second i = sym (bit_shift (b * 2 ^ 32 + a) 32 i) ∙ ap (λ (x : ℕ). bit x i) (high b 32 fits)

pub joined_bits : (a b k : ℕ) → a < 2 ^ 32 → JoinedWord a b k ((b * 4294967296 + a) / 2 ^ k % 4294967296)
joined_bits a b k fits = record {
  first = λ j l. from j (omega arith) ∙ bit_first a b fits (k + j) l;
  second = λ j i l e. from j l ∙ ap (bit (b * 4294967296 + a)) e ∙ bit_second a b fits i;
}
  where
    from : (j : ℕ) → j < 32 → bit ((b * 4294967296 + a) / 2 ^ k % 4294967296) j ≡ bit (b * 4294967296 + a) (k + j)
    from j l = bit_low 32 ((b * 4294967296 + a) / 2 ^ k) j l ∙ bit_shift (b * 4294967296 + a) k j

pub window : (pad : List ℕ) (at word : ℕ) → JoinedWord (get_or pad (at / 32) 0) (get_or pad (at / 32 + 1) 0) (at % 32) word → Window pad at word
unfolding member
window pad at word g = record { bits = λ j l. go j l (dec_lt (at % 32 + j) 32) }
  where
    go : (j : ℕ) → j < 32 → Dec (at % 32 + j < 32) → bit word j ≡ bit (get_or pad ((at + j) / 32) 0) ((at + j) % 32)
    go j l (yes k) =
        let q : at / 32 ≡ (at + j) / 32 = omega arith in
        let r : at % 32 + j ≡ (at + j) % 32 = omega arith in
        g.first j k ∙ ap₂ (λ (x y : ℕ). bit (get_or pad x 0) y) q r
    go j l (no k) =
        let q : at / 32 + 1 ≡ (at + j) / 32 = omega arith in
        g.second j ((at + j) % 32) l (omega arith) ∙ ap (λ (x : ℕ). bit (get_or pad x 0) ((at + j) % 32)) q

-- ---- the set between words of 0

zeros : (n j : ℕ) → ◌≡◌ {A = ℕ} (get_or (replicate n 0) j 0) 0
zeros zero j = refl
zeros (suc n) zero = refl
zeros (suc n) (suc j) = zeros n j

pub set_between : (s : List ℕ) → length s ≡ 32 → Padded s (replicate 32 0 ++ (s ++ replicate 32 0))
set_between s wide = record {
  wide = omega (arith, length-append (replicate 32 0) (s ++ replicate 32 0), length-append s (replicate 32 0), length-replicate {A = ℕ} 32 0);
  before = λ i l. get_or-append (replicate 32 0) _ 0 i (omega arith) ∙ zeros 32 i;
  here = λ i l. get_or-append-add (replicate 32 0) (s ++ replicate 32 0) i 0 ∙ get_or-append s (replicate 32 0) 0 i (omega arith);
  after = λ i l.
      get_or-append_right (replicate 32 0) _ i 0 (omega arith)
      ∙ get_or-append_right s _ (i - 32) 0 (omega arith)
      ∙ zeros 32 (i - 32 - length s);
}

-- ---- one word

module _ (pad : List ℕ) (at stride : ℕ) where
  pub gather_start : Gathered pad at stride 0 0
  gather_start = record { all = λ b u l k t. absurd (omega arith); only = λ b l t. absurd (subst T (bit_of_zero b) t) }

  pub gather_turn : (n word : ℕ) → Gathered pad at stride n word → (w : ℕ) → Window pad (at + n * stride) w → Gathered pad at stride (n + 1) (bit_or word w)
  gather_turn n word g w e = record {
    all = λ b u l k t. here b u l k t (ℕ_discrete u n);
    only = λ b l t. there b l (or_true (bit word b) (bit w b) (sym (bit_or_lem word w b) ∙ T_true (bit (bit_or word w) b) t));
  }
    where
      either : (b : ℕ) → (bit word b ≡ true) ⊎ (bit w b ≡ true) → T (bit (bit_or word w) b)
      either b (inl t) = true_T (bit_or_lem word w b ∙ ap (λ (x : Bool). x || bit w b) t)
      either b (inr t) = true_T (bit_or_lem word w b ∙ ap (λ (x : Bool). bit word b || x) t ∙ or_right (bit word b))
        where
          or_right : (x : Bool) → x || true ≡ true
          or_right true = refl
          or_right false = refl

      here : (b u : ℕ) → b < 32 → u < n + 1 → T (member pad (at + u * stride + b)) → Dec (u ≡ n) → T (bit (bit_or word w) b)
      here b u l k t (yes h) = either b (inr (e.bits b l ∙ T_true (member pad (at + n * stride + b)) (subst (λ (x : ℕ). T (member pad (at + x * stride + b))) h t)))
      here b u l k t (no h) = either b (inl (T_true (bit word b) (g.all b u l (omega arith) t)))

      there : (b : ℕ) → b < 32 → (bit word b ≡ true) ⊎ (bit w b ≡ true) → (u : ℕ) × (u < n + 1) × T (member pad (at + u * stride + b))
      there b l (inl t) = let h = g.only b l (true_T t) in (h.0, omega (arith, h.1), h.2)
      there b l (inr t) = (n, omega arith, true_T (sym (e.bits b l) ∙ t))

  pub gather_end : (size n word : ℕ) → Gathered pad at stride n word → n ≡ size → Gathered pad at stride size word
  gather_end size n word g e = subst (λ (x : ℕ). Gathered pad at stride x word) e g

pub gather_room : (at stride size n : ℕ) → n < size → 0 < stride → at + size * stride ≤ 3040 → at + n * stride < 3040
gather_room at stride size n l p h =
    let k : (n + 1) * stride ≤ size * stride = mul-le-mul_right stride (omega arith) in
    omega arith

-- ---- the mask

module _ (pad : List ℕ) (at stride n mask : ℕ) where
  pub masked_none : mask ≡ 0 → Masked pad at stride n mask 0
  masked_none e = record {
    all = λ b u l k t m. absurd (subst T (ap (λ (x : ℕ). bit x b) e ∙ bit_of_zero b) m);
    only = λ b l t. absurd (subst T (bit_of_zero b) t);
  }

  pub masked_some : (word : ℕ) → Gathered pad at stride n word → Masked pad at stride n mask (bit_and word mask)
  masked_some word g = record {
    all = λ b u l k t m. true_T (bit_and_lem word mask b ∙ ap₂ ◌&&◌ (T_true (bit word b) (g.all b u l k t)) (T_true (bit mask b) m));
    only = λ b l t. let a = and_true (bit word b) (bit mask b) (sym (bit_and_lem word mask b) ∙ T_true (bit (bit_and word mask) b) t) in (true_T a.1, g.only b l (true_T a.0));
  }

-- ---- the words

module _ (pad mask : List ℕ) (at stride size : ℕ) (s : List ℕ) where
  pub fill_start : Folded pad mask 0 at stride size s s
  fill_start = record { long = refl; done = λ i l. absurd (omega arith); left = λ i l. refl }

  pub fill_turn : (now : List ℕ) (i : ℕ) → Folded pad mask i at stride size s now → i < length s → (word : ℕ) → Masked pad (at + 32 * i) stride size (get_or mask i 0) word
      → Folded pad mask (i + 1) at stride size s (set now i word)
  fill_turn now i f l word g = record {
    long = length-set now i word ∙ f.long;
    done = λ j k. go j k (ℕ_discrete j i);
    left = λ j k. get_or-set_other now i j word 0 (omega arith) ∙ f.left j (omega arith);
  }
    where
      go : (j : ℕ) → j < i + 1 → Dec (j ≡ i) → Masked pad (at + 32 * j) stride size (get_or mask j 0) (get_or (set now i word) j 0)
      go j k (yes e) = subst (λ (x : ℕ). Masked pad (at + 32 * x) stride size (get_or mask x 0) (get_or (set now i word) x 0)) (sym e) (subst (Masked pad (at + 32 * i) stride size (get_or mask i 0)) (sym (get_or-set_same now i word 0 (omega (arith, f.long)))) g)
      go j k (no e) = subst (Masked pad (at + 32 * j) stride size (get_or mask j 0)) (sym (get_or-set_other now i j word 0 e)) (f.done j (omega arith))

  pub fill_end : (now : List ℕ) (i words : ℕ) → Folded pad mask i at stride size s now → i ≡ words → Folded pad mask words at stride size s now
  fill_end now i words f e = subst (λ (x : ℕ). Folded pad mask x at stride size s now) e f

-- ---- the packet count

count_is : (sizes : List ℕ) → 0 < length sizes → stride sizes 0 * get_or sizes 0 0 ≡ product sizes
unfolding stride product
count_is [] h = absurd (omega arith)
count_is (s ∷ ss) h = mul_comm (product ss) s

pub count_of : (sizes : List ℕ) → LegalSizes sizes → (t : ℕ) → t ≡ stride sizes 0 → t * get_or sizes 0 0 ≡ product sizes
count_of sizes legal t e = ap (λ (x : ℕ). x * get_or sizes 0 0) e ∙ count_is sizes legal.some

pub count_small : (sizes : List ℕ) → LegalSizes sizes → (t : ℕ) → t ≡ stride sizes 0 → t * get_or sizes 0 0 ≤ 1024
count_small sizes legal t e = subst (λ (x : ℕ). x ≤ 1024) (sym (count_of sizes legal t e)) legal.small

pub words_of : (sizes : List ℕ) → LegalSizes sizes → (t : ℕ) → t ≡ stride sizes 0 → (words : ℕ) → words ≡ words_for (t * get_or sizes 0 0) → words ≡ words_for (product sizes)
words_of sizes legal t e words w = w ∙ ap words_for (count_of sizes legal t e)

pub words_small : (sizes : List ℕ) → LegalSizes sizes → (t : ℕ) → t ≡ stride sizes 0 → (words : ℕ) → words ≡ words_for (t * get_or sizes 0 0) → words ≤ 32
unfolding words_for
words_small sizes legal t e words w = omega (arith, count_small sizes legal t e)

-- ---- the whole

-- u in place of the digit v of γ
moved : (t z γ u v : ℕ) → 0 < t → u < z → γ / t % z ≡ v → (γ - v * t + u * t) / t % z ≡ u
moved t z γ u v p l e =
    let q : γ / t / z * z + v ≡ γ / t = ap (λ (x : ℕ). γ / t / z * z + x) (sym e) ∙ div-add-mod' (γ / t) z in
    let q' : (γ / t / z * z + v) * t ≡ γ / t * t = ap (λ (x : ℕ). x * t) q in
    let r = div-add-mod' γ t in
    let w : γ - v * t + u * t ≡ (γ / t / z * z + u) * t + γ % t = omega arith in
    ap (λ (x : ℕ). x / t % z) w ∙ ap (λ (x : ℕ). x % z) (digits_div (γ / t / z * z + u) (mod-lt γ p)) ∙ digits_mod (γ / t / z) l

module _ (s pad : List ℕ) (p : Padded s pad) where
  pad_at : (α : ℕ) → α < 1024 → member pad (1024 + α) ≡ member s α
  unfolding member
  pad_at α l =
      let q : (1024 + α) / 32 ≡ 32 + α / 32 = omega arith in
      let r : (1024 + α) % 32 ≡ α % 32 = omega arith in
      ap₂ (λ (x y : ℕ). bit (get_or pad x 0) y) q r ∙ ap (λ (x : ℕ). bit x (α % 32)) (p.here (α / 32) (omega arith))

  pad_beyond : (α : ℕ) → 1024 ≤ α → member pad (1024 + α) ≡ false
  unfolding member
  pad_beyond α l = ap (λ (x : ℕ). bit x ((1024 + α) % 32)) (p.after ((1024 + α) / 32) (omega arith)) ∙ bit_of_zero ((1024 + α) % 32)

module _ (sizes : List ℕ) (f v start k : ℕ) (s : List ℕ) (g : Changing sizes f v start k s) where
  within : f < length sizes
  within = field_within sizes f v g.legal g.is_in_field

  value_within : v < get_or sizes f 0
  value_within = (in_field sizes f v g.legal g.is_in_field).1

  module _ (t z : ℕ) (et : t ≡ stride sizes f) (ez : z ≡ get_or sizes f 0) where
    stride_is_some : 0 < t
    stride_is_some = subst (λ (x : ℕ). 0 < x) (sym et) (stride_some sizes f v g.legal g.is_in_field)

    digit_is : (α : ℕ) → α < product sizes → value_at sizes f α ≡ α / t % z
    digit_is α l = value_by_stride sizes f α within l ∙ ap₂ (λ (x y : ℕ). α / x % y) (sym et) (sym ez)

    lands_at : (α : ℕ) → α < product sizes → changed sizes f v α + α / t % z * t ≡ α + v * t
    lands_at α l =
        ap₂ (λ (x y : ℕ). changed sizes f v α + x * y) (sym (digit_is α l)) et ∙ changed_by_stride sizes f v α within l
        ∙ ap (λ (x : ℕ). α + v * x) (sym et)

    goal_below : v * t < 1024
    goal_below = goal_fits sizes f v start k s g t et

    pub fold_needs : (words : ℕ) → words ≡ words_for (product sizes) → (clear : List ℕ) → clear ≡ empty_set
        → (words ≤ 32) × (1024 - v * t ≤ 1024) × (0 < t) × (z * t ≤ 1024) × (length clear ≡ 32)
    unfolding words_for
    fold_needs words e clear ec = (
      omega (arith, g.legal.small),
      omega arith,
      stride_is_some,
      let h = period_small sizes f v (record { legal = g.legal; is_in_field = g.is_in_field }) t et in
          let c : z * t ≡ t * get_or sizes f 0 = mul_comm z t ∙ ap (λ (x : ℕ). t * x) ez in
          omega arith,
      empty_wide clear ec,
    )

    module _ (pad mask clear now : List ℕ) (words : ℕ) (ew : words ≡ words_for (product sizes)) (p : Padded s pad) (m : HasMembers mask (with_value sizes f v)) (ec : clear ≡ empty_set)
        (w : Folded pad mask words (1024 - v * t) t z clear now) where
      left_zero : (i : ℕ) → words ≤ i → get_or now i 0 ≡ 0
      left_zero i l = w.left i l ∙ ap (λ (x : List ℕ). get_or x i 0) ec ∙ (no_packet 0).outside i (inr (omega arith))

      in_words : (γ : ℕ) → γ < product sizes → γ / 32 < words
      unfolding words_for
      in_words γ l = omega arith

      -- what is u strides on from γ less the goal
      from_there : (γ u : ℕ) → v * t ≤ γ → T (member pad (1024 - v * t + 32 * (γ / 32) + u * t + γ % 32)) → T (member s (γ - v * t + u * t))
      from_there γ u l x =
          let b = goal_below in
          let e : 1024 - v * t + 32 * (γ / 32) + u * t + γ % 32 ≡ 1024 + (γ - v * t + u * t) = omega arith in
          go (subst (λ (n : ℕ). T (member pad n)) e x) (dec_lt (γ - v * t + u * t) 1024)
        where
          go : T (member pad (1024 + (γ - v * t + u * t))) → Dec (γ - v * t + u * t < 1024) → T (member s (γ - v * t + u * t))
          go y (yes b) = subst T (pad_at s pad p (γ - v * t + u * t) b) y
          go y (no b) = absurd (subst T (pad_beyond s pad p (γ - v * t + u * t) (omega arith)) y)

      -- a packet with the value, and what was gathered at it
      back : (γ : ℕ) → γ < product sizes → value_at sizes f γ ≡ v → (u : ℕ) → u < z → T (member pad (1024 - v * t + 32 * (γ / 32) + u * t + γ % 32))
          → (α : ℕ) × T (member s α) × (γ ≡ changed sizes f v α)
      back γ l e u b x =
          let d : γ / t % z ≡ v = sym (digit_is γ l) ∙ e in
          let h : v * t ≤ γ = subst (λ (n : ℕ). n * t ≤ γ) d (digit_within t z γ) in
          let y = from_there γ u h x in
          let c = lands_at (γ - v * t + u * t) (g.below (γ - v * t + u * t) y) in
          let c' = ap (λ (n : ℕ). n * t) (moved t z γ u v stride_is_some b d) in
          (γ - v * t + u * t, y, omega arith)

      pub fold_changed : Changed sizes f v s 0 words now
      unfolding with_value member
      fold_changed = record {
        spanned = record {
          wide = w.long ∙ empty_wide clear ec;
          within = (fold_needs words ew clear ec).0;
          outside = λ i o. out i o;
        };
        all = λ α x. forth α x (g.below α x);
        only = λ γ x. only γ x (dec_lt (γ / 32) words);
      }
        where
          out : (i : ℕ) → (i < 0) ⊎ (words ≤ i) → get_or now i 0 ≡ 0
          out i (inl l) = absurd (omega arith)
          out i (inr l) = left_zero i l

          forth : (α : ℕ) → T (member s α) → α < product sizes → T (member now (changed sizes f v α))
          forth α x l =
              let γ = changed sizes f v α in
              let b = changed_below sizes f v α value_within l in
              let h = w.done (γ / 32) (in_words γ b) in
              let c = lands_at α l in
              let small = goal_below in
              let u : α / t % z < z = mod-lt (α / t) (omega (arith, value_within)) in
              let e : 1024 - v * t + 32 * (γ / 32) + α / t % z * t + γ % 32 ≡ 1024 + α = omega arith in
              h.all (γ % 32) (α / t % z) (omega arith) u (subst (λ (n : ℕ). T (member pad n)) (sym e) (subst T (sym (pad_at s pad p α (omega (arith, g.legal.small)))) x))
              (true_T (masked γ b (changed_reads sizes f v α within value_within l)))
            where
              masked : (γ : ℕ) → γ < product sizes → value_at sizes f γ ≡ v → member mask γ ≡ true
              masked γ b e = m.members γ ∙ ap₂ ◌&&◌ (lt-ltb γ (product sizes) b) (eq-eqb (value_at sizes f γ) v e)

          only : (γ : ℕ) → T (member now γ) → Dec (γ / 32 < words) → (α : ℕ) × T (member s α) × (γ ≡ changed sizes f v α)
          only γ x (no l) = absurd (subst T (ap (λ (n : ℕ). bit n (γ % 32)) (left_zero (γ / 32) (omega arith)) ∙ bit_of_zero (γ % 32)) x)
          only γ x (yes l) =
              let h = w.done (γ / 32) l in
              let a = h.only (γ % 32) (omega arith) x in
              let c = and_true (ltb γ (product sizes)) (eqb (value_at sizes f γ) v) (sym (m.members γ) ∙ T_true (member mask γ) a.0) in
              let y = a.1 in
              back γ (ltb-true γ (product sizes) c.0) (eqb-true (value_at sizes f γ) v c.1) y.0 y.1 y.2
