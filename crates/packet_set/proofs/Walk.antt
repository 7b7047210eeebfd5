-- Laws of the lowest member of a set, from any packet on. Assumes nothing.
use Prim.Native.Nat.{ℕ, ◌+◌, ◌*◌, ◌/◌, ◌%◌, ◌^◌, ◌-◌, ◌≤◌, ◌<◌}
use mathlib.Core.Path.{◌≡◌, sym, ap, ◌∙◌, subst}
use mathlib.Core.Bool.{Bool, true, false, ◌&&◌, true≢false}
use mathlib.Core.List.{List}
use Rattle.std.specs.Prelude.{Option, Some, None}
use native.Mathlib.Decide.{dec_lt}
use native.Mathlib.Omega.{arith}
use lib.Dec.{leb}
use borrow.Author.Tests.{le-leb, lt-leb}
use lib.ListN.{get_or}
use lib.Count.{count_trailing_zeros}
use lib.Pow.{shr_le}
use Rattle.packet_set.specs.Bits.{bit}
use Rattle.packet.specs.Lowest.{lowest}
use Rattle.packet.proofs.Lowest.{IsLowest, Found, lowest_is, lowest_only}
use Rattle.packet_set.specs.InnerMembers.{member, lowest_in}
use Rattle.packet_set.proofs.Digits.{bit_of_zero, bit_high, bit_shift}
use Rattle.packet_set.proofs.Trailing.{trailing_lowest}
use Rattle.packet_set.proofs.Words.{member_in_word}

-- γ is the lowest packet in the first k words that is not below `from`
pub record LowestIn (k from : ℕ) (s : List ℕ) (γ : ℕ) : Type 0 where
  pub below : γ < 32 * k
  pub above : from ≤ γ
  pub inside : member s γ ≡ true
  pub first : (β : ℕ) → from ≤ β → β < γ → member s β ≡ false

-- what an answer says
abbrev pub FoundIn : ℕ → ℕ → List ℕ → Option ℕ → Type 0
FoundIn k from s None = (β : ℕ) → from ≤ β → β < 32 * k → member s β ≡ false
FoundIn k from s (Some γ) = LowestIn k from s γ

module _ (k from : ℕ) (s : List ℕ) where
  abbrev test : ℕ → Bool
  test γ = leb from γ && member s γ

  test_from : (γ : ℕ) → from ≤ γ → test γ ≡ member s γ
  test_from γ l = ap (λ (b : Bool). b && member s γ) (le-leb from γ l)

  test_below : (γ : ℕ) → γ < from → test γ ≡ false
  test_below γ l = ap (λ (b : Bool). b && member s γ) (lt-leb from γ l)

  pub lowest_in_is : FoundIn k from s (lowest_in k from s)
  unfolding lowest_in
  lowest_in_is = go (lowest test (32 * k)) (lowest_is test (32 * k))
    where
      go : (o : Option ℕ) → Found test (32 * k) o → FoundIn k from s o
      go None f = λ β l h. sym (test_from β l) ∙ f β h
      go (Some γ) f = at (dec_lt γ from)
        where
          at : Dec (γ < from) → LowestIn k from s γ
          at (yes l) = absurd (true≢false (sym f.passes ∙ test_below γ l))
          at (no l) =
              let a : from ≤ γ = omega arith in
              record { below = f.below; above = a; inside = sym (test_from γ a) ∙ f.passes; first = λ β m h. sym (test_from β m) ∙ f.first β h }

  pub lowest_in_only : (o : Option ℕ) → FoundIn k from s o → lowest_in k from s ≡ o
  unfolding lowest_in
  lowest_in_only o f = lowest_only test (32 * k) o (go o f)
    where
      out : (β : ℕ) → (from ≤ β → member s β ≡ false) → Dec (β < from) → test β ≡ false
      out β g (yes l) = test_below β l
      out β g (no l) =
          let m : from ≤ β = omega arith in
          test_from β m ∙ g m

      go : (o : Option ℕ) → FoundIn k from s o → Found test (32 * k) o
      go None g = λ β h. out β (λ m. g β m h) (dec_lt β from)
      go (Some γ) g = record { below = g.below; passes = test_from γ g.above ∙ g.inside; first = λ β h. out β (λ m. g.first β m h) (dec_lt β from) }

-- packets that are in no set may be skipped
pub lowest_skip : (k from to : ℕ) (s : List ℕ) → from ≤ to → ((β : ℕ) → from ≤ β → β < to → member s β ≡ false) → lowest_in k from s ≡ lowest_in k to s
lowest_skip k from to s l h = lowest_in_only k from s (lowest_in k to s) (go (lowest_in k to s) (lowest_in_is k to s))
  where
    out : (β : ℕ) → from ≤ β → (to ≤ β → member s β ≡ false) → Dec (β < to) → member s β ≡ false
    out β m g (yes b) = h β m b
    out β m g (no b) = g (omega arith)

    go : (o : Option ℕ) → FoundIn k to s o → FoundIn k from s o
    go None f = λ β m b. out β m (λ n. f β n b) (dec_lt β to)
    go (Some γ) f =
        record { below = f.below; above = omega (arith, f.above); inside = f.inside; first = λ β m b. out β m (λ n. f.first β n b) (dec_lt β to) }

-- ---- trailing zeros of the first word that is not 0

module _ (s : List ℕ) (k start i : ℕ) (zeros : (j : ℕ) → j < i → start ≤ j → get_or s j 0 ≡ 0) where
  zero_words : (γ : ℕ) → 32 * start ≤ γ → γ / 32 < i → member s γ ≡ false
  unfolding member
  zero_words γ m l = ap (λ (x : ℕ). bit x (γ % 32)) (zeros (γ / 32) l (omega arith)) ∙ bit_of_zero (γ % 32)

  pub lowest_nothing : k ≤ i → lowest_in k (32 * start) s ≡ None
  lowest_nothing l = lowest_in_only k (32 * start) s None (λ γ m h. zero_words γ m (omega arith))

  pub lowest_at : start ≤ i → i < k → 0 < get_or s i 0 → get_or s i 0 < 2 ^ 32 → lowest_in k (32 * start) s ≡ Some (i * 32 + count_trailing_zeros 32 (get_or s i 0))
  lowest_at m l p b = go (count_trailing_zeros 32 (get_or s i 0)) (trailing_lowest 32 (get_or s i 0) b p)
    where
      go : (z : ℕ) → IsLowest (bit (get_or s i 0)) 32 z → lowest_in k (32 * start) s ≡ Some (i * 32 + z)
      go z f =
          let z< : z < 32 = f.below in
          lowest_in_only k (32 * start) s (Some (i * 32 + z))
          (record { below = omega arith; above = omega arith; inside = member_in_word s i z z< ∙ f.passes; first = λ γ n h. earlier γ n h (dec_lt (γ / 32) i) })
        where
          earlier : (γ : ℕ) → 32 * start ≤ γ → γ < i * 32 + z → Dec (γ / 32 < i) → member s γ ≡ false
          earlier γ n h (yes q) = zero_words γ n q
          earlier γ n h (no q) =
              let z< : z < 32 = f.below in
              let e : γ ≡ i * 32 + (γ - i * 32) = omega arith in
              ap (member s) e ∙ member_in_word s i (γ - i * 32) (omega arith) ∙ f.first (γ - i * 32) (omega arith)

-- ---- from inside a word on

module _ (s : List ℕ) (k from : ℕ) where
  -- what is left of the word in which `from` lies
  abbrev rest : ℕ
  rest = get_or s (from / 32) 0 / 2 ^ (from % 32)

  in_rest : (j : ℕ) → from % 32 + j < 32 → member s (from + j) ≡ bit rest j
  in_rest j l =
      let e : from + j ≡ from / 32 * 32 + (from % 32 + j) = omega arith in
      ap (member s) e ∙ member_in_word s (from / 32) (from % 32 + j) l ∙ sym (bit_shift (get_or s (from / 32) 0) (from % 32) j)

  pub next_nowhere : k ≤ from / 32 → lowest_in k from s ≡ None
  next_nowhere l = lowest_in_only k from s None (λ γ m h. absurd (omega arith))

  pub next_beyond : rest ≡ 0 → lowest_in k from s ≡ lowest_in k (32 * (from / 32 + 1)) s
  next_beyond e = lowest_skip k from (32 * (from / 32 + 1)) s (omega arith) skip
    where
      skip : (β : ℕ) → from ≤ β → β < 32 * (from / 32 + 1) → member s β ≡ false
      skip β m h =
          let q : β ≡ from + (β - from) = omega arith in
          ap (member s) q ∙ in_rest (β - from) (omega arith) ∙ ap (λ (x : ℕ). bit x (β - from)) e ∙ bit_of_zero (β - from)

  pub next_here : from / 32 < k → get_or s (from / 32) 0 < 2 ^ 32 → 0 < rest → lowest_in k from s ≡ Some (from + count_trailing_zeros 32 rest)
  next_here l b p = go (count_trailing_zeros 32 rest) (trailing_lowest 32 rest (omega (arith, shr_le (get_or s (from / 32) 0) (from % 32))) p)
    where
      inside : (z : ℕ) → bit rest z ≡ true → Dec (from % 32 + z < 32) → from % 32 + z < 32
      inside z e (yes h) = h
      inside z e (no h) =
          absurd (true≢false (sym e ∙ bit_shift (get_or s (from / 32) 0) (from % 32) z ∙ bit_high 32 (get_or s (from / 32) 0) (from % 32 + z) b (omega arith)))

      go : (z : ℕ) → IsLowest (bit rest) 32 z → lowest_in k from s ≡ Some (from + z)
      go z f =
          let h : from % 32 + z < 32 = inside z f.passes (dec_lt (from % 32 + z) 32) in
          lowest_in_only k from s (Some (from + z)) (record {
            below = omega arith;
            above = omega arith;
            inside = in_rest z h ∙ f.passes;
            first = λ β m n. earlier h β m n;
          })
        where
          earlier : from % 32 + z < 32 → (β : ℕ) → from ≤ β → β < from + z → member s β ≡ false
          earlier h β m n =
              let q : β ≡ from + (β - from) = omega arith in
              ap (member s) q ∙ in_rest (β - from) (omega arith) ∙ f.first (β - from) (omega arith)

-- the lowest member as the lowest that passes a test below n, where the test is membership, and beyond n or beyond the words there is
-- nothing
pub lowest_as : (k n : ℕ) (s : List ℕ) (test : ℕ → Bool) → ((γ : ℕ) → γ < n → γ < 32 * k → member s γ ≡ test γ)
    → ((γ : ℕ) → 32 * k ≤ γ → γ < n → test γ ≡ false) → ((γ : ℕ) → n ≤ γ → γ < 32 * k → member s γ ≡ false) → lowest_in k 0 s ≡ lowest test n
lowest_as k n s test same beyond nothing = lowest_in_only k 0 s (lowest test n) (go (lowest test n) (lowest_is test n))
  where
    go : (o : Option ℕ) → Found test n o → FoundIn k 0 s o
    go None f = λ β l h. out β h (dec_lt β n)
      where
        out : (β : ℕ) → β < 32 * k → Dec (β < n) → member s β ≡ false
        out β h (yes m) = same β m h ∙ f β m
        out β h (no m) = nothing β (omega arith) h
    go (Some γ) f = at (dec_lt γ (32 * k))
      where
        at : Dec (γ < 32 * k) → LowestIn k 0 s γ
        at (yes h) =
            let l = f.below in
            record { below = h; above = omega arith; inside = same γ l h ∙ f.passes; first = λ β m g. same β (omega arith) (omega arith) ∙ f.first β g }
        at (no h) = absurd (true≢false (sym f.passes ∙ beyond γ (omega arith) f.below))

-- what a walk finds
module _ (k from : ℕ) (s : List ℕ) (r : Option ℕ) (e : r ≡ lowest_in k from s) where
  found : FoundIn k from s r
  found = subst (FoundIn k from s) (sym e) (lowest_in_is k from s)

  pub found_at : (α : ℕ) → r ≡ Some α → LowestIn k from s α
  found_at α h = subst (FoundIn k from s) h found

  pub found_none : r ≡ None → (β : ℕ) → from ≤ β → β < 32 * k → member s β ≡ false
  found_none h = subst (FoundIn k from s) h found
