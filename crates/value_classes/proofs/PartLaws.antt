-- The keys of one field among ascending keys: they stand in a part, between two ranks. Assumes nothing.
use Prim.Native.Nat.{ℕ, zero, suc, ◌<◌, ◌≤◌, ◌+◌, ◌-◌, ◌*◌}
use native.Mathlib.Omega.{arith}
use mathlib.Core.List.{List, [], ◌∷◌, map}
use mathlib.Core.Logic.{inl, inr, ⊎_elim, ◌↔◌}
use mathlib.Core.Path.{◌≡◌, refl, sym, ap, ◌∙◌, subst}
use lib.Dec.{ltb}
use lib.ListN.{take, drop, length-take}
use lib.Seq.{slice, take-nil, drop-nil}
use borrow.Author.Tests.{lt-ltb}
use Rattle.policy.specs.InnerEach.{Each}
use Rattle.policy.specs.InnerAscending.{Ascending, Among}
use Rattle.policy.specs.NodeLists.{one}
use Rattle.policy.proofs.EachLaws.{each_map}
use Rattle.policy.proofs.Ascending.{each_among, ascending_unique}
use Rattle.packet.proofs.Tests.{lt_or_le}
use Rattle.ascending.specs.Sorting.{count_below}
use Rattle.ascending.proofs.RankLaws.{count_below_few, count_below_none}
use Rattle.value_classes.specs.Names.{key_of}

-- ---- the numbers below a bound come first

below_nil : (k : ℕ) → count_below k [] ≡ 0
unfolding count_below
below_nil k = refl

below_cons : (k x : ℕ) (xs : List ℕ) → count_below k (x ∷ xs) ≡ one (ltb x k) + count_below k xs
unfolding count_below
below_cons k x xs = refl

pub below_first : (k x : ℕ) (xs : List ℕ) → x < k → count_below k (x ∷ xs) ≡ suc (count_below k xs)
unfolding one
below_first k x xs h = omega (arith, below_cons k x xs, ap one (lt-ltb x k h))

-- none is below the first of ascending numbers
from_first : (k x : ℕ) (xs : List ℕ) → Ascending (x ∷ xs) → k ≤ x → Each (λ y. k ≤ y) (x ∷ xs)
unfolding Ascending Each
from_first k x xs a h = (h, each_map (λ y. x < y) (λ y. k ≤ y) xs (λ y l. omega arith) a.0)

take_each : (P : ℕ → Type 0) (n : ℕ) (xs : List ℕ) → Each P xs → Each P (take n xs)
unfolding Each
take_each P zero xs e = tt
take_each P (suc n) [] e = tt
take_each P (suc n) (x ∷ xs) e = (e.0, take_each P n xs e.1)

take_ascending : (n : ℕ) (xs : List ℕ) → Ascending xs → Ascending (take n xs)
unfolding Ascending
take_ascending zero xs a = tt
take_ascending (suc n) [] a = tt
take_ascending (suc n) (x ∷ xs) a = (take_each _ n xs a.0, take_ascending n xs a.1)

drop_ascending : (n : ℕ) (xs : List ℕ) → Ascending xs → Ascending (drop n xs)
unfolding Ascending
drop_ascending zero xs a = a
drop_ascending (suc n) [] a = tt
drop_ascending (suc n) (x ∷ xs) a = drop_ascending n xs a.1

lower_among : (b : ℕ) (xs : List ℕ) → Ascending xs → (x : ℕ) → Among x (take (count_below b xs) xs) ↔ (Among x xs × (x < b))
unfolding Ascending Among
lower_among b [] a x = rw take-nil (λ m. absurd m, λ m. absurd m.0)
lower_among b (y ∷ ys) a x = ⊎_elim (low (lower_among b ys a.1 x)) high (lt_or_le y b)
  where
    low : Among x (take (count_below b ys) ys) ↔ (Among x ys × (x < b)) → y < b → Among x (take (count_below b (y ∷ ys)) (y ∷ ys)) ↔ (Among x (y ∷ ys) × (x < b))
    low rest h =
        rw (below_first b y ys h) (
          λ m. ⊎_elim (λ (e : x ≡ y). (inl e, omega arith)) (λ k. (inr (rest.0 k).0, (rest.0 k).1)) m,
          λ m. ⊎_elim (λ (e : x ≡ y). inl e) (λ k. inr (rest.1 (k, m.1))) m.0,
        )

    high : b ≤ y → Among x (take (count_below b (y ∷ ys)) (y ∷ ys)) ↔ (Among x (y ∷ ys) × (x < b))
    high h =
        rw (count_below_none b y ys a h)
        (λ m. absurd m, λ m. let l = each_among (λ z. b ≤ z) (y ∷ ys) (from_first b y ys a h) x m.0 in let below = m.1 in omega arith)

higher_among : (b : ℕ) (xs : List ℕ) → Ascending xs → (x : ℕ) → Among x (drop (count_below b xs) xs) ↔ (Among x xs × (b ≤ x))
unfolding Ascending Among
higher_among b [] a x = rw drop-nil (λ m. absurd m, λ m. absurd m.0)
higher_among b (y ∷ ys) a x = ⊎_elim (low (higher_among b ys a.1 x)) high (lt_or_le y b)
  where
    low : Among x (drop (count_below b ys) ys) ↔ (Among x ys × (b ≤ x)) → y < b → Among x (drop (count_below b (y ∷ ys)) (y ∷ ys)) ↔ (Among x (y ∷ ys) × (b ≤ x))
    low rest h =
        rw (below_first b y ys h)
        (λ m. (inr (rest.0 m).0, (rest.0 m).1), λ m. ⊎_elim (λ (e : x ≡ y). let above = m.1 in let z : ⊥ = omega arith in absurd z) (λ k. rest.1 (k, m.1)) m.0)

    high : b ≤ y → Among x (drop (count_below b (y ∷ ys)) (y ∷ ys)) ↔ (Among x (y ∷ ys) × (b ≤ x))
    high h =
        rw (count_below_none b y ys a h)
        (λ m. (m, each_among (λ z. b ≤ z) (y ∷ ys) (from_first b y ys a h) x m), λ m. m.0)

-- the numbers below a also come first among those below b
lower_rank : (a b : ℕ) (xs : List ℕ) → Ascending xs → a ≤ b → count_below a (take (count_below b xs) xs) ≡ count_below a xs
unfolding Ascending
lower_rank a b [] asc h = rw take-nil refl
lower_rank a b (y ∷ ys) asc h = ⊎_elim (low (lower_rank a b ys asc.1 h)) high (lt_or_le y b)
  where
    low : count_below a (take (count_below b ys) ys) ≡ count_below a ys → y < b → count_below a (take (count_below b (y ∷ ys)) (y ∷ ys)) ≡ count_below a (y ∷ ys)
    low rest l =
        ap (λ n. count_below a (take n (y ∷ ys))) (below_first b y ys l)
        ∙ below_cons a y _
        ∙ ap (λ n. one (ltb y a) + n) rest
        ∙ sym (below_cons a y ys)

    high : b ≤ y → count_below a (take (count_below b (y ∷ ys)) (y ∷ ys)) ≡ count_below a (y ∷ ys)
    high l =
        ap (λ n. count_below a (take n (y ∷ ys))) (count_below_none b y ys asc l)
        ∙ below_nil a
        ∙ sym (count_below_none a y ys asc (omega arith))

between_among : (a b : ℕ) (xs : List ℕ) → Ascending xs → a ≤ b → (x : ℕ)
    → Among x (slice (count_below a xs) (count_below b xs) xs) ↔ (Among x xs × ((a ≤ x) × (x < b)))
between_among a b xs asc h x =
    subst (λ n. Among x (drop n lower) ↔ (Among x xs × ((a ≤ x) × (x < b)))) (lower_rank a b xs asc h)
    (λ m. ((first.0 (last.0 m).0).0, ((last.0 m).1, (first.0 (last.0 m).0).1)), λ m. last.1 (first.1 (m.0, m.1.1), m.1.0))
  where
    lower : List ℕ
    lower = take (count_below b xs) xs

    first : Among x lower ↔ (Among x xs × (x < b))
    first = lower_among b xs asc x

    last : Among x (drop (count_below a lower) lower) ↔ (Among x lower × (a ≤ x))
    last = higher_among a lower (take_ascending (count_below b xs) xs asc) x

pub rank_rises : (a b : ℕ) (xs : List ℕ) → Ascending xs → a ≤ b → count_below a xs ≤ count_below b xs
rank_rises a b xs asc h =
    omega (arith, lower_rank a b xs asc h, count_below_few a (take (count_below b xs) xs), length-take (count_below b xs) xs)

-- ---- the keys of a field's values

-- those among ascending keys
abbrev pub field_keys : ℕ → List ℕ → List ℕ
field_keys f keys = slice (count_below (key_of f 0) keys) (count_below (key_of (suc f) 0) keys) keys

module _ (f : ℕ) where
  pub keys_ascending : (names : List ℕ) → Ascending names → Ascending (map (key_of f) names)
  unfolding Ascending Each
  keys_ascending [] a = tt
  keys_ascending (v ∷ vs) a = (above vs a.0, keys_ascending vs a.1)
    where
      above : (ws : List ℕ) → Each (λ w. v < w) ws → Each (λ k. key_of f v < k) (map (key_of f) ws)
      above [] e = tt
      above (w ∷ ws) e = (let l = e.0 in omega arith, above ws e.1)

  keys_among : (v : ℕ) (names : List ℕ) → Among (key_of f v) (map (key_of f) names) ↔ Among v names
  unfolding Among
  keys_among v [] = (λ m. m, λ m. m)
  keys_among v (w ∷ ws) = (
    λ m. ⊎_elim (λ (e : key_of f v ≡ key_of f w). inl (omega arith)) (λ k. inr ((keys_among v ws).0 k)) m,
    λ m. ⊎_elim (λ (e : v ≡ w). inl (ap (key_of f) e)) (λ k. inr ((keys_among v ws).1 k)) m,
  )

  keys_from : (names : List ℕ) → Each (λ k. key_of f 0 ≤ k) (map (key_of f) names)
  unfolding Each
  keys_from [] = tt
  keys_from (v ∷ vs) = (omega arith, keys_from vs)

  -- the keys of a field's values are a part of ascending keys that has a key for each of these values and for no other
  pub field_part : (keys names : List ℕ) → Ascending keys → Ascending names → Each (λ v. v < 65536) names
      → ((v : ℕ) → v < 65536 → Among (key_of f v) keys ↔ Among v names)
      → field_keys f keys ≡ map (key_of f) names
  field_part keys names asc order small same =
      ascending_unique (field_keys f keys) (map (key_of f) names)
      (drop_ascending (count_below (key_of f 0) keys) _ (take_ascending (count_below (key_of (suc f) 0) keys) keys asc))
      (keys_ascending names order) (λ x. (to x, from x))
    where
      part : (x : ℕ) → Among x (field_keys f keys) ↔ (Among x keys × ((key_of f 0 ≤ x) × (x < key_of (suc f) 0)))
      part = between_among (key_of f 0) (key_of (suc f) 0) keys asc (omega arith)

      value : (x : ℕ) → key_of f 0 ≤ x → x ≡ key_of f (x - f * 65536)
      value x l = omega arith

      to : (x : ℕ) → Among x (field_keys f keys) → Among x (map (key_of f) names)
      to x m =
          let (a, (l, h)) = (part x).0 m in
          let e = value x l in
          subst (λ k. Among k (map (key_of f) names)) (sym e) ((keys_among _ names).1 ((same (x - f * 65536) (omega arith)).0 (subst (λ k. Among k keys) e a)))

      from : (x : ℕ) → Among x (map (key_of f) names) → Among x (field_keys f keys)
      from x m =
          let l = each_among (λ k. key_of f 0 ≤ k) (map (key_of f) names) (keys_from names) x m in
          let e = value x l in
          let named = (keys_among _ names).0 (subst (λ k. Among k (map (key_of f) names)) e m) in
          let h = each_among (λ v. v < 65536) names small (x - f * 65536) named in
          (part x).1 (subst (λ k. Among k keys) (sym e) ((same (x - f * 65536) h).1 named), (l, omega arith))
