-- Packets of classes are numbered over the mentioned fields in their order, and an unmentioned field shows 0 (document 02, A.6). Assumes nothing.
use Prim.Native.Nat.{ℕ, suc, ◌<◌, ◌+◌, ◌*◌}
use native.Mathlib.Nat.{zero-mul, zero-add}
use native.Mathlib.Omega.{arith}
use mathlib.Core.Bool.{Bool, true, false, cond}
use mathlib.Core.List.{List, [], ◌∷◌}
use mathlib.Core.Path.{◌≡◌, refl, sym, ap, ap₂, ◌∙◌}
use lib.ListN.{length, get_or}
use borrow.Author.Tests.{lt-ltb, le-ltb}
use Rattle.packet.specs.Sizes.{product}
use Rattle.packet.specs.Packets.{number_of, Declared}
use Rattle.policy.specs.NodeLists.{NodeLists}
use Rattle.policy.specs.NamedValues.{named_values, class_count, core_from, core_sizes}
use Rattle.classes.specs.Classing.{each_field, class_number}
use Rattle.classes.specs.Named.{place_in, unnamed_from, shown_in, by_name, is_some, mentioned, mentioned_of}

-- a field that nobody mentions has one class, of which every value is, and which shows 0
one_class : (names : List ℕ) (s : ℕ) → is_some names ≡ false → 0 < s → class_count s names ≡ 1
unfolding is_some class_count
one_class [] s e h = rw (lt-ltb 0 s h)
one_class (v ∷ vs) s e h = cc

pub unmentioned_class : (names : List ℕ) (v : ℕ) → is_some names ≡ false → place_in v names ≡ 0
unfolding is_some place_in
unmentioned_class [] v e = refl
unmentioned_class (w ∷ ws) v e = cc

pub unmentioned_shown : (names : List ℕ) (x : ℕ) → is_some names ≡ false → shown_in names x ≡ 0
unfolding is_some shown_in unnamed_from
unmentioned_shown [] x e = rw (le-ltb x 0 (omega arith))
unmentioned_shown (v ∷ vs) x e = cc

module _ (Ls : List NodeLists) where
  abbrev class : ℕ → ℕ → ℕ
  class f v = place_in v (named_values Ls f)

  from_count : (f : ℕ) (sizes vs : List ℕ) → Declared sizes vs → product (core_from Ls f sizes) ≡ product (mentioned_of Ls f (core_from Ls f sizes))
  unfolding core_from mentioned_of product Declared mentioned
  from_count f [] vs d = refl
  from_count f (s ∷ ss) [] d = absurd d
  from_count f (s ∷ ss) (v ∷ vs) d = go (is_some (named_values Ls f)) refl (from_count (suc f) ss vs d.1)
    where
      rest : List ℕ
      rest = mentioned_of Ls (suc f) (core_from Ls (suc f) ss)

      go : (b : Bool) → is_some (named_values Ls f) ≡ b → product (core_from Ls (suc f) ss) ≡ product rest
          → class_count s (named_values Ls f) * product (core_from Ls (suc f) ss) ≡ product (cond b (class_count s (named_values Ls f) ∷ rest) rest)
      go true e same = ap (λ n. class_count s (named_values Ls f) * n) same
      go false e same = rw (one_class (named_values Ls f) s e (omega (arith, d.0))) (omega (arith, same))

  from_number : (f : ℕ) (sizes vs : List ℕ) → Declared sizes vs → number_of (core_from Ls f sizes) (each_field class f vs) ≡ number_of (mentioned_of Ls f (core_from Ls f sizes)) (mentioned_of Ls f (each_field class f vs))
  unfolding core_from mentioned_of each_field number_of Declared mentioned
  from_number f [] [] d = refl
  from_number f [] (v ∷ vs) d = absurd d
  from_number f (s ∷ ss) [] d = absurd d
  from_number f (s ∷ ss) (v ∷ vs) d = go (is_some (named_values Ls f)) refl (from_number (suc f) ss vs d.1) (from_count (suc f) ss vs d.1)
    where
      counts : List ℕ
      counts = core_from Ls (suc f) ss

      classes : List ℕ
      classes = each_field class (suc f) vs

      go : (b : Bool) → is_some (named_values Ls f) ≡ b → number_of counts classes ≡ number_of (mentioned_of Ls (suc f) counts) (mentioned_of Ls (suc f) classes) → product counts ≡ product (mentioned_of Ls (suc f) counts)
          → class f v * product counts + number_of counts classes
          ≡ number_of (cond b (class_count s (named_values Ls f) ∷ mentioned_of Ls (suc f) counts) (mentioned_of Ls (suc f) counts)) (cond b (class f v ∷ mentioned_of Ls (suc f) classes) (mentioned_of Ls (suc f) classes))
      go true e same count = ap₂ (λ (m n : ℕ). class f v * m + n) count same
      go false e same count =
          ap (λ x. x * product counts + number_of counts classes) (unmentioned_class (named_values Ls f) v e)
          ∙ ap (λ n. n + number_of counts classes) (zero-mul (product counts))
          ∙ zero-add (number_of counts classes)
          ∙ same

  -- N is "the product of the class counts" of the mentioned fields, 1 if there are none; vs is any declared packet
  pub mentioned_count : (sizes vs : List ℕ) → Declared sizes vs → product (core_sizes Ls sizes) ≡ product (mentioned_of Ls 0 (core_sizes Ls sizes))
  unfolding core_sizes
  mentioned_count sizes vs d = from_count 0 sizes vs d

  -- "rows and traces number packets over the mentioned fields in their order"
  pub mentioned_number : (sizes vs : List ℕ) → Declared sizes vs
      → class_number (by_name Ls sizes) vs ≡ number_of (mentioned_of Ls 0 (core_sizes Ls sizes)) (mentioned_of Ls 0 (each_field (by_name Ls sizes).class 0 vs))
  unfolding class_number core_sizes
  mentioned_number sizes vs d = from_number 0 sizes vs d
