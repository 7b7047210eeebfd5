-- Packets of classes are numbered over the mentioned fields in their order, and an unmentioned field shows 0. Assumes nothing.
use Prim.Native.Nat.{ℕ, suc, ◌<◌, ◌+◌, ◌*◌}
use native.Mathlib.Nat.{zero-mul, zero-add}
use native.Mathlib.Omega.{arith}
use mathlib.Core.Bool.{Bool, true, false, cond}
use mathlib.Core.List.{List, [], ◌∷◌}
use mathlib.Core.Path.{◌≡◌, refl, ap, ap₂, ◌∙◌}
use Rattle.packet.specs.Sizes.{product}
use Rattle.packet.specs.Packets.{number_of, values_of, Declared}
use Rattle.packet.proofs.Packets.{values_declared}
use Rattle.policy.specs.NodeLists.{NodeLists}
use Rattle.policy.specs.Mentions.{mentioned, core_from, core_sizes}
use Rattle.classes.specs.Classing.{each_field, class_number, shown_packet}
use Rattle.classes.specs.Mentioned.{by_mention, mentioned_of}

module _ (Ls : List NodeLists) where
  shown_same : (m : Bool) (s x : ℕ) → x < cond m s 1 → cond m x 0 ≡ x
  shown_same true s x h = refl
  shown_same false s x h = omega arith

  from_shown : (f : ℕ) (sizes xs : List ℕ) → Declared (core_from Ls f sizes) xs → each_field (λ g x. cond (mentioned Ls g) x 0) f xs ≡ xs
  unfolding Declared each_field core_from
  from_shown f [] [] d = refl
  from_shown f [] (x ∷ xs) d = absurd d
  from_shown f (s ∷ ss) [] d = absurd d
  from_shown f (s ∷ ss) (x ∷ xs) d = ap₂ (λ (y : ℕ) (ys : List ℕ). y ∷ ys) (shown_same (mentioned Ls f) s x d.0) (from_shown (suc f) ss xs d.1)

  -- the values shown for a packet are its values over the core sizes
  pub mention_shown : (sizes : List ℕ) (β : ℕ) → β < product (core_sizes Ls sizes) → shown_packet (by_mention Ls sizes) β ≡ values_of (core_sizes Ls sizes) β
  unfolding shown_packet core_sizes
  mention_shown sizes β h = from_shown 0 sizes _ (values_declared (core_from Ls 0 sizes) β h)

  -- ---- the numbers over the mentioned fields

  from_count : (f : ℕ) (sizes : List ℕ) → product (core_from Ls f sizes) ≡ product (mentioned_of Ls f sizes)
  unfolding core_from mentioned_of product
  from_count f [] = refl
  from_count f (s ∷ ss) = go (mentioned Ls f) (from_count (suc f) ss)
    where
      go : (b : Bool) → product (core_from Ls (suc f) ss) ≡ product (mentioned_of Ls (suc f) ss) → cond b s 1 * product (core_from Ls (suc f) ss) ≡ product (cond b (s ∷ mentioned_of Ls (suc f) ss) (mentioned_of Ls (suc f) ss))
      go true same = ap (λ n. s * n) same
      go false same = omega (arith, same)

  from_number : (f : ℕ) (sizes vs : List ℕ) → Declared sizes vs → number_of (core_from Ls f sizes) (each_field (λ g v. cond (mentioned Ls g) v 0) f vs) ≡ number_of (mentioned_of Ls f sizes) (mentioned_of Ls f vs)
  unfolding core_from mentioned_of each_field number_of Declared
  from_number f [] [] d = refl
  from_number f [] (v ∷ vs) d = absurd d
  from_number f (s ∷ ss) [] d = absurd d
  from_number f (s ∷ ss) (v ∷ vs) d = go (mentioned Ls f) (from_number (suc f) ss vs d.1) (from_count (suc f) ss)
    where
      rest : ℕ
      rest = number_of (core_from Ls (suc f) ss) (each_field (λ g x. cond (mentioned Ls g) x 0) (suc f) vs)

      go : (b : Bool) → rest ≡ number_of (mentioned_of Ls (suc f) ss) (mentioned_of Ls (suc f) vs) → product (core_from Ls (suc f) ss) ≡ product (mentioned_of Ls (suc f) ss)
          → cond b v 0 * product (core_from Ls (suc f) ss) + rest
          ≡ number_of (cond b (s ∷ mentioned_of Ls (suc f) ss) (mentioned_of Ls (suc f) ss)) (cond b (v ∷ mentioned_of Ls (suc f) vs) (mentioned_of Ls (suc f) vs))
      go true same count = ap₂ (λ (m n : ℕ). v * m + n) count same
      go false same count = ap (λ n. n + rest) (zero-mul (product (core_from Ls (suc f) ss))) ∙ zero-add rest ∙ same

  -- N is "the product of the mentioned fields' sizes, 1 if there are none"
  pub mentioned_count : (sizes : List ℕ) → product (core_sizes Ls sizes) ≡ product (mentioned_of Ls 0 sizes)
  unfolding core_sizes
  mentioned_count sizes = from_count 0 sizes

  -- "rows and traces number packets over the mentioned fields in their order"
  pub mentioned_number : (sizes vs : List ℕ) → Declared sizes vs → class_number (by_mention Ls sizes) vs ≡ number_of (mentioned_of Ls 0 sizes) (mentioned_of Ls 0 vs)
  unfolding class_number core_sizes
  mentioned_number sizes vs d = from_number 0 sizes vs d
