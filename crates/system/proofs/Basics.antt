-- What the laws share: cases of a test, a list that has grown, and induction below a number.
use mathlib.Core.Path.{◌≡◌, refl, sym, ◌∙◌, subst, ap}
use mathlib.Core.List.{List, [], ◌∷◌, ◌++◌, append_assoc, append-nil}
use mathlib.Core.Logic.{◌⊎◌, inl, inr}
use Prim.Native.Nat.{ℕ, zero, suc, ◌+◌, ◌≤◌, ◌<◌}
use native.Mathlib.Nat.{not-suc-le-zero}
use native.Mathlib.Decide.{le_ind}
use native.Mathlib.Omega.{arith}
use lib.ListN.{length, get_or, take, drop, take-append-drop, length-append, get_or-append}
use lib.Seq.{get_or-append_seam, take-append-le}
pub use Rattle.packet.proofs.Tests.{clash, or_true, or_false, and_true, lt_or_le, last_or_before}

-- what holds at i whenever it holds below i holds everywhere
pub induction : (P : ℕ → Type 0) → ((i : ℕ) → ((j : ℕ) → j < i → P j) → P i) → (i : ℕ) → P i
induction P f i = f i (up_to i)
  where
    up_to : (n : ℕ) (j : ℕ) → j < n → P j
    up_to zero j h = absurd (not-suc-le-zero h)
    up_to (suc n) j h = f j (λ k l. up_to n k (omega arith))

module _ {A : Type 0} where
  -- the list ys goes on where xs ends
  pub record Prefix (xs ys : List A) : Type 0 where
    pub more : List A
    pub whole : xs ++ more ≡ ys

  pub prefix_refl : (xs : List A) → Prefix xs xs
  prefix_refl xs = record { more = []; whole = append-nil xs }

  pub prefix_trans : {xs ys zs : List A} → Prefix xs ys → Prefix ys zs → Prefix xs zs
  prefix_trans {xs} p q = record { more = p.more ++ q.more; whole = sym (append_assoc xs p.more q.more) ∙ ap (λ l. l ++ q.more) p.whole ∙ q.whole }

  -- lists that grow step by step
  pub prefix_chain : (f : ℕ → List A) → ((n : ℕ) → Prefix (f n) (f (suc n))) → (n m : ℕ) → n ≤ m → Prefix (f n) (f m)
  prefix_chain f step n m h = le_ind (λ m. Prefix (f n) (f m)) (prefix_refl (f n)) (λ m l p. prefix_trans p (step m)) m h

  pub prefix_snoc : (xs : List A) (x : A) → Prefix xs (xs ++ (x ∷ []))
  prefix_snoc xs x = record { more = x ∷ []; whole = refl }

  pub prefix_length : {xs ys : List A} → Prefix xs ys → length xs ≤ length ys
  prefix_length {xs} {ys} p =
      let e : length xs + length p.more ≡ length ys = sym (length-append xs p.more) ∙ ap length p.whole in
      omega arith

  pub prefix_at : {xs ys : List A} → Prefix xs ys → (d : A) (i : ℕ) → i < length xs → get_or ys i d ≡ get_or xs i d
  prefix_at {xs} {ys} p d i h = subst (λ l. get_or l i d ≡ get_or xs i d) p.whole (get_or-append xs p.more d i h)

  -- the first n
  pub prefix_first : (n : ℕ) (xs : List A) → Prefix (take n xs) xs
  prefix_first n xs = record { more = drop n xs; whole = take-append-drop n xs }

  pub prefix_take : {xs ys : List A} → Prefix xs ys → (n : ℕ) → n ≤ length xs → take n ys ≡ take n xs
  prefix_take {xs} {ys} p n h = subst (λ l. take n l ≡ take n xs) p.whole (take-append-le n xs p.more h)

  -- a place in a list with one more entry: an old one, or the last
  pub data Place (xs : List A) (x d : A) (i : ℕ) : Type 0 where
    old : i < length xs → get_or (xs ++ (x ∷ [])) i d ≡ get_or xs i d → Place xs x d i
    last : i ≡ length xs → get_or (xs ++ (x ∷ [])) i d ≡ x → Place xs x d i

  pub length_snoc : (xs : List A) (x : A) → length (xs ++ (x ∷ [])) ≡ suc (length xs)
  length_snoc xs x = length-append xs (x ∷ []) ∙ omega arith

  pub place : (xs : List A) (x d : A) (i : ℕ) → i < length (xs ++ (x ∷ [])) → Place xs x d i
  place xs x d i h = go (last_or_before (subst (λ n. i < n) (length_snoc xs x) h))
    where
      go : (i < length xs) ⊎ (i ≡ length xs) → Place xs x d i
      go (inl l) = old l (get_or-append xs (x ∷ []) d i l)
      go (inr e) = last e (subst (λ n. get_or (xs ++ (x ∷ [])) n d ≡ x) (sym e) (get_or-append_seam xs x [] d))
