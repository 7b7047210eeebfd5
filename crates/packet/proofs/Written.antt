-- Laws of what is written first into a list that keeps its contents beyond.
use mathlib.Core.Path.{◌≡◌, refl, sym, ◌∙◌, ap}
use mathlib.Core.List.{List, [], ◌∷◌, ◌++◌, append-nil}
use Prim.Native.Nat.{suc, ◌≤◌, ◌<◌}
use native.Mathlib.Omega.{arith}
use lib.ListN.{length, set, take, drop, length-append, length-drop, drop_of_length-le}
use lib.Seq.{drop-cons, take-append_seam, set-append_seam, append_snoc}
use Rattle.packet.specs.Written.{written}

module _ {A : Type 0} where
  -- nothing written
  pub written_none : (old : List A) → written [] old ≡ old
  unfolding written
  written_none old = refl

  -- the whole list written
  pub written_whole : (xs old : List A) → length old ≤ length xs → written xs old ≡ xs
  unfolding written
  written_whole xs old h = rw (drop_of_length-le old h) (append-nil xs)

  pub length_written : (xs old : List A) → length xs ≤ length old → length (written xs old) ≡ length old
  unfolding written
  length_written xs old h = length-append xs (drop (length xs) old) ∙ omega (arith, length-drop (length xs) old)

  -- one more entry, at the place after the last
  pub written_snoc : (xs old : List A) (x : A) → length xs < length old → written (xs ++ (x ∷ [])) old ≡ set (written xs old) (length xs) x
  unfolding written
  written_snoc xs old x h =
      append_snoc xs x _
      ∙ ap (λ n. xs ++ x ∷ drop n old) {y = suc (length xs)} (length-append xs (x ∷ []) ∙ omega arith)
      ∙ sym (ap (λ l. set (xs ++ l) (length xs) x) (drop-cons old (length xs) x h) ∙ set-append_seam xs _ _ x)

  -- the first entries are those written
  pub take_written : (xs old : List A) → take (length xs) (written xs old) ≡ xs
  unfolding written
  take_written xs old = take-append_seam xs _
