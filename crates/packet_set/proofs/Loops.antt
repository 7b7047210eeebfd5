-- A loop over the first words of a list: the words below i are done, the others as they were. Assumes nothing.
use Prim.Native.Nat.{ℕ, suc, ◌+◌, ◌≤◌, ◌<◌}
use mathlib.Core.Path.{◌≡◌, sym, ap, ◌∙◌}
use mathlib.Core.List.{List}
use native.Mathlib.Omega.{arith}
use native.Mathlib.Numerals.{add-one}
use lib.ListN.{length, set, length-set}

-- `model i` is the list with i words done
pub record Loop (model : ℕ → List ℕ) (words size : ℕ) (now : List ℕ) (i : ℕ) : Type 0 where
  pub at : i ≤ words
  pub long : length now ≡ size
  pub done : now ≡ model i

module _ (model : ℕ → List ℕ) (words size : ℕ) (now : List ℕ) where
  pub none_done : now ≡ model 0 → length now ≡ size → Loop model words size now 0
  none_done e l = record { at = omega arith; long = l; done = e }

  pub one_done : (i p v : ℕ) → Loop model words size now i → i < words → set now p v ≡ model (suc i) → Loop model words size (set now p v) (i + 1)
  one_done i p v w l e = record { at = omega arith; long = length-set now p v ∙ w.long; done = e ∙ ap model (sym (add-one i)) }

  pub all_done : (i : ℕ) → Loop model words size now i → words ≤ i → now ≡ model words
  all_done i w l =
      let e : i ≡ words = omega (arith, w.at) in
      w.done ∙ ap model e
