-- The ways an append ends: nothing to append, no room, the row appended.
use mathlib.Core.Path.{◌≡◌, refl, sym, ◌∙◌, ap, ap₂, subst}
use mathlib.Core.Bool.{Bool, true, false, ◌&&◌, ◌||◌, not}
use mathlib.Core.List.{List, [], ◌∷◌}
use Prim.Native.Nat.{ℕ, suc, ◌+◌, ◌≤◌, ◌<◌}
use native.Mathlib.Numerals.{add-one}
use native.Mathlib.Omega.{arith}
use lib.Dec.{ltb}
use lib.ListN.{length, get_or, set, replicate, length-set}
use lib.Seq.{get_or-set_same, get_or-set_other}
use borrow.Author.Tests.{eq-eqb, lt-ltb, le-ltb}
use Rattle.index.specs.declared.Row.{Row}
use Rattle.index.specs.declared.Columns.{Columns}
use Rattle.index.specs.Lent.{rows_of}
use Rattle.std.specs.Prelude.{Option, Some, None, Result, Ok, Err}
use Rattle.std.specs.Result.{result_err}
use Rattle.index.specs.Columns.{policy_count, EvenColumns, row_at, masks_agree, rows_agree, all_zero, listed_below}
use Rattle.index.specs.Index.{VacantAt, LookEnds, Indexed, RoomFor, trees_with}
use Rattle.index.specs.Appending.{is_new, NewPlaced, Lists, append_answer, rows_after, new_if, is_added, Appending}
use Rattle.index.proofs.Growth.{indexed_more}
use Rattle.index.proofs.Lent.{read_rows}

module _ {f : ℕ → Row} {count n : ℕ} {trees : List ℕ} {r : Row} where
  new_nowhere : is_new f n r ≡ false → NewPlaced f count n trees r None
  new_nowhere e = record { at = λ slot q. let z : ◌≡◌ {A = ℕ} 0 1 = cc in absurd (omega arith); nowhere = λ q. e }

  module _ (dead : Bool) (isDead : dead ≡ masks_agree policy_count r.states (replicate policy_count 0)) where
    pub new_dead : dead ≡ true → NewPlaced f count n trees r None
    unfolding is_new all_zero
    new_dead e = new_nowhere (ap (λ t. not (t || listed_below f n r)) (sym isDead ∙ e))

    module _ (living : dead ≡ false) where
      pub new_placed : (answer : Result ℕ ℕ) → LookEnds f count n trees r answer → NewPlaced f count n trees r (result_err answer)
      unfolding is_new all_zero
      new_placed (Ok i) p = new_nowhere (ap₂ (λ s t. not (s || t)) (sym isDead ∙ living) (p.listed i refl).listed)
      new_placed (Err slot) p =
          let v = p.vacant slot refl in
          record {
            at = λ s q. let here : slot ≡ s = cc in (ap₂ (λ s t. not (s || t)) (sym isDead ∙ living) v.unlisted, subst (VacantAt f count n trees r) here v);
            nowhere = λ q. let z : ◌≡◌ {A = ℕ} 0 1 = cc in absurd (omega arith);
          }

-- the columns that the row lists are read as
pub placed_in : (columns : Columns) {P L R trees : List ℕ} {count n : ℕ} {r : Row} {answer : Option ℕ} → columns.packets.now ≡ P → columns.left.now ≡ L → columns.right.now ≡ R
    → NewPlaced (rows_of columns) count n trees r answer → NewPlaced (row_at P L R) count n trees r answer
placed_in columns {trees = trees} {count} {n} {r} {answer} p l q placed = subst (λ f. NewPlaced f count n trees r answer) (read_rows columns p l q) placed

-- the columns with row r put at n
module _ (P L R : List ℕ) (n : ℕ) (r : Row) where
  pub put_below : (i : ℕ) → i < n → row_at P L R i ≡ row_at (set P n r.packet) (set L n (get_or r.states 0 0)) (set R n (get_or r.states 1 0)) i
  put_below i l =
      let other : i ≡ n → ⊥ = λ e. omega arith in
      λ k.
      record {
        packet = sym (get_or-set_other P n i r.packet 0 other) k;
        states = sym (get_or-set_other L n i (get_or r.states 0 0) 0 other) k ∷ sym (get_or-set_other R n i (get_or r.states 1 0) 0 other) k ∷ [];
      }

  module _ (t : EvenColumns P L R) where
    put_table : EvenColumns (set P n r.packet) (set L n (get_or r.states 0 0)) (set R n (get_or r.states 1 0))
    put_table =
        record {
          left = length-set L n _ ∙ t.left ∙ sym (length-set P n _);
          right = length-set R n _ ∙ t.right ∙ sym (length-set P n _);
        }

    pub put_here : n < length P → rows_agree (row_at (set P n r.packet) (set L n (get_or r.states 0 0)) (set R n (get_or r.states 1 0)) n) r ≡ true
    unfolding rows_agree masks_agree
    put_here l =
        ap₂ ◌&&◌ (eq-eqb _ _ (get_or-set_same P n r.packet 0 l))
        (ap₂ ◌&&◌ (eq-eqb _ _ (get_or-set_same L n (get_or r.states 0 0) 0 (subst (λ m. n < m) (sym t.left) l)))
        (eq-eqb _ _ (get_or-set_same R n (get_or r.states 1 0) 0 (subst (λ m. n < m) (sym t.right) l))))

pub new_if_true : (b : Bool) (new was : List ℕ) → b ≡ true → new_if b new was ≡ new
unfolding new_if
new_if_true b new was e = ap (λ t. new_if t new was) e

pub new_if_false : (b : Bool) (new was : List ℕ) → b ≡ false → new_if b new was ≡ was
unfolding new_if
new_if_false b new was e = ap (λ t. new_if t new was) e

module _ (x : Lists) (count n : ℕ) (r : Row) (parent : ℕ) (I : Indexed x.packets x.left x.right count n x.trees) where
  abbrev new : Bool
  new = is_new (row_at x.packets x.left x.right) n r

  -- nothing is appended
  kept : (answer : Option ℕ) → answer ≡ append_answer new (ltb n (length x.packets)) n → is_added x n r ≡ false → Appending x x count n r parent answer
  unfolding rows_after
  kept answer a e =
      record {
        answers = a;
        packets = sym (new_if_false _ _ _ e);
        left = sym (new_if_false _ _ _ e);
        right = sym (new_if_false _ _ _ e);
        parents = sym (new_if_false _ _ _ e);
        trees = sym (new_if_false _ _ _ e);
        indexed = subst (λ b. Indexed x.packets x.left x.right count (rows_after b n) x.trees) (sym e) I;
      }

  pub append_listed : new ≡ false → Appending x x count n r parent (Some n)
  unfolding append_answer is_added
  append_listed e = kept (Some n) (ap (λ t. append_answer t (ltb n (length x.packets)) n) (sym e)) (ap (λ t. t && ltb n (length x.packets)) e)

  pub append_full : new ≡ true → length x.packets ≤ n → Appending x x count n r parent None
  unfolding append_answer is_added
  append_full e l = kept None (ap₂ (λ s t. append_answer s t n) (sym e) (sym (le-ltb n (length x.packets) l))) (ap₂ ◌&&◌ e (le-ltb n (length x.packets) l))

  pub append_more : new ≡ true → n < length x.packets → RoomFor x.packets n 1 x.trees → r.packet < count → (slot : ℕ) → VacantAt (row_at x.packets x.left x.right) count n x.trees r slot → (y : Lists)
      → y.packets ≡ set x.packets n r.packet → y.left ≡ set x.left n (get_or r.states 0 0) → y.right ≡ set x.right n (get_or r.states 1 0)
      → y.parents ≡ set x.parents n parent → y.trees ≡ set x.trees slot (n + 1)
      → Appending x y count n r parent (Some (n + 1))
  unfolding append_answer is_added rows_after trees_with
  append_more e l free small slot W y isP isL isR isQ at =
      let isT : y.trees ≡ set x.trees slot (suc n) = at ∙ ap (set x.trees slot) (add-one n) in
      let room = lt-ltb n (length x.packets) l in
      let added : is_added x n r ≡ true = ap₂ ◌&&◌ e room in
      record {
        answers = ap Some (add-one n) ∙ ap₂ (λ s t. append_answer s t n) (sym e) (sym room);
        packets = isP ∙ sym (new_if_true _ _ _ added);
        left = isL ∙ sym (new_if_true _ _ _ added);
        right = isR ∙ sym (new_if_true _ _ _ added);
        parents = isQ ∙ sym (new_if_true _ _ _ added);
        trees = isT ∙ ap (λ s. set x.trees s (suc n)) W.reached ∙ sym (new_if_true _ _ _ added);
        indexed =
            rw (added, isP, isL, isR, isT)
            (indexed_more I _ _ _ r (put_table x.packets x.left x.right n r I.table) (length-set x.packets n _)
            (put_below x.packets x.left x.right n r) (put_here x.packets x.left x.right n r I.table l) small l (free.room n l (omega arith)) slot W);
      }
