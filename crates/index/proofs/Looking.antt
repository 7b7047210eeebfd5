-- The loop of a look for a row.
use mathlib.Core.Path.{◌≡◌, refl, sym, ◌∙◌, ap, ap₂, subst}
use mathlib.Core.Bool.{Bool, true, false}
use mathlib.Core.List.{List}
use Prim.Native.Nat.{ℕ, suc, ◌+◌, ◌-◌, ◌*◌, ◌≤◌, ◌<◌}
use native.Mathlib.Numerals.{add-one}
use native.Mathlib.Omega.{arith}
use lib.Dec.{ltb}
use lib.ListN.{length, get_or}
use borrow.Author.Tests.{lt-ltb}
use Rattle.index.specs.declared.Row.{Row}
use Rattle.std.specs.Prelude.{Result, Ok, Err}
use Rattle.std.specs.Result.{is_ok}
use Rattle.index.specs.Columns.{row_at, rows_agree, listed_below}
use Rattle.index.specs.Index.{bucket_of, bucket_count, child_slot, side_at, look_from, slot_of, Indexed, ListedAt, VacantAt, LookEnds}
use Rattle.index.proofs.Trees.{ends_none, ends_row, ends_not, look_ends, look_on, side_below, Reached, reached_root, reached_child}

module _ {f : ℕ → Row} {count n : ℕ} {trees : List ℕ} {r : Row} where
  pub at_row : {i : ℕ} → ListedAt f n r i → LookEnds f count n trees r (Ok i)
  at_row {i} a =
      record {
        listed = λ j e. let here : i ≡ j = cc in subst (ListedAt f n r) here a;
        vacant = λ s e. let z : ◌≡◌ {A = ℕ} 0 1 = cc in absurd (omega arith);
      }

  pub at_slot : {slot : ℕ} → VacantAt f count n trees r slot → LookEnds f count n trees r (Err slot)
  at_slot {slot} a =
      record {
        listed = λ i e. let z : ◌≡◌ {A = ℕ} 0 1 = cc in absurd (omega arith);
        vacant = λ s e. let here : slot ≡ s = cc in subst (VacantAt f count n trees r) here a;
      }

  pub found : (answer : Result ℕ ℕ) → LookEnds f count n trees r answer → is_ok answer ≡ listed_below f n r
  found (Ok i) p = sym (p.listed i refl).listed
  found (Err slot) p = sym (p.vacant slot refl).unlisted

-- a look for the row r among the first n of the columns has come to a slot
pub record Looking (P L R : List ℕ) (count n : ℕ) (trees : List ℕ) (r : Row) (slot depth : ℕ) : Type 0 where
  pub reached : Reached (bucket_count trees) n trees depth slot
  pub goes : slot_of (row_at P L R) count trees r ≡ look_from (row_at P L R) (bucket_count trees) trees r (bucket_count trees - depth) depth slot

module _ {P L R trees : List ℕ} {count n : ℕ} (I : Indexed P L R count n trees) (r : Row) (small : r.packet < count) where
  pub looking_start : (b : ℕ) → b ≡ bucket_of (bucket_count trees) count r → b < bucket_count trees → Looking P L R count n trees r b 0
  unfolding slot_of
  looking_start b isBucket inside =
      record {
        reached = reached_root (bucket_count trees) n trees b inside;
        goes = let whole : bucket_count trees ≡ bucket_count trees - 0 = omega arith in ap₂ (λ k b. look_from (row_at P L R) (bucket_count trees) trees r k 0 b) whole (sym isBucket);
      }

  module _ {slot depth : ℕ} (w : Looking P L R count n trees r slot depth) where
    pub looking_slot : slot < length trees
    looking_slot = omega (arith, w.reached.inside, I.room)

    module _ (entry : ℕ) (is_entry : entry ≡ get_or trees slot 0) where
      pub looking_vacant : entry ≡ 0 → VacantAt (row_at P L R) count n trees r slot
      looking_vacant e =
          let vacant : get_or trees slot 0 ≡ 0 = sym is_entry ∙ e in
          let here : slot_of (row_at P L R) count trees r ≡ slot = w.goes ∙ look_ends (row_at P L R) (bucket_count trees) trees r _ depth slot (ends_none (row_at P L R) r _ vacant) in
          record {
            inside = w.reached.inside;
            reached = sym here;
            vacant = vacant;
            unlisted = I.finds r small ∙ ap (λ s. ltb 0 (get_or trees s 0)) here ∙ ap (ltb 0) vacant;
          }

      module _ (some : entry ≡ 0 → ⊥) where
        positive : 0 < entry
        positive = go entry some
          where
            go : (m : ℕ) → (m ≡ 0 → ⊥) → 0 < m
            go m h = omega arith

        within : entry ≤ n
        within = subst (λ m. m ≤ n) (sym is_entry) (I.rising.below slot)

        deeper : depth < entry
        deeper = subst (λ m. depth < m) (sym is_entry) (w.reached.after (subst (λ m. 0 < m) is_entry positive))

        pub looking_place : entry - 1 < length P
        looking_place = omega (arith, positive, within, I.within)

        pub looking_less : n - (depth + 1) < n - depth
        looking_less = omega (arith, deeper, within)

        pub looking_deep : depth < n
        looking_deep = omega (arith, deeper, within)

        module _ (x : Row) (same : Bool) (is_row : x ≡ row_at P L R (entry - 1)) (isSame : same ≡ rows_agree x r) where
          told : (t : Bool) → same ≡ t → rows_agree (row_at P L R (entry - 1)) r ≡ t
          told t e = ap (λ y. rows_agree y r) (sym is_row) ∙ sym isSame ∙ e

          told_at : (t : Bool) → same ≡ t → rows_agree (row_at P L R (get_or trees slot 0 - 1)) r ≡ t
          told_at t e = subst (λ m. rows_agree (row_at P L R (m - 1)) r ≡ t) is_entry (told t e)

          pub looking_listed : same ≡ true → ListedAt (row_at P L R) n r (entry - 1)
          looking_listed e =
              record {
                below = omega (arith, positive, within);
                same = told true e;
                listed =
                    I.finds r small
                    ∙ ap (λ s. ltb 0 (get_or trees s 0)) (w.goes ∙ look_ends (row_at P L R) (bucket_count trees) trees r _ depth slot (ends_row (row_at P L R) r _ (told_at true e)))
                    ∙ lt-ltb 0 _ (subst (λ m. 0 < m) is_entry positive);
              }

          pub looking_more : same ≡ false → (side : ℕ) → side ≡ side_at depth r.states → Looking P L R count n trees r (bucket_count trees + 2 * (entry - 1) + side) (depth + 1)
          looking_more e side is_side =
              record {
                reached =
                    subst (λ d. Reached (bucket_count trees) n trees d (child_slot (bucket_count trees) (entry - 1) side)) (sym (add-one depth))
                    (reached_child I.rising w.reached entry side is_entry positive (subst (λ m. m < 2) (sym is_side) (side_below depth r.states)));
                goes = w.goes ∙ further (bucket_count trees - depth) (omega (arith, deeper, within, I.room));
              }
            where
              further : (k : ℕ) → suc (bucket_count trees - (depth + 1)) ≡ k
                  → look_from (row_at P L R) (bucket_count trees) trees r k depth slot ≡ look_from (row_at P L R) (bucket_count trees) trees r (bucket_count trees - (depth + 1)) (depth + 1) (child_slot (bucket_count trees) (entry - 1) side)
              further k q =
                  subst (λ m. look_from (row_at P L R) (bucket_count trees) trees r m depth slot ≡ look_from (row_at P L R) (bucket_count trees) trees r (bucket_count trees - (depth + 1)) (depth + 1) (child_slot (bucket_count trees) (entry - 1) side)) q
                  (look_on (row_at P L R) (bucket_count trees) trees r _ depth slot (ends_not (row_at P L R) r _ (subst (λ m. 0 < m) is_entry positive) (told_at false e))
                  ∙ ap (λ m. look_from (row_at P L R) (bucket_count trees) trees r (bucket_count trees - (depth + 1)) (suc depth) (child_slot (bucket_count trees) (m - 1) (side_at depth r.states))) (sym is_entry)
                  ∙ ap (λ m. look_from (row_at P L R) (bucket_count trees) trees r (bucket_count trees - (depth + 1)) (suc depth) (child_slot (bucket_count trees) (entry - 1) m)) (sym is_side)
                  ∙ ap (λ d. look_from (row_at P L R) (bucket_count trees) trees r (bucket_count trees - (depth + 1)) d (child_slot (bucket_count trees) (entry - 1) side)) (sym (add-one depth)))
