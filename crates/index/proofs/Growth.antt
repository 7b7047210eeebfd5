-- The index grows with the rows: none yet, one more, all.
use mathlib.Core.Path.{◌≡◌, refl, sym, ◌∙◌, ap, subst}
use mathlib.Core.Bool.{Bool, true, false}
use mathlib.Core.List.{List}
use Prim.Native.Nat.{ℕ, zero, suc, ◌+◌, ◌/◌, ◌≤◌, ◌<◌, zero-le}
use native.Mathlib.Nat.{le_antisymm}
use native.Mathlib.Numerals.{add-one}
use native.Mathlib.Omega.{arith}
use lib.Dec.{ltb}
use lib.ListN.{length, get_or, set, replicate, length-replicate, length-set}
use lib.Seq.{get_or-set_same}
use borrow.Author.Tests.{lt-ltb}
use Rattle.index.specs.declared.Row.{Row}
use Rattle.std.specs.Prelude.{Result, Ok, Err}
use Rattle.index.specs.Columns.{EvenColumns, row_at, rows_agree, listed_below}
use Rattle.index.specs.Index.{bucket_of, bucket_count, look_from, slot_of, Rising, Indexed, Indexable, trees_with, VacantAt, LookEnds}
use Rattle.index.proofs.States.{same_refl, same_left}
use Rattle.index.proofs.Hashing.{same_bucket, bucket_below}
use Rattle.index.proofs.Trees.{scan_miss, scan_hit, scan_agree, scan_repeat, look_same, Reached, reached_root, rising_more, found_other, found_here}

zero_entry : (k slot : ℕ) → get_or {A = ℕ} (replicate k 0) slot 0 ≡ 0
zero_entry zero slot = refl
zero_entry (suc k) zero = refl
zero_entry (suc k) (suc slot) = zero_entry k slot

-- a list of 0 indexes no row
pub indexed_none : (P L R : List ℕ) (count k : ℕ) → EvenColumns P L R → length P < 65536 → count ≤ k / 3 → Indexed P L R count 0 (replicate k 0)
unfolding listed_below
indexed_none P L R count k t small buckets =
    record {
      table = t;
      within = zero-le;
      numbered = small;
      room = zero-le;
      buckets = subst (λ m. count ≤ m / 3) (sym (length-replicate k 0)) buckets;
      rising =
          record {
            below = λ slot. subst (λ m. m ≤ 0) (sym (zero_entry k slot)) zero-le;
            rises = λ i side l some. absurd (omega (arith, subst (λ m. 0 < m) (zero_entry k _) some));
          };
      finds = λ r l. ap (ltb 0) (sym (zero_entry k _));
    }

-- row n can be attached where a look for it ended
pub attach_ready : {P L R trees : List ℕ} {count n : ℕ} {r : Row} {slot : ℕ} → Indexed P L R count n trees → n < length P → VacantAt (row_at P L R) count n trees r slot → (slot < length trees) × (n < 65535)
attach_ready I l W = (omega (arith, W.inside, I.room), omega (arith, I.numbered))

-- row n is attached: the columns are as they were below n and hold the row r at n
module _ {P L R trees : List ℕ} {count n : ℕ} (I : Indexed P L R count n trees) (P' L' R' : List ℕ) (r : Row)
    (table : EvenColumns P' L' R') (long : length P' ≡ length P) (below : (i : ℕ) → i < n → row_at P L R i ≡ row_at P' L' R' i) (here : rows_agree (row_at P' L' R' n) r ≡ true)
    (small : r.packet < count) (room : n < length P) (place : n < bucket_count trees) (slot : ℕ) (W : VacantAt (row_at P L R) count n trees r slot) where
  same_size : bucket_count (set trees slot (suc n)) ≡ bucket_count trees
  same_size = ap (λ m. m / 3) (length-set trees slot (suc n))

  attach_room : slot < length trees
  attach_room = (attach_ready I room W).0

  attach_finds : (q : Row) → q.packet < count
      → listed_below (row_at P' L' R') (suc n) q
      ≡ ltb 0 (get_or (set trees slot (suc n)) (look_from (row_at P' L' R') (bucket_count trees) (set trees slot (suc n)) q (bucket_count trees) 0 (bucket_of (bucket_count trees) count q)) 0)
  unfolding slot_of
  attach_finds q l = go (rows_agree (row_at P' L' R' n) q) refl
    where
      root : Reached (bucket_count trees) n trees 0 (bucket_of (bucket_count trees) count q)
      root = reached_root (bucket_count trees) n trees (bucket_of (bucket_count trees) count q) (bucket_below (bucket_count trees) count q l I.buckets)

      go : (t : Bool) → rows_agree (row_at P' L' R' n) q ≡ t
          → listed_below (row_at P' L' R') (suc n) q
          ≡ ltb 0 (get_or (set trees slot (suc n)) (look_from (row_at P' L' R') (bucket_count trees) (set trees slot (suc n)) q (bucket_count trees) 0 (bucket_of (bucket_count trees) count q)) 0)
      go true s =
          let same : rows_agree r q ≡ true = sym (same_left (row_at P' L' R' n) r here q) ∙ s in
          let was : look_from (row_at P L R) (bucket_count trees) trees q (bucket_count trees) 0 (bucket_of (bucket_count trees) count q) ≡ slot =
          sym (ap (look_from (row_at P L R) (bucket_count trees) trees r (bucket_count trees) 0) (same_bucket (bucket_count trees) count r q same) ∙ look_same (row_at P L R) (bucket_count trees) trees r q same (bucket_count trees) 0 _) ∙ sym W.reached in
          scan_hit (row_at P' L' R') q n s
          ∙ sym
          (ap (λ x. ltb 0 (get_or (set trees slot (suc n)) x 0)) (found_here I.rising (row_at P L R) (row_at P' L' R') slot W.inside attach_room W.vacant below q s (bucket_count trees) 0 _ root was)
          ∙ ap (ltb 0) (get_or-set_same trees slot (suc n) 0 attach_room)
          ∙ lt-ltb 0 (suc n) (omega arith))
      go false s =
          scan_miss (row_at P' L' R') q n s
          ∙ sym (scan_agree (row_at P L R) (row_at P' L' R') q n below)
          ∙ I.finds q l
          ∙ sym (found_other I.rising (row_at P L R) (row_at P' L' R') slot W.inside attach_room W.vacant below q s (bucket_count trees) 0 _ root (omega (arith, place)))

  pub indexed_more : Indexed P' L' R' count (suc n) (set trees slot (suc n))
  unfolding slot_of
  indexed_more =
      record {
        table = table;
        within = omega arith;
        numbered = omega (arith, I.numbered);
        room = subst (λ m. suc n ≤ m) (sym same_size) place;
        buckets = subst (λ m. count ≤ m) (sym same_size) I.buckets;
        rising = subst (λ m. Rising m (suc n) (set trees slot (suc n))) (sym same_size) (rising_more I.rising (row_at P L R) (row_at P' L' R') slot W.inside attach_room W.vacant below);
        finds = λ q l.
            subst (λ m. listed_below (row_at P' L' R') (suc n) q ≡ ltb 0 (get_or (set trees slot (suc n)) (look_from (row_at P' L' R') m (set trees slot (suc n)) q m 0 (bucket_of m count q)) 0)) (sym same_size)
            (attach_finds q l);
      }

pub length_trees : (f : ℕ → Row) (count : ℕ) (r : Row) (n : ℕ) (trees : List ℕ) → length (trees_with f count r n trees) ≡ length trees
unfolding trees_with
length_trees f count r n trees = length-set trees _ _

-- The loop that indexes rows: i of n are indexed.
pub record IndexedTo (P L R : List ℕ) (count n i : ℕ) (trees₀ trees : List ℕ) : Type 0 where
  pub up_to : i ≤ n
  pub indexed : Indexed P L R count i trees
  pub long : length trees ≡ length trees₀

-- a row of the columns has a packet below N
pub to_place : {P L R trees₀ trees : List ℕ} {count n i : ℕ} → Indexable P count n trees₀ → Indexed P L R count i trees → i < n → (r : Row) → r ≡ row_at P L R i → r.packet < count
to_place {count = count} {i = i} A I l r is_row = subst (λ x. x.packet < count) (sym is_row) (A.small i l)

module _ {P L R trees₀ trees : List ℕ} {count n i : ℕ} (A : Indexable P count n trees₀) (T : IndexedTo P L R count n i trees₀ trees) (l : i < n) (r : Row) (is_row : r ≡ row_at P L R i)
    {answer : Result ℕ ℕ} (p : LookEnds (row_at P L R) count i trees r answer) where
  within : i < length P
  within = omega (arith, A.within)

  place : i < bucket_count trees
  place = subst (λ m. i < m / 3) (sym T.long) (omega (arith, A.room))

  -- the row is listed already
  pub to_repeat : (j : ℕ) → answer ≡ Ok j → IndexedTo P L R count n (i + 1) trees₀ trees
  to_repeat j e =
      let again : listed_below (row_at P L R) i (row_at P L R i) ≡ true = subst (λ x. listed_below (row_at P L R) i x ≡ true) is_row (p.listed j e).listed in
      record {
        up_to = omega arith;
        indexed =
            record {
              table = T.indexed.table;
              within = omega (arith, within);
              numbered = T.indexed.numbered;
              room = omega (arith, place);
              buckets = T.indexed.buckets;
              rising = record { below = λ slot. omega (arith, T.indexed.rising.below slot); rises = T.indexed.rising.rises };
              finds = λ q s. ap (λ m. listed_below (row_at P L R) m q) (add-one i) ∙ scan_repeat (row_at P L R) i again q ∙ T.indexed.finds q s;
            };
        long = T.long;
      }

  module _ (slot : ℕ) (e : answer ≡ Err slot) where
    pub to_attach : (slot < length trees) × (i < 65535)
    to_attach = attach_ready T.indexed within (p.vacant slot e)

    pub to_more : (trees' : List ℕ) → trees' ≡ set trees slot (i + 1) → IndexedTo P L R count n (i + 1) trees₀ trees'
    to_more trees' isTrees =
        record {
          up_to = omega arith;
          indexed =
              rw (isTrees, add-one)
              (indexed_more T.indexed P L R r T.indexed.table refl (λ j k. refl) (subst (λ x. rows_agree x r ≡ true) is_row (same_refl r)) (to_place A T.indexed l r is_row) within place slot (p.vacant slot e));
          long = ap length isTrees ∙ length-set trees slot (i + 1) ∙ T.long;
        }

pub to_all : {P L R trees₀ trees : List ℕ} {count n i : ℕ} → IndexedTo P L R count n i trees₀ trees → n ≤ i → Indexed P L R count n trees
to_all {P} {L} {R} {trees₀} {trees} {count} T g = subst (λ m. Indexed P L R count m trees) (le_antisymm T.up_to g) T.indexed
