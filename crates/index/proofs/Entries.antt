-- The columns as a list of a system's entries: the scan is `listed`, an append is `append`.
use mathlib.Core.Path.{◌≡◌, refl, sym, ◌∙◌, ap, ap₂, subst}
use mathlib.Core.Bool.{Bool, true, false, ◌&&◌, ◌||◌, not, or-false, or_assoc}
use mathlib.Core.List.{List, [], ◌∷◌, ◌++◌, map, map-append}
use Prim.Native.Nat.{ℕ, zero, suc, ◌≤◌, ◌<◌}
use native.Mathlib.Nat.{le_refl, le_antisymm, not-suc-le-zero}
use native.Mathlib.Omega.{arith}
use lib.Dec.{eqb, ltb}
use lib.ListN.{length, get_or, set, drop, take}
use lib.Seq.{get_or-set_same, get_or-set_other, drop-set-lt, take-suc}
use borrow.Author.Tests.{eqb-true, ltb-true, ltb-false}
use Rattle.system.specs.System.{System, Lawful}
use Rattle.system.specs.System as system
use Rattle.system.specs.RowOrder as order
use Rattle.system.specs.RowOrder.{Entry, entry_at, listed, append}
use Rattle.system.proofs.Basics.{and_true, length_snoc, Place, old, last, place}
use Rattle.system.proofs.Listing.{append_kept, append_new}
use Rattle.index.specs.declared.Row.{Row}
use Rattle.std.specs.Prelude.{Option, Some, None}
use Rattle.index.specs.Columns.{policy_count, row_at, masks_agree, rows_agree, all_zero, listed_below}
use Rattle.index.specs.Index.{Indexed, trees_with}
use Rattle.index.specs.Appending.{is_new, Lists, append_answer, rows_after, is_added, Appending}
use Rattle.index.specs.Entries.{Masks, row_of, entries_of, entries}
use Rattle.index.proofs.Adding.{put_below, put_here, new_if_true, new_if_false}

pub listed_snoc : (S : System) (es : List (Entry S)) (e : Entry S) (r : system.Row S) → listed S (es ++ (e ∷ [])) r ≡ (listed S es r || order.same_row S e.row r)
unfolding listed
listed_snoc S [] e r = or-false (order.same_row S e.row r)
listed_snoc S (x ∷ es) e r = ap (λ t. order.same_row S x.row r || t) (listed_snoc S es e r) ∙ sym (or_assoc (order.same_row S x.row r) (listed S es r) (order.same_row S e.row r))

not_injective : (b c : Bool) → not b ≡ not c → b ≡ c
not_injective true true e = refl
not_injective true false e = sym e
not_injective false true e = sym e
not_injective false false e = refl

module _ (S : System) (M : Masks S) where
  same_rows : (a b : Row) → order.same_row S (row_of S M a) (row_of S M b) ≡ rows_agree a b
  unfolding order.same_row rows_agree
  same_rows a b = ap (λ t. eqb a.packet b.packet && t) (M.same_states_lem a.states b.states)

  module _ (f : ℕ → Row) (q : ℕ → ℕ) where
    -- the scan answers as `listed`
    pub listed_entries : (n : ℕ) (r : Row) → listed S (entries_of S M f q n) (row_of S M r) ≡ listed_below f n r
    unfolding listed listed_below entries_of
    listed_entries zero r = refl
    listed_entries (suc n) r = listed_snoc S (entries_of S M f q n) _ (row_of S M r) ∙ ap₂ ◌||◌ (listed_entries n r) (same_rows (f n) r)

    pub length_entries : (n : ℕ) → length (entries_of S M f q n) ≡ n
    unfolding entries_of
    length_entries zero = refl
    length_entries (suc n) = length_snoc (entries_of S M f q n) _ ∙ ap suc (length_entries n)

    module _ (n : ℕ) (r : Row) (p : ℕ) where
      tested : (S.dead (M.state r.states) || listed S (entries_of S M f q n) (row_of S M r)) ≡ (all_zero r.states || listed_below f n r)
      tested = ap₂ ◌||◌ (M.dead_states r.states) (listed_entries n r)

      entries_listed : is_new f n r ≡ false → append S p (entries_of S M f q n) (row_of S M r) ≡ entries_of S M f q n
      unfolding is_new
      entries_listed e = append_kept S p (entries_of S M f q n) (row_of S M r) (tested ∙ not_injective (all_zero r.states || listed_below f n r) true e)

      entries_unlisted : is_new f n r ≡ true → append S p (entries_of S M f q n) (row_of S M r) ≡ entries_of S M f q n ++ (record { row = row_of S M r; parent = p } ∷ [])
      unfolding is_new
      entries_unlisted e = append_new S p (entries_of S M f q n) (row_of S M r) (tested ∙ not_injective (all_zero r.states || listed_below f n r) false e)

    -- the entry at a place
    pub entries_at : (n i : ℕ) → i < n → entry_at S (entries_of S M f q n) i ≡ record { row = row_of S M (f i); parent = q i }
    unfolding entries_of
    entries_at zero i l = absurd (not-suc-le-zero l)
    entries_at (suc n) i l = go (entries_at n i) (place (entries_of S M f q n) (record { row = row_of S M (f n); parent = q n }) (order.start_entry S 0) i (subst (λ m. i < m) (sym (length_entries (suc n))) l))
      where
        go : (i < n → entry_at S (entries_of S M f q n) i ≡ record { row = row_of S M (f i); parent = q i })
            → Place (entries_of S M f q n) (record { row = row_of S M (f n); parent = q n }) (order.start_entry S 0) i
            → entry_at S (entries_of S M f q (suc n)) i ≡ record { row = row_of S M (f i); parent = q i }
        go ih (old h e) = e ∙ ih (subst (λ m. i < m) (length_entries n) h)
        go ih (last h e) = e ∙ ap (λ j. record { row = row_of S M (f j); parent = q j }) (sym (h ∙ length_entries n))

    -- a column is what its entries say: `says` reads it off an entry
    pub column : (says : Entry S → ℕ) (X : List ℕ) (n : ℕ) → n ≤ length X → ((i : ℕ) → i < n → says (record { row = row_of S M (f i); parent = q i }) ≡ get_or X i 0)
        → map says (entries_of S M f q n) ≡ take n X
    unfolding entries_of
    column says X zero l e = refl
    column says X (suc n) l e =
        map-append says (entries_of S M f q n) _
        ∙ ap₂ ◌++◌ (column says X n (omega arith) (λ i h. e i (omega arith))) (ap (λ v. v ∷ []) (e n (le_refl _)))
        ∙ sym (take-suc X n 0 l)

  -- entries of columns that agree
  entries_agree : (f g : ℕ → Row) (q p : ℕ → ℕ) (n : ℕ) → ((i : ℕ) → i < n → f i ≡ g i) → ((i : ℕ) → i < n → q i ≡ p i) → entries_of S M f q n ≡ entries_of S M g p n
  unfolding entries_of
  entries_agree f g q p zero rows parents = refl
  entries_agree f g q p (suc n) rows parents =
      ap₂ ◌++◌ (entries_agree f g q p n (λ i l. rows i (omega arith)) (λ i l. parents i (omega arith)))
      (ap₂ (λ a b. record { row = row_of S M a; parent = b } ∷ []) (rows n (le_refl _)) (parents n (le_refl _)))

-- How an append ended.
pub data Outcome (x : Lists) (n : ℕ) (r : Row) (answer : Option ℕ) : Type 0 where
  added : is_new (row_at x.packets x.left x.right) n r ≡ true → n < length x.packets → is_added x n r ≡ true → answer ≡ Some (suc n) → Outcome x n r answer
  full : is_new (row_at x.packets x.left x.right) n r ≡ true → length x.packets ≤ n → is_added x n r ≡ false → answer ≡ None → Outcome x n r answer
  known : is_new (row_at x.packets x.left x.right) n r ≡ false → is_added x n r ≡ false → answer ≡ Some n → Outcome x n r answer

pub outcome : {x y : Lists} {count n : ℕ} {r : Row} {parent : ℕ} {answer : Option ℕ} → Appending x y count n r parent answer → Outcome x n r answer
unfolding is_added append_answer
outcome {x} {n = n} {r = r} {answer = answer} A = go (is_new (row_at x.packets x.left x.right) n r) (ltb n (length x.packets)) refl refl
  where
    go : (new room : Bool) → is_new (row_at x.packets x.left x.right) n r ≡ new → ltb n (length x.packets) ≡ room → Outcome x n r answer
    go true true e l = added e (ltb-true n (length x.packets) l) (ap₂ ◌&&◌ e l) (A.answers ∙ ap₂ (λ s t. append_answer s t n) e l)
    go true false e l = full e (ltb-false n (length x.packets) l) (ap₂ ◌&&◌ e l) (A.answers ∙ ap₂ (λ s t. append_answer s t n) e l)
    go false true e l = known e (ap₂ ◌&&◌ e l) (A.answers ∙ ap₂ (λ s t. append_answer s t n) e l)
    go false false e l = known e (ap₂ ◌&&◌ e l) (A.answers ∙ ap₂ (λ s t. append_answer s t n) e l)

-- the lists with row r appended
unfoldable pub grown : Lists → ℕ → ℕ → Row → ℕ → Lists
grown x count n r parent =
    record {
      packets = set x.packets n r.packet;
      left = set x.left n (get_or r.states 0 0);
      right = set x.right n (get_or r.states 1 0);
      parents = set x.parents n parent;
      trees = trees_with (row_at x.packets x.left x.right) count r n x.trees;
    }

module _ {x y : Lists} {count n : ℕ} {r : Row} {parent : ℕ} {answer : Option ℕ} (A : Appending x y count n r parent answer) where
  pub grows : is_added x n r ≡ true → y ≡ grown x count n r parent
  unfolding grown
  grows e = λ k.
      record {
        packets = (A.packets ∙ new_if_true _ _ _ e) k;
        left = (A.left ∙ new_if_true _ _ _ e) k;
        right = (A.right ∙ new_if_true _ _ _ e) k;
        parents = (A.parents ∙ new_if_true _ _ _ e) k;
        trees = (A.trees ∙ new_if_true _ _ _ e) k;
      }

  pub stays : is_added x n r ≡ false → y ≡ x
  stays e = λ k.
      record {
        packets = (A.packets ∙ new_if_false _ _ _ e) k;
        left = (A.left ∙ new_if_false _ _ _ e) k;
        right = (A.right ∙ new_if_false _ _ _ e) k;
        parents = (A.parents ∙ new_if_false _ _ _ e) k;
        trees = (A.trees ∙ new_if_false _ _ _ e) k;
      }

  full_is_no_count : {B : Type 0} (m : ℕ) → answer ≡ None → answer ≡ Some m → B
  full_is_no_count m e a = let z : ◌≡◌ {A = ℕ} 0 1 = cc in absurd (omega arith)

  -- the index after the answer `Some m`
  pub appended_indexed : (m : ℕ) → answer ≡ Some m → Indexed y.packets y.left y.right count m y.trees
  unfolding rows_after
  appended_indexed m e = go (outcome A)
    where
      at : (b : Bool) → is_added x n r ≡ b → rows_after b n ≡ m → Indexed y.packets y.left y.right count m y.trees
      at b isIn l = subst (λ k. Indexed y.packets y.left y.right count k y.trees) (ap (λ t. rows_after t n) isIn ∙ l) A.indexed

      go : Outcome x n r answer → Indexed y.packets y.left y.right count m y.trees
      go (added new l isIn a) = at true isIn (cc)
      go (full new l notIn a) = full_is_no_count m a e
      go (known new notIn a) = at false notIn (cc)

-- the columns beyond the first m rows are as they were
pub record Beyond (x y : Lists) (m : ℕ) : Type 0 where
  pub packets : drop m y.packets ≡ drop m x.packets
  pub left : drop m y.left ≡ drop m x.left
  pub right : drop m y.right ≡ drop m x.right
  pub parents : drop m y.parents ≡ drop m x.parents

beyond_grown : (x : Lists) (count n : ℕ) (r : Row) (parent : ℕ) → Beyond x (grown x count n r parent) (suc n)
unfolding grown
beyond_grown x count n r parent =
    record {
      packets = drop-set-lt (suc n) x.packets n _ (le_refl _);
      left = drop-set-lt (suc n) x.left n _ (le_refl _);
      right = drop-set-lt (suc n) x.right n _ (le_refl _);
      parents = drop-set-lt (suc n) x.parents n _ (le_refl _);
    }

module _ (S : System) (M : Masks S) where
  abbrev pub entries_in : Lists → ℕ → List (Entry S)
  entries_in x n = entries S M x.packets x.left x.right x.parents n

  -- what the answer `Some m` means: the entries are those of the system's append
  pub record Grew (x y : Lists) (count n m : ℕ) (r : Row) (parent : ℕ) : Type 0 where
    pub entries : entries_in y m ≡ append S parent (entries_in x n) (row_of S M r)
    pub indexed : Indexed y.packets y.left y.right count m y.trees
    pub more : n ≤ m
    pub beyond : Beyond x y m

  -- what the answer `None` means: a row must be appended to columns that are full
  pub record Stuck (x y : Lists) (n : ℕ) (r : Row) (parent : ℕ) : Type 0 where
    pub room : n ≡ length x.packets
    pub same : y ≡ x
    pub needed : append S parent (entries_in x n) (row_of S M r) ≡ entries_in x n ++ (record { row = row_of S M r; parent = parent } ∷ [])

module _ (S : System) (M : Masks S) (lawful : Lawful S) where
  -- rows that compare as the same stand for one row of the system
  row_same : (a b : Row) → rows_agree a b ≡ true → row_of S M a ≡ row_of S M b
  unfolding rows_agree
  row_same a b e =
      let both = and_true (eqb a.packet b.packet) (masks_agree policy_count a.states b.states) e in
      let packets : a.packet ≡ b.packet = eqb-true a.packet b.packet both.0 in
      let states : M.state a.states ≡ M.state b.states = lawful.same_eq _ _ (M.same_states_lem a.states b.states ∙ both.1) in
      λ k. record { packet = packets k; state = states k }

  module _ {x y : Lists} {count n : ℕ} {r : Row} {parent : ℕ} {answer : Option ℕ} (A : Appending x y count n r parent answer)
      (I : Indexed x.packets x.left x.right count n x.trees) (long : length x.parents ≡ length x.packets) where
    snoc : n < length x.packets
        → entries_of S M (row_at (set x.packets n r.packet) (set x.left n (get_or r.states 0 0)) (set x.right n (get_or r.states 1 0))) (λ i. get_or (set x.parents n parent) i 0) (suc n)
        ≡ entries_in S M x n ++ (record { row = row_of S M r; parent = parent } ∷ [])
    unfolding entries_of
    snoc l =
        ap₂ ◌++◌
        (sym
        (entries_agree S M _ _ _ _ n (put_below x.packets x.left x.right n r)
        (λ i k. sym (get_or-set_other x.parents n i parent 0 (λ e. omega arith)))))
        (ap₂ (λ a b. record { row = a; parent = b } ∷ []) (row_same _ r (put_here x.packets x.left x.right n r I.table l))
        (get_or-set_same x.parents n parent 0 (subst (λ m. n < m) (sym long) l)))

    pub appended_rows : (m : ℕ) → answer ≡ Some m → Grew S M x y count n m r parent
    unfolding grown
    appended_rows m e = go (outcome A)
      where
        go : Outcome x n r answer → Grew S M x y count n m r parent
        go (added new l isIn a) =
            let m-is : m ≡ suc n = cc in
            let y-is : y ≡ grown x count n r parent = grows A isIn in
            record {
              entries = ap₂ (entries_in S M) y-is m-is ∙ snoc l ∙ sym (entries_unlisted S M _ _ n r parent new);
              indexed = appended_indexed A m e;
              more = omega arith;
              beyond = subst (λ k. Beyond x y k) (sym m-is) (subst (λ z. Beyond x z (suc n)) (sym y-is) (beyond_grown x count n r parent));
            }
        go (full new l notIn a) = full_is_no_count A m a e
        go (known new notIn a) =
            let m-is : m ≡ n = cc in
            let y-is : y ≡ x = stays A notIn in
            record {
              entries = ap₂ (entries_in S M) y-is m-is ∙ sym (entries_listed S M _ _ n r parent new);
              indexed = appended_indexed A m e;
              more = omega arith;
              beyond = subst (λ z. Beyond x z m) (sym y-is) (record { packets = refl; left = refl; right = refl; parents = refl });
            }

    pub appended_full : answer ≡ None → Stuck S M x y n r parent
    appended_full e = go (outcome A)
      where
        go : Outcome x n r answer → Stuck S M x y n r parent
        go (added new l isIn a) = full_is_no_count A (suc n) e a
        go (full new l notIn a) = record { room = le_antisymm I.within l; same = stays A notIn; needed = entries_unlisted S M _ _ n r parent new }
        go (known new notIn a) = full_is_no_count A n e a
