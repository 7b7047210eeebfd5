-- The row lists grow row by row: how they stand after an append, and what they answer in the end.
use mathlib.Core.Path.{◌≡◌, refl, sym, ◌∙◌, ap, subst}
use mathlib.Core.Bool.{cond}
use mathlib.Core.List.{List, [], ◌∷◌, ◌++◌}
use Prim.Native.Nat.{ℕ, ◌+◌, ◌-◌, ◌≤◌}
use native.Mathlib.Omega.{arith}
use lib.ListN.{length, take, drop}
use lib.Seq.{drop-drop, take_all, take_at}
use borrow.Author.Tests.{lt-ltb, le-ltb}
use Rattle.system.specs.System.{System, Lawful}
use Rattle.system.specs.RowOrder.{Entry, append}
use Rattle.system.proofs.Basics.{Prefix, prefix_length, prefix_take, length_snoc}
use Rattle.index.specs.declared.Row.{Row}
use Rattle.std.specs.Prelude.{Option, Some, None}
use Rattle.index.specs.Index.{Indexed}
use Rattle.index.specs.Appending.{Lists, Appending}
use Rattle.index.specs.Entries.{Masks, row_of}
use Rattle.index.proofs.Entries.{Grew, Stuck, appended_rows, appended_full, length_entries}
use Rattle.listed_rows.specs.Standing.{answer_for, rows_in, Standing, Continues}

-- lists that agree beyond n agree beyond any later place
pub drop_later : (a b : List ℕ) (n m : ℕ) → n ≤ m → drop n a ≡ drop n b → drop m a ≡ drop m b
drop_later a b n m l e = go (m - n) (omega arith)
  where
    go : (k : ℕ) → n + k ≡ m → drop m a ≡ drop m b
    go k q = subst (λ i. drop i a ≡ drop i b) q (sym (drop-drop k n a) ∙ ap (drop k) e ∙ drop-drop k n b)

module _ (S : System) (M : Masks S) where
  pub stands_none : (x : Lists) (count n : ℕ) → Indexed x.packets x.left x.right count n x.trees → Standing S M x x count n (rows_in S M x n)
  stands_none x count n I = record { entries = refl; indexed = I; packets = refl; left = refl; right = refl; parents = refl }

  module _ {x y : Lists} {count n : ℕ} {es : List (Entry S)} (T : Standing S M x y count n es) where
    pub stands_length : length es ≡ n
    stands_length = ap length (sym T.entries) ∙ length_entries S M _ _ n

    -- every row is listed
    pub continues_rows : n ≤ length x.packets → Continues S M x y count es (Some n)
    unfolding answer_for
    continues_rows l =
        record {
          answers =
              ap Some (sym stands_length)
              ∙ sym (ap (λ b. cond b None (Some (length es))) (le-ltb (length x.packets) (length es) (omega (arith, stands_length))));
          standing =
              let whole : take (length x.packets) es ≡ es = take_all (length x.packets) es (omega (arith, stands_length)) in
              subst (λ l. Standing S M x y count (length l) l) (sym whole) (subst (λ m. Standing S M x y count m es) (sym stands_length) T);
        }

    -- the lists are full, and the rows go on
    pub continues_full : (e : Entry S) (fs : List (Entry S)) → n ≡ length x.packets → Prefix (es ++ (e ∷ [])) fs → Continues S M x y count fs None
    unfolding answer_for
    continues_full e fs full p =
        record {
          answers =
              sym (ap (λ b. cond b None (Some (length fs))) (lt-ltb (length x.packets) (length fs) (omega (arith, prefix_length p, length_snoc es e, stands_length))));
          standing =
              let first : take (length x.packets) fs ≡ es =
              prefix_take p (length x.packets) (omega (arith, length_snoc es e, stands_length)) ∙ take_at es (e ∷ []) (length x.packets) (stands_length ∙ full) in
              subst (λ l. Standing S M x y count (length l) l) (sym first) (subst (λ m. Standing S M x y count m es) (sym stands_length) T);
        }

    module _ (lawful : Lawful S) {z : Lists} {r : Row} {p : ℕ} {answer : Option ℕ} (A : Appending y z count n r p answer)
        (long : length y.parents ≡ length y.packets) where
      -- a row appended, or listed already
      pub stands_rows : (m : ℕ) → answer ≡ Some m → Standing S M x z count m (append S p es (row_of S M r))
      stands_rows m e =
          let g : Grew S M y z count n m r p = appended_rows S M lawful A T.indexed long m e in
          record {
            entries = g.entries ∙ ap (λ l. append S p l (row_of S M r)) T.entries;
            indexed = g.indexed;
            packets = g.beyond.packets ∙ drop_later y.packets x.packets n m g.more T.packets;
            left = g.beyond.left ∙ drop_later y.left x.left n m g.more T.left;
            right = g.beyond.right ∙ drop_later y.right x.right n m g.more T.right;
            parents = g.beyond.parents ∙ drop_later y.parents x.parents n m g.more T.parents;
          }

      -- no room for the row: any list that goes on from the append is cut where the room ends
      pub stands_full : answer ≡ None → length y.packets ≡ length x.packets → (fs : List (Entry S)) → Prefix (append S p es (row_of S M r)) fs → Continues S M x z count fs None
      stands_full e same fs pre =
          let s : Stuck S M y z n r p = appended_full S M lawful A T.indexed long e in
          subst (λ w. Continues S M x w count fs None) (sym s.same)
          (continues_full (record { row = row_of S M r; parent = p }) fs (s.room ∙ same)
          (subst (λ l. Prefix l fs) (ap (λ l. append S p l (row_of S M r)) (sym T.entries) ∙ s.needed ∙ ap (λ l. l ++ (record { row = row_of S M r; parent = p } ∷ [])) T.entries) pre))
