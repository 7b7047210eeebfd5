-- The search around its steps: how the lists stand after each, and one law for each way out.
use mathlib.Core.Path.{◌≡◌, refl, sym, ◌∙◌, subst, ap, ap₂}
use mathlib.Core.Bool.{Bool, true, false, cond}
use mathlib.Core.List.{List, [], ◌∷◌, ◌++◌, map}
use Prim.Native.Nat.{ℕ, suc, ◌≤◌, ◌<◌}
use native.Mathlib.Omega.{arith}
use lib.Dec.{ltb}
use lib.ListN.{length, get_or, take, drop, take-append-drop, length-map}
use lib.Seq.{take_all, length-take-le}
use borrow.Author.Tests.{ltb-true, ltb-false}
use Rattle.packet.specs.Sizes.{product}
use Rattle.system.specs.System.{System, Lawful}
use Rattle.system.specs.RowOrder.{Entry, entry_at, append_next, current, turn, finished, telling, handling, handle, run, depth, path, entering, held}
use Rattle.system.proofs.Basics.{prefix_length}
use Rattle.system.proofs.Climb.{Earlier}
use Rattle.system.proofs.Runs.{finished≢handling, telling≢handling, turn_end, run_begin, run_handle}
use Rattle.system.proofs.Answers.{append_next_longer, run_handled, RanOut, at_start, at_row, out_needs_more, held_first, held_stopped}
use Rattle.system.proofs.Verdicts.{held_earlier, held_depth}
use Rattle.pair.specs.Sides.{Pair, NumberedPolicy}
use Rattle.pair.specs.Pair.{pair_system}
use Rattle.pair.specs.Search.{equal, rows_full, reported, side_of, search_answer, columns_of}
use Rattle.pair.proofs.Verdicts.{search_out, search_finished, search_telling}
use Rattle.std.specs.Prelude.{Option, Some, None}
use Rattle.index.specs.Appending.{Lists}
use Rattle.index.specs.Entries.{Masks}
use Rattle.index.proofs.Entries.{column, entries_at}
use Rattle.packet.specs.Written.{written}
use Rattle.listed_rows.specs.Standing.{answer_for, Standing, Continues, pair_masks, Started}
use Rattle.parent_traces.specs.ParentLines.{line_depth, line_path, line_start, Rooted}
use Rattle.listed_rows.proofs.Standing.{stands_length, drop_later}
use Rattle.parent_traces.proofs.Lines.{climb_rise}

-- a list whose first entries are xs and that is as it was beyond
written_from : (X old xs : List ℕ) (n : ℕ) → xs ≡ take n X → length xs ≡ n → drop n X ≡ drop n old → X ≡ written xs old
unfolding written
written_from X old xs n e l d = sym (take-append-drop n X) ∙ ap₂ ◌++◌ (sym e) (d ∙ ap (λ m. drop m old) (sym l))

module _ (S : System) (M : Masks S) where
  pub stands_then : {x y z : Lists} {count n m : ℕ} {es fs : List (Entry S)} → Standing S M x y count n es → Standing S M y z count m fs → n ≤ m → Standing S M x z count m fs
  stands_then {x} {y} {z} {count} {n} {m} A B l =
      record {
        entries = B.entries;
        indexed = B.indexed;
        packets = B.packets ∙ drop_later y.packets x.packets n m l A.packets;
        left = B.left ∙ drop_later y.left x.left n m l A.left;
        right = B.right ∙ drop_later y.right x.right n m l A.right;
        parents = B.parents ∙ drop_later y.parents x.parents n m l A.parents;
      }

  module _ {x y : Lists} {count : ℕ} {es : List (Entry S)} where
    -- rows are answered: all of them are listed
    pub continues_listed : {m : ℕ} → Continues S M x y count es (Some m) → Standing S M x y count m es
    unfolding answer_for
    continues_listed {m} C = go (ltb (length x.packets) (length es)) refl
      where
        go : (b : Bool) → ltb (length x.packets) (length es) ≡ b → Standing S M x y count m es
        go true e = let q : ◌≡◌ {A = Option ℕ} (Some m) None = C.answers ∙ ap (λ t. cond t None (Some (length es))) e in let z : ◌≡◌ {A = ℕ} 0 1 = cc in absurd (omega arith)
        go false e =
            let q : ◌≡◌ {A = Option ℕ} (Some m) (Some (length es)) = C.answers ∙ ap (λ t. cond t None (Some (length es))) e in
            let long : length es ≡ m = cc in
            subst (λ k. Standing S M x y count k es) long
            (subst (λ l. Standing S M x y count (length l) l) (take_all (length x.packets) es (ltb-false (length x.packets) (length es) e)) C.standing)

    -- full is answered: there are more rows than were lent
    pub continues_over : Continues S M x y count es None → (length x.packets < length es) × Standing S M x y count (length x.packets) (take (length x.packets) es)
    unfolding answer_for
    continues_over C = go (ltb (length x.packets) (length es)) refl
      where
        go : (b : Bool) → ltb (length x.packets) (length es) ≡ b → (length x.packets < length es) × Standing S M x y count (length x.packets) (take (length x.packets) es)
        go false e = let q : ◌≡◌ {A = Option ℕ} None (Some (length es)) = C.answers ∙ ap (λ t. cond t None (Some (length es))) e in let z : ◌≡◌ {A = ℕ} 0 1 = cc in absurd (omega arith)
        go true e =
            let over = ltb-true (length x.packets) (length es) e in
            (over, subst (λ k. Standing S M x y count k (take (length x.packets) es)) (length-take-le (length x.packets) es (omega arith)) C.standing)

module _ (sizes : List ℕ) (ps : Pair NumberedPolicy) where
  abbrev S : System
  S = pair_system sizes ps

  abbrev M : Masks (pair_system sizes ps)
  M = pair_masks sizes ps

  -- the four row lists hold the entries first and keep their contents beyond
  pub record Holds (x y : Lists) (es : List (Entry S)) : Type 0 where
    pub packets : y.packets ≡ written (columns_of sizes ps es).packets x.packets
    pub left : y.left ≡ written (columns_of sizes ps es).lefts x.left
    pub right : y.right ≡ written (columns_of sizes ps es).rights x.right
    pub parents : y.parents ≡ written (columns_of sizes ps es).parents x.parents

  module _ {x y : Lists} {count n : ℕ} {es : List (Entry S)} (T : Standing S M x y count n es) (long : length y.parents ≡ length y.packets) where
    holds_column : (says : Entry S → ℕ) (X old : List ℕ) → n ≤ length X
        → ((i : ℕ) → i < n → says (record { row = record { packet = get_or y.packets i 0; state = record { left = get_or y.left i 0; right = get_or y.right i 0 } }; parent = get_or y.parents i 0 }) ≡ get_or X i 0)
        → drop n X ≡ drop n old → X ≡ written (map says es) old
    holds_column says X old l e d =
        written_from X old (map says es) n (ap (map says) (sym T.entries) ∙ column S M _ _ says X n l e) (length-map es says ∙ stands_length S M T) d

    pub holds : Holds x y es
    unfolding columns_of
    holds =
        record {
          packets = holds_column (λ e. e.row.packet) y.packets x.packets T.indexed.within (λ i l. refl) T.packets;
          left = holds_column (λ e. e.row.state.left) y.left x.left (omega (arith, T.indexed.within, T.indexed.table.left)) (λ i l. refl) T.left;
          right = holds_column (λ e. e.row.state.right) y.right x.right (omega (arith, T.indexed.within, T.indexed.table.right)) (λ i l. refl) T.right;
          parents = holds_column (λ e. e.parent) y.parents x.parents (omega (arith, T.indexed.within)) (λ i l. refl) T.parents;
        }

    -- row i is the row at place i of the columns
    pub entry_at_lem : (i : ℕ) → i < n → entry_at S es i ≡ record { row = record { packet = get_or y.packets i 0; state = record { left = get_or y.left i 0; right = get_or y.right i 0 } }; parent = get_or y.parents i 0 }
    entry_at_lem i l = ap (λ l. entry_at S l i) (sym T.entries) ∙ entries_at S M _ _ n i l

    pub rooted : Earlier S es → Rooted y.parents n
    rooted E =
        record {
          within = omega (arith, T.indexed.within);
          earlier = λ i l. subst (λ e. e.parent ≤ i) (entry_at_lem i l) (E.earlier i (subst (λ m. i < m) (sym (stands_length S M T)) l));
        }

    -- what the columns say of a row's line is what the entries say
    module _ (E : Earlier S es) (h : ℕ) (h<n : h < n) where
      pub depth_line : depth S es h ≡ line_depth y.parents h
      unfolding depth line_depth
      depth_line = climb_rise _ _ (rooted E) S es (λ i l. ap (λ e. e.parent) (entry_at_lem i l)) _ _ (λ i l. refl) (λ i l a. refl) h h<n

      pub path_line : path S es h ≡ line_path y.packets y.parents h
      unfolding path line_path
      path_line = climb_rise _ _ (rooted E) S es (λ i l. ap (λ e. e.parent) (entry_at_lem i l)) _ _ (λ i l. refl) (λ i l a. ap (λ e. a ++ (e.row.packet ∷ [])) (entry_at_lem i l)) h h<n

      pub entering_line : entering S es h ≡ line_start y.packets y.parents h
      unfolding entering line_start
      entering_line = climb_rise _ _ (rooted E) S es (λ i l. ap (λ e. e.parent) (entry_at_lem i l)) _ _ (λ i l. ap (λ e. e.row.packet) (entry_at_lem i l)) (λ i l a. refl) h h<n

  -- After k rows of the row order: n rows are listed, h of them handled.
  pub record Running (x y : Lists) (count n h k : ℕ) : Type 0 where
    pub standing : Standing S M x y count n (run S k).rows
    pub handled : (run S k).handled ≡ h

  -- refusal 11: the rows held are the first of the row order
  pub record IsFull (x y : Lists) (count d : ℕ) : Type 0 where
    pub answer : (lent : ℕ) → search_answer sizes ps (length x.packets) lent ≡ rows_full (length x.packets) d
    pub standing : Standing S M x y count (length x.packets) (held S (length x.packets))

  over_full : {x y : Lists} {count d : ℕ} (k : ℕ) → RanOut S (length x.packets) d → length x.packets < length (run S k).rows
      → Standing S M x y count (length x.packets) (take (length x.packets) (run S k).rows) → IsFull x y count d
  over_full {x} {y} {count} k out over T =
      record {
        answer = λ lent. search_out sizes ps (length x.packets) lent out;
        standing = subst (Standing S M x y count (length x.packets)) (held_first S (length x.packets) k (omega arith)) T;
      }

  module _ (lawful : Lawful S) {count : ℕ} (small : product sizes ≡ count) where
    pub search_begins : {x y : Lists} {m : ℕ} → Started x y count (Some m) → Running x y count m 0 0
    search_begins {x} {y} {m} T =
        record {
          standing = subst (λ z. Standing S M x y count m z.rows) (sym (run_begin S)) (continues_listed S M (T.started sizes ps lawful small));
          handled = ap (λ z. z.handled) (run_begin S);
        }

    pub start_full : {x y : Lists} → Started x y count None → IsFull x y count 0
    start_full {x} {y} T =
        let o = continues_over S M (T.started sizes ps lawful small) in
        let over = subst (λ z. length x.packets < length z.rows) (sym (run_begin S)) o.0 in
        over_full 0 (at_start over refl) over
        (subst (λ z. Standing S M x y count (length x.packets) (take (length x.packets) z.rows)) (sym (run_begin S)) o.1)

    module _ {x y : Lists} {n h k : ℕ} (R : Running x y count n h k) where
      -- a row is handled
      module _ (goes : turn S (run S k) ≡ handling) where
        longer : length (run S k).rows ≤ length (run S (suc k)).rows
        unfolding handle append_next
        longer =
            subst (λ w. length (run S k).rows ≤ length w.rows) (sym (run_handle S k goes))
            (prefix_length (append_next_longer S (run S k).handled (current S (run S k)) (run S k).rows 0 (product sizes) (omega arith)))

        pub search_goes : {z : Lists} {m : ℕ} → Standing S M y z count m (run S (suc k)).rows → Running x z count m (suc h) (suc k)
        unfolding handle
        search_goes T =
            record {
              standing = stands_then S M R.standing T (omega (arith, stands_length S M R.standing, stands_length S M T, longer));
              handled = ap (λ w. w.handled) (run_handle S k goes) ∙ ap suc R.handled;
            }

      module _ (same : length y.packets ≡ length x.packets) where
        fits : length (run S k).rows ≤ length x.packets
        fits = omega (arith, stands_length S M R.standing, R.standing.indexed.within)

        -- 11, at the depth of the row being handled
        module _ (goes : turn S (run S k) ≡ handling) (over : length y.packets < length (run S (suc k)).rows) {z : Lists}
            (T : Standing S M y z count (length y.packets) (take (length y.packets) (run S (suc k)).rows)) where
          ran : RanOut S (length x.packets) (depth S (run S k).rows h)
          ran = at_row k fits goes (omega (arith, same, over)) (ap (depth S (run S k).rows) R.handled)

          pub search_fills : IsFull x z count (depth S (run S k).rows h)
          search_fills =
              over_full (suc k) ran (omega (arith, same, over))
              (subst (λ l. Standing S M x z count l (take l (run S (suc k)).rows)) same (stands_then S M R.standing T R.standing.indexed.within))

          -- the depth is read off the columns
          pub fills_depth : length z.parents ≡ length z.packets → h < n → depth S (run S k).rows h ≡ line_depth z.parents h
          fills_depth long inside =
              let listed = stands_length S M R.standing in
              sym (held_depth S lawful (length x.packets) k (out_needs_more S (length x.packets) ran) (omega (arith, run_handled S k goes, R.handled, listed, fits)) fits h (omega (arith, listed)))
              ∙ depth_line search_fills.standing long (held_earlier S lawful (length x.packets)) h (omega (arith, listed, fits))

          pub fills_rooted : length z.parents ≡ length z.packets → Rooted z.parents n
          fills_rooted long =
              let all = rooted search_fills.standing long (held_earlier S lawful (length x.packets)) in
              let listed = stands_length S M R.standing in
              record { within = omega (arith, all.within, listed, fits); earlier = λ i l. all.earlier i (omega (arith, listed, fits)) }

        -- equal, with the row count
        pub search_ends : n ≤ h → (lent : ℕ)
            → (search_answer sizes ps (length x.packets) lent ≡ equal n) × Standing S M x y count n (held S (length x.packets))
        search_ends l lent =
            let end : turn S (run S k) ≡ finished = turn_end S (run S k) (omega (arith, R.handled, stands_length S M R.standing)) in (
              search_finished sizes ps (length x.packets) lent k end fits ∙ ap equal (stands_length S M R.standing),
              subst (Standing S M x y count n) (sym (held_stopped S (length x.packets) k (λ q. finished≢handling (sym end ∙ q)) fits)) R.standing,
            )

        -- different, or 12
        pub search_tells : (γ : ℕ) → turn S (run S k) ≡ telling γ → (lent : ℕ)
            → (search_answer sizes ps (length x.packets) lent ≡ reported lent (side_of sizes ps (current S (run S k)) γ) (entering S (run S k).rows h) (path S (run S k).rows h ++ (γ ∷ [])))
            × Standing S M x y count n (held S (length x.packets))
        search_tells γ tells lent = (
          search_telling sizes ps (length x.packets) lent k γ tells fits
              ∙ ap (λ i. reported lent (side_of sizes ps (current S (run S k)) γ) (entering S (run S k).rows i) (path S (run S k).rows i ++ (γ ∷ []))) R.handled,
          subst (Standing S M x y count n) (sym (held_stopped S (length x.packets) k (λ q. telling≢handling (sym tells ∙ q)) fits)) R.standing,
        )
