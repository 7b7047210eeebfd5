-- The row order round after round: how it starts, goes on and ends. Assumes nothing.
use Prim.Native.Nat.{ℕ, suc, ◌+◌, ◌<◌, ◌≤◌}
use mathlib.Core.Bool.{Bool, true, false, cond}
use mathlib.Core.List.{List, [], ◌∷◌, ◌++◌}
use mathlib.Core.Path.{◌≡◌, refl, sym, ap, ap₂, ◌∙◌, subst}
use native.Mathlib.Omega.{arith}
use lib.Dec.{ltb}
use lib.ListN.{length, get_or, take, replicate}
use lib.Seq.{take_all, length-take-le}
use borrow.Author.Tests.{ltb-true, ltb-false}
use Rattle.packet.specs.Sizes.{product}
use Rattle.packet.proofs.Legal.{product_positive}
use Rattle.policy.specs.NodeLists.{NodeLists}
use Rattle.system.specs.System.{System, Lawful}
use Rattle.system.specs.RowOrder.{Turn, finished, telling, handling, turn, current, run, held, path, entering}
use Rattle.system.specs.RowOrder as order
use Rattle.system.proofs.Climb.{Earlier}
use Rattle.system.proofs.Listing.{earlier}
use Rattle.system.proofs.Runs.{end_turn, invariant, run_handle}
use Rattle.pair.specs.Sides.{Side, left, right, policies}
use Rattle.pair.specs.Pair.{pair_system}
use Rattle.pair.specs.Search.{rows_full, side_of, search_answer, reported}
use Rattle.pair.proofs.Lawful.{legal_pair, lawful}
use Rattle.std.specs.Prelude.{Option, Some, None}
use Rattle.index.specs.Index.{bucket_count, Indexed, Indexable}
use Rattle.index.specs.Appending.{Lists}
use Rattle.index.specs.Entries.{Masks}
use Rattle.listed_rows.specs.declared.Progress.{Progress}
use Rattle.listed_rows.specs.Standing.{Standing, pair_masks, Started}
use Rattle.listed_rows.proofs.Standing.{stands_length}
use Rattle.listed_rows.proofs.Growing.{SameLengths, lengths_none, lengths_then}
use Rattle.listed_rows.proofs.Searching.{Running, stands_then, entry_at_lem, rooted, path_line, entering_line, search_begins, start_full, search_goes, search_fills, fills_depth, fills_rooted, search_ends, search_tells}
use Rattle.marks.proofs.Touched.{blank_new}
use Rattle.compare.specs.Comparison.{BothLoaded, BothBlank}
use Rattle.verdict.specs.declared.Ended.{Ended}
use Rattle.verdict.specs.declared.Ended.TheVariants.{Done, Full, Unstarted}
use Rattle.row_handling.specs.declared.Handled.{Handled}
use Rattle.row_handling.specs.declared.Handled.TheVariants.{Open, Stopped}
use Rattle.row_handling.specs.Step.{run_at, after_row, step_answer, step_rows, RowHandled, open_or_done}
use Rattle.verdict.specs.InnerEnding.{telling_at, CanRead, telling_answer, answer_at_end, ended_answer, ReadableAt, Readable}
use Rattle.search.specs.InnerRows.{with_index, RowsRun, Underway}

module _ (sizes : List ℕ) (L R : NodeLists) where
  abbrev S : System
  S = pair_system sizes (policies L R)

  abbrev M : Masks (pair_system sizes (policies L R))
  M = pair_masks sizes (policies L R)

  -- What a step answers after k rows of the row order.
  data Stepped (lent k : ℕ) : Handled → Type 0 where
    opens : {m : ℕ} → turn S (run S k) ≡ handling → length (run S (suc k)).rows ≡ m → m ≤ lent → (run S (suc k)).handled < m → Stepped lent k (Open m)
    ends : {m : ℕ} → turn S (run S k) ≡ handling → length (run S (suc k)).rows ≡ m → m ≤ lent → m ≤ (run S (suc k)).handled → Stepped lent k (Stopped (Done m))
    tells : {e : Ended} (s : Side) (γ : ℕ) → turn S (run S k) ≡ telling γ → side_of sizes (policies L R) (current S (run S k)) γ ≡ s → telling_at s γ ≡ e → Stepped lent k (Stopped e)
    fills : turn S (run S k) ≡ handling → lent < length (run S (suc k)).rows → Stepped lent k (Stopped Full)

  stepped : (lent k : ℕ) → (run S k).handled < length (run S k).rows → Stepped lent k (step_answer sizes (policies L R) lent (run S k))
  unfolding step_answer after_row open_or_done
  stepped lent k more = go (turn S (run S k)) refl
    where
      on : (b : Bool) → turn S (run S k) ≡ handling → length (run S (suc k)).rows ≤ lent → ltb (run S (suc k)).handled (length (run S (suc k)).rows) ≡ b
          → Stepped lent k (cond b (Open (length (run S (suc k)).rows)) (Stopped (Done (length (run S (suc k)).rows))))
      on true goes fits e = opens goes refl fits (ltb-true _ _ e)
      on false goes fits e = ends goes refl fits (ltb-false _ _ e)

      after : turn S (run S k) ≡ handling → (b : Bool) → ltb lent (length (run S (suc k)).rows) ≡ b
          → Stepped lent k (cond b (Stopped Full) (open_or_done (run S (suc k)).handled (length (run S (suc k)).rows)))
      after goes true e = fills goes (ltb-true _ _ e)
      after goes false e = on (ltb (run S (suc k)).handled (length (run S (suc k)).rows)) goes (ltb-false _ _ e) refl

      handled : turn S (run S k) ≡ handling → Stepped lent k (after_row sizes (policies L R) lent (run S (suc k)))
      handled goes = after goes (ltb lent (length (run S (suc k)).rows)) refl

      go : (t : Turn) → turn S (run S k) ≡ t → Stepped lent k (step_answer sizes (policies L R) lent (run S k))
      go finished e = absurd (let l = end_turn S (run S k) e in omega (arith, l, more))
      go (telling γ) e = subst (Stepped lent k) (sym (rw (e, step_answer))) (tells _ γ e refl refl)
      go handling e =
          subst (Stepped lent k) (ap (after_row sizes (policies L R) lent) (run_handle S k e) ∙ sym (rw (e, step_answer))) (handled e)

pub started_full : {x y : Lists} {count : ℕ} {a : Option ℕ} → Started x y count a → a ≡ None → Started x y count None
started_full {x} {y} {count} T e = subst (Started x y count) e T

pub started_rows : {x y : Lists} {count m : ℕ} {a : Option ℕ} → Started x y count a → a ≡ Some m → Started x y count (Some m)
started_rows {x} {y} {count} T e = subst (Started x y count) e T

-- What rounds keep: the lengths of the lists, and the work list; the next lists are empty.
pub record Kept (b y : Lists) (work₀ : List ℕ) (next : List (List ℕ)) (work : List ℕ) : Type 0 where
  pub lengths : SameLengths b y
  pub blank : BothBlank next
  pub clean : work ≡ work₀

pub kept_none : {b : Lists} {work : List ℕ} → Kept b b work (replicate 2 (replicate 1056 0)) work
kept_none = record { lengths = lengths_none; blank = record { two = refl; left_blank = blank_new; right_blank = blank_new }; clean = refl }

pub kept_more : {b y z : Lists} {work₀ work work' : List ℕ} {next next' : List (List ℕ)} → Kept b y work₀ next work → SameLengths y z → BothBlank next' → work' ≡ work → Kept b z work₀ next' work'
kept_more a s n e = record { lengths = lengths_then a.lengths s; blank = n; clean = e ∙ a.clean }

-- Rounds have led from b to y, wherever the row order started.
pub record Led (sizes : List ℕ) (nodes tests : List (List ℕ)) (b y : Lists) (p q : Progress) : Type 0 where
  pub count : q.count ≡ p.count
  pub led : (L R : NodeLists) → BothLoaded sizes L R nodes tests → (x : Lists) → Underway sizes L R x b p → Underway sizes L R x y q

pub led_none : {sizes : List ℕ} {nodes tests : List (List ℕ)} {b : Lists} {p : Progress} → Led sizes nodes tests b b p p
led_none = record { count = refl; led = λ L R l x U. U }

module _ {sizes : List ℕ} {nodes tests : List (List ℕ)} {L R : NodeLists} (b : BothLoaded sizes L R nodes tests) where
  abbrev S' : System
  S' = S sizes L R

  abbrev M' : Masks (S sizes L R)
  M' = M sizes L R

  is_lawful : Lawful S'
  is_lawful = lawful sizes (policies L R) (legal_pair sizes L R b.left_legal b.right_legal)

  -- so many rows as are held
  held_stands : {x z : Lists} {count m : ℕ} → Standing S' M' x z count m (held S' (length x.packets)) → Standing S' M' x z count (length (held S' (length x.packets))) (held S' (length x.packets))
  held_stands {x} {z} {count} T = subst (λ l. Standing S' M' x z count l (held S' (length x.packets))) (sym (stands_length S' M' T)) T

  module _ {x : Lists} {count : ℕ} (isCount : count ≡ product sizes) where
    pub starts_full : {z : Lists} → Started x z count None → RowsRun sizes L R x z count (record { row = 0; listed = 0; ended = Unstarted })
    unfolding Readable ReadableAt ended_answer answer_at_end
    starts_full T =
        let full = start_full sizes (policies L R) is_lawful (sym isCount) T in
        record { standing = held_stands full.standing; readable = tt; answers = full.answer }

    pub starts_underway : {y : Lists} {m : ℕ} → Started x y count (Some m) → length y.packets ≡ length x.packets → length y.parents ≡ length y.packets
        → Underway sizes L R x y (record { count = count; listed = m; handled = 0 })
    starts_underway T same parents =
        let begins = search_begins sizes (policies L R) is_lawful (sym isCount) T in
        record {
          rounds = 0;
          standing = begins.standing;
          handled = begins.handled;
          more = omega (arith, (invariant S' is_lawful 0).listing.begun, stands_length S' M' begins.standing, product_positive sizes b.legal_sizes.positive);
          same = same;
          parents = parents;
        }

  module _ {x y : Lists} {p : Progress} (isCount : p.count ≡ product sizes) (O : Underway sizes L R x y p) where
    abbrev k : ℕ
    k = O.rounds

    abbrev count : ℕ
    count = p.count

    abbrev n : ℕ
    n = p.listed

    abbrev h : ℕ
    h = p.handled

    running : Running sizes (policies L R) x y count n h k
    running = record { standing = O.standing; handled = O.handled }

    is_earlier : Earlier S' (run S' k).rows
    is_earlier = earlier S' (invariant S' is_lawful k).listing

    -- each listed row has a packet below N
    pub underway_small : (i : ℕ) → i < n → get_or y.packets i 0 < count
    underway_small i l =
        let at = entry_at_lem sizes (policies L R) O.standing O.parents i l in
        omega (arith, isCount, subst (λ e. e.row.packet < product sizes) at ((invariant S' is_lawful k).listing.small i (omega (arith, stands_length S' M' O.standing))))

    pub underway_few : n ≤ 65535
    underway_few = omega (arith, O.standing.indexed.within, O.standing.indexed.numbered)

    pub underway_within : h < length y.packets
    underway_within = omega (arith, O.more, O.standing.indexed.within)

    -- ---- another index

    pub indexable : {trees : List ℕ} → 65536 ≤ bucket_count trees → Indexable y.packets count n trees
    indexable l = record { within = O.standing.indexed.within; room = omega (arith, underway_few); small = underway_small }

    pub reindexed : {trees : List ℕ} → Indexed y.packets y.left y.right count n trees → Underway sizes L R x (with_index y trees) p
    reindexed I =
        record {
          rounds = k;
          standing = record { entries = O.standing.entries; indexed = I; packets = O.standing.packets; left = O.standing.left; right = O.standing.right; parents = O.standing.parents };
          handled = O.handled;
          more = O.more;
          same = O.same;
          parents = O.parents;
        }

    run_is : run_at sizes (policies L R) y n h ≡ run S' k
    run_is = ap₂ (λ es i. record { rows = es; handled = i }) O.standing.entries (sym O.handled)

    left_over : (run S' k).handled < length (run S' k).rows
    left_over = omega (arith, O.more, O.handled, stands_length S' M' O.standing)

    module _ {z : Lists} {answer : Handled} (H : RowHandled sizes (policies L R) y z count n h answer) where
      answer_is : Stepped sizes L R (length y.packets) k answer
      answer_is = subst (Stepped sizes L R (length y.packets) k) (ap (step_answer sizes (policies L R) (length y.packets)) (sym run_is) ∙ sym H.answers) (stepped sizes L R (length y.packets) k left_over)

      rows_are : Standing S' M' y z count (length (step_rows sizes (policies L R) (length y.packets) (run S' k))) (step_rows sizes (policies L R) (length y.packets) (run S' k))
      rows_are = subst (λ w. Standing S' M' y z count (length (step_rows sizes (policies L R) (length y.packets) w)) (step_rows sizes (policies L R) (length y.packets) w)) run_is H.standing

      -- the rows after one more
      next_rows : turn S' (run S' k) ≡ handling → Standing S' M' y z count (length (take (length y.packets) (run S' (suc k)).rows)) (take (length y.packets) (run S' (suc k)).rows)
      unfolding step_rows
      next_rows goes =
          let is : step_rows sizes (policies L R) (length y.packets) (run S' k) ≡ take (length y.packets) (order.handle S' (run S' k)).rows = rw (goes, step_rows) in
          subst (λ es. Standing S' M' y z count (length es) es) (is ∙ ap (λ w. take (length y.packets) w.rows) (sym (run_handle S' k goes))) rows_are

      fitting_rows : {m : ℕ} → turn S' (run S' k) ≡ handling → length (run S' (suc k)).rows ≡ m → m ≤ length y.packets → Standing S' M' y z count m (run S' (suc k)).rows
      fitting_rows {m} goes long fits =
          let whole : take (length y.packets) (run S' (suc k)).rows ≡ (run S' (suc k)).rows = take_all (length y.packets) (run S' (suc k)).rows (omega (arith, long, fits)) in
          subst (λ l. Standing S' M' y z count l (run S' (suc k)).rows) long (subst (λ es. Standing S' M' y z count (length es) es) whole (next_rows goes))

      -- the rows as they were
      same_rows : (γ : ℕ) → turn S' (run S' k) ≡ telling γ → Standing S' M' y z count n (run S' k).rows
      unfolding step_rows
      same_rows γ told =
          subst (λ l. Standing S' M' y z count l (run S' k).rows) (stands_length S' M' O.standing) (subst (λ es. Standing S' M' y z count (length es) es) (rw (told, step_rows)) rows_are)

      module _ (same : SameLengths y z) where
        still_parents : length z.parents ≡ length z.packets
        still_parents = same.parents ∙ O.parents ∙ sym same.packets

        still_same : length z.packets ≡ length x.packets
        still_same = same.packets ∙ O.same

        pub round_next : {m : ℕ} → answer ≡ Open m → Underway sizes L R x z (record { count = count; listed = m; handled = h + 1 })
        round_next {m} e = go (subst (Stepped sizes L R (length y.packets) k) e answer_is)
          where
            go : Stepped sizes L R (length y.packets) k (Open m) → Underway sizes L R x z (record { count = count; listed = m; handled = h + 1 })
            go (opens goes long fits more) =
                let next = search_goes sizes (policies L R) is_lawful (sym isCount) running goes (fitting_rows goes long fits) in
                record {
                  rounds = suc k;
                  standing = next.standing;
                  handled = next.handled ∙ omega arith;
                  more = omega (arith, more, next.handled);
                  same = still_same;
                  parents = still_parents;
                }

        pub round_stops : (e : Ended) → answer ≡ Stopped e → RowsRun sizes L R x z count (record { row = h; listed = n; ended = e })
        unfolding Readable ReadableAt ended_answer answer_at_end telling_answer
        round_stops e f = go e (subst (Stepped sizes L R (length y.packets) k) f answer_is)
          where
            telling_run : (γ : ℕ) → turn S' (run S' k) ≡ telling γ → Running sizes (policies L R) x z count n h k
            telling_run γ told = record { standing = stands_then S' M' O.standing (same_rows γ told) (omega arith); handled = O.handled }

            tells_answer : (s : Side) (γ : ℕ) → turn S' (run S' k) ≡ telling γ → side_of sizes (policies L R) (current S' (run S' k)) γ ≡ s → (lent : ℕ)
                → search_answer sizes (policies L R) (length x.packets) lent ≡ telling_answer lent z.packets z.parents h s γ
            tells_answer s γ told side lent =
                let T = telling_run γ told in
                (search_tells sizes (policies L R) is_lawful (sym isCount) T still_same γ told lent).0
                ∙ ap (λ t. reported lent t (entering S' (run S' k).rows h) (path S' (run S' k).rows h ++ (γ ∷ []))) side
                ∙ ap₂ (λ α w. reported lent s α (w ++ (γ ∷ []))) (entering_line sizes (policies L R) T.standing still_parents is_earlier h O.more) (path_line sizes (policies L R) T.standing still_parents is_earlier h O.more)

            tells_stands : (γ : ℕ) → turn S' (run S' k) ≡ telling γ → Standing S' M' x z count n (held S' (length x.packets))
            tells_stands γ told = (search_tells sizes (policies L R) is_lawful (sym isCount) (telling_run γ told) still_same γ told 0).1

            can_read : (γ : ℕ) → turn S' (run S' k) ≡ telling γ → CanRead z.packets z.parents h n
            can_read γ told =
                let T = telling_run γ told in
                record { rooted = rooted sizes (policies L R) T.standing still_parents is_earlier; inside = O.more; within = T.standing.indexed.within }

            tells_stop : (s : Side) (γ : ℕ) → turn S' (run S' k) ≡ telling γ → side_of sizes (policies L R) (current S' (run S' k)) γ ≡ s → RowsRun sizes L R x z count (record { row = h; listed = n; ended = telling_at s γ })
            tells_stop left γ told side = record { standing = held_stands (tells_stands γ told); readable = can_read γ told; answers = tells_answer left γ told side }
            tells_stop right γ told side = record { standing = held_stands (tells_stands γ told); readable = can_read γ told; answers = tells_answer right γ told side }

            go : (e : Ended) → Stepped sizes L R (length y.packets) k (Stopped e) → RowsRun sizes L R x z count (record { row = h; listed = n; ended = e })
            go e (ends {m} goes all fits over) =
                let next = search_goes sizes (policies L R) is_lawful (sym isCount) running goes (fitting_rows goes all fits) in
                let end = search_ends sizes (policies L R) is_lawful (sym isCount) next still_same (omega (arith, over, next.handled)) in
                record { standing = held_stands (end 0).1; readable = tt; answers = λ lent. (end lent).0 }
            go e (tells s γ told side is) = subst (λ e. RowsRun sizes L R x z count (record { row = h; listed = n; ended = e })) is (tells_stop s γ told side)
            go e (fills goes over) =
                let rows = subst (λ m. Standing S' M' y z count m (take (length y.packets) (run S' (suc k)).rows)) (length-take-le (length y.packets) (run S' (suc k)).rows (omega (arith, over))) (next_rows goes) in
                let full = search_fills sizes (policies L R) is_lawful (sym isCount) running O.same goes over rows in
                let deep = fills_depth sizes (policies L R) is_lawful (sym isCount) running O.same goes over rows still_parents O.more in
                let rooted-here = fills_rooted sizes (policies L R) is_lawful (sym isCount) running O.same goes over rows still_parents in
                record {
                  standing = held_stands full.standing;
                  readable = record { rooted = rooted-here; inside = O.more; within = omega (arith, O.standing.indexed.within, same.packets) };
                  answers = λ lent. full.answer lent ∙ ap (rows_full (length x.packets)) deep;
                }
