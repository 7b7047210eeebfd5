-- One row is handled: what its comparison and its successors give. Assumes nothing.
use Prim.Native.Nat.{ℕ, ◌+◌, ◌<◌, ◌≤◌}
use mathlib.Core.Bool.{Bool, true, false, cond}
use mathlib.Core.List.{List}
use mathlib.Core.Path.{◌≡◌, refl, sym, ap, ◌∙◌, subst}
use native.Mathlib.Omega.{arith}
use lib.Dec.{ltb}
use borrow.Author.Tests.{lt-ltb, le-ltb}
use lib.ListN.{length}
use Rattle.policy.specs.NodeLists.{NodeLists}
use Rattle.marks.specs.Marks.{Marking}
use Rattle.system.specs.System.{System}
use Rattle.system.specs.RowOrder.{Run, turn, telling, handling, current}
use Rattle.system.specs.RowOrder as order
use Rattle.pair.specs.Sides.{Side, Pair, NumberedPolicy, policies}
use Rattle.pair.specs.Pair.{pair_system}
use Rattle.pair.specs.Search.{side_of}
use Rattle.pair.proofs.Lawful.{legal_pair, lawful}
use Rattle.std.specs.Prelude.{Option, Some, None}
use Rattle.index.specs.declared.Row.{Row}
use Rattle.index.specs.Columns.{left_of, right_of, row_at}
use Rattle.index.specs.Appending.{Lists}
use Rattle.index.specs.Index.{Indexed, RoomFor}
use Rattle.index.specs.Entries.{Masks}
use Rattle.index.proofs.Entries.{entries_at}
use Rattle.listed_rows.specs.declared.Progress.{Progress}
use Rattle.listed_rows.specs.Standing.{answer_for, Standing, Continues, pair_masks, Nexts, NextAppended}
use Rattle.listed_rows.proofs.Standing.{stands_none, stands_length}
use Rattle.compare.specs.declared.Compared.{Compared}
use Rattle.compare.specs.declared.Compared.TheVariants.{Same}
use Rattle.compare.specs.Comparison.{BothLoaded, BothMarking, BothBlank, differs_at, pair_row, answer_at, CompareReady, ComparedStates}
use Rattle.compare.proofs.Telling.{differs_lowest, same_turn, differs_turn}
use Rattle.row_handling.specs.declared.Handled.{Handled}
use Rattle.row_handling.specs.declared.Handled.TheVariants.{Open, Stopped}
use Rattle.verdict.specs.declared.Ended.{Ended}
use Rattle.verdict.specs.declared.Ended.TheVariants.{Done, Full}
use Rattle.verdict.specs.InnerEnding.{telling_at}
use Rattle.row_handling.specs.Step.{open_or_done, run_at, after_row, step_answer, step_rows, RowHandled, HandleReady, StepDone}

pub goes_open : (h n : ℕ) → h < n → Open n ≡ open_or_done h n
unfolding open_or_done
goes_open h n l = sym (ap (λ b. cond b (Open n) (Stopped (Done n))) (lt-ltb h n l))

pub goes_done : (h n : ℕ) → n ≤ h → Stopped (Done n) ≡ open_or_done h n
unfolding open_or_done
goes_done h n l = sym (ap (λ b. cond b (Open n) (Stopped (Done n))) (le-ltb h n l))

module _ (sizes : List ℕ) (ps : Pair NumberedPolicy) (lent : ℕ) (x : Run (pair_system sizes ps)) where
  full_after : None ≡ answer_for lent (length x.rows) → Stopped Full ≡ after_row sizes ps lent x
  unfolding answer_for after_row
  full_after e = go (ltb lent (length x.rows)) e
    where
      go : (b : Bool) → ◌≡◌ {A = Option ℕ} None (cond b None (Some (length x.rows))) → Stopped Full ≡ cond b (Stopped Full) (open_or_done x.handled (length x.rows))
      go true e = refl
      go false e = absurd (let z : ◌≡◌ {A = ℕ} 0 1 = cc in omega arith)

  rows_after : (m : ℕ) → Some m ≡ answer_for lent (length x.rows) → open_or_done x.handled m ≡ after_row sizes ps lent x
  unfolding answer_for after_row
  rows_after m e = go (ltb lent (length x.rows)) e
    where
      go : (b : Bool) → Some m ≡ (cond b None (Some (length x.rows))) → open_or_done x.handled m ≡ cond b (Stopped Full) (open_or_done x.handled (length x.rows))
      go true e = absurd (let z : ◌≡◌ {A = ℕ} 0 1 = cc in omega arith)
      go false e = let same : m ≡ length x.rows = cc in ap (open_or_done x.handled) same

module _ {sizes : List ℕ} {nodes tests : List (List ℕ)} {y : Lists} {p : Progress} {next : List (List ℕ)} {work : List ℕ} (P : HandleReady sizes nodes tests y p next work) where
  abbrev count : ℕ
  count = p.count

  abbrev n : ℕ
  n = p.listed

  abbrev h : ℕ
  h = p.handled

  pub compare_ready : (r : Row) → r ≡ row_at y.packets y.left y.right h → CompareReady sizes nodes tests r.packet next work
  compare_ready r is =
      record {
        lists = P.lists;
        others = P.others;
        loaded = P.loaded;
        packet = omega (arith, P.small, P.packets, ap (λ q. q.packet) is);
        blank = P.blank;
        long = P.long;
        zero = P.zero;
      }

  pub count_small : count ≤ 1024
  count_small = omega (arith, P.packets, P.loaded.legal_sizes.small)

  -- rows have 16-bit numbers
  pub row_fits : h < 65536
  row_fits = omega (arith, P.row, P.indexed.within, P.indexed.numbered)

  module _ {w : Row} {answer : Compared} {next' : List (List ℕ)} {work' : List ℕ} (C : ComparedStates sizes nodes tests w work answer next' work') where
    -- what emptying the next lists asks
    pub forget_ready : (count ≤ 1024) × BothMarking count next'
    forget_ready = (count_small, subst (λ k. BothMarking k next') (sym P.packets) C.marking)

    -- what appending the successors asks
    pub next_ready : Indexed y.packets y.left y.right count n y.trees
        × ((length y.parents ≡ length y.packets) × (RoomFor y.packets n count y.trees × (Marking count (left_of next') × Marking count (right_of next') × (count ≤ 1024) × (h < 65536))))
    next_ready = (P.indexed, (P.parents, (P.room, (forget_ready.1.left_marking, forget_ready.1.right_marking, count_small, row_fits))))

  module _ {r : Row} (is : r ≡ row_at y.packets y.left y.right h) {answer : Compared} {next' : List (List ℕ)} {work' : List ℕ}
      (C : ComparedStates sizes nodes tests r work answer next' work') where
    module _ {L R : NodeLists} (b : BothLoaded sizes L R nodes tests) where
      abbrev S : System
      S = pair_system sizes (policies L R)

      abbrev M : Masks (pair_system sizes (policies L R))
      M = pair_masks sizes (policies L R)

      abbrev x : Run (pair_system sizes (policies L R))
      x = run_at sizes (policies L R) y n h

      stands : Standing S M y y count n x.rows
      stands = stands_none S M y count n P.indexed

      left_over : x.handled < length x.rows
      left_over = omega (arith, P.row, stands_length S M stands)

      row_is : current S x ≡ pair_row sizes L R r
      row_is = ap (λ e. e.row) (entries_at S M _ _ n h P.row) ∙ ap (pair_row sizes L R) (sym is)

      answer_is : answer ≡ answer_at sizes L R (current S x)
      answer_is = (C.compared L R b).answers ∙ ap (answer_at sizes L R) (sym row_is)

      tells_at : (s : Side) (γ : ℕ) → answer ≡ differs_at s γ → RowHandled sizes (policies L R) y y count n h (Stopped (telling_at s γ))
      unfolding step_answer step_rows
      tells_at s γ e =
          let told : turn S x ≡ telling γ = differs_turn sizes L R x left_over s γ (sym answer_is ∙ e) in
          let side : side_of sizes (policies L R) (current S x) γ ≡ s = (differs_lowest sizes L R (current S x) s γ (sym answer_is ∙ e)).1 in
          record {
            answers = ap (λ t. Stopped (telling_at t γ)) (sym side) ∙ sym (rw (told, step_answer));
            standing = subst (λ es. Standing S M y y count (length es) es) (sym (rw (told, step_rows))) (subst (λ k. Standing S M y y count k x.rows) (sym (stands_length S M stands)) stands);
          }

      nexts : Nexts sizes (policies L R) (current S x) (left_of next') (right_of next')
      nexts = subst (λ r. Nexts sizes (policies L R) r (left_of next') (right_of next')) (sym row_is) (record { left_next = (C.compared L R b).left_next; right_next = (C.compared L R b).right_next })

      -- the outputs are the same, and the successors are appended
      module _ (e : answer ≡ Same) {z : Lists} {a : Option ℕ} (A : NextAppended y z count n h (left_of next') (right_of next') a) where
        goes : turn S x ≡ handling
        goes = same_turn sizes L R x left_over (sym answer_is ∙ e)

        continues : Continues S M y z count (order.handle S x).rows a
        unfolding order.handle
        continues = A.appended sizes (policies L R) (lawful sizes (policies L R) (legal_pair sizes L R b.left_legal b.right_legal)) (sym P.packets) (current S x) nexts

        handled_standing : Standing S M y z count (length (step_rows sizes (policies L R) (length y.packets) x)) (step_rows sizes (policies L R) (length y.packets) x)
        unfolding step_rows
        handled_standing = subst (λ es. Standing S M y z count (length es) es) (sym (rw (goes, step_rows))) continues.standing

        step_is : step_answer sizes (policies L R) (length y.packets) x ≡ after_row sizes (policies L R) (length y.packets) (order.handle S x)
        unfolding step_answer
        step_is = rw (goes, step_answer)

        fills_at : a ≡ None → RowHandled sizes (policies L R) y z count n h (Stopped Full)
        fills_at f = record { answers = full_after _ _ _ _ (sym f ∙ continues.answers) ∙ sym step_is; standing = handled_standing }

        goes_at : (m : ℕ) → a ≡ Some m → (r : Handled) → r ≡ open_or_done (h + 1) m → RowHandled sizes (policies L R) y z count n h r
        unfolding order.handle
        goes_at m f r g = record { answers = g ∙ ap (λ i. open_or_done i m) (omega arith) ∙ rows_after sizes (policies L R) (length y.packets) (order.handle S x) m (sym f ∙ continues.answers) ∙ sym step_is; standing = handled_standing }

    stopped_open : {A : Type 0} (e : Ended) (m : ℕ) → Stopped e ≡ Open m → A
    stopped_open e m q = absurd (let z : ◌≡◌ {A = ℕ} 0 1 = cc in omega arith)

    -- the row tells
    pub row_tells : (s : Side) (γ : ℕ) → answer ≡ differs_at s γ → StepDone sizes nodes tests y y p work (Stopped (telling_at s γ)) next' work'
    row_tells s γ e = record { handled = λ L R b. tells_at b s γ e; blank = λ m q. stopped_open _ m q; kept = C.kept }

    module _ (e : answer ≡ Same) {z : Lists} {a : Option ℕ} (A : NextAppended y z count n h (left_of next') (right_of next') a) where
      pub row_fills : a ≡ None → StepDone sizes nodes tests y z p work (Stopped Full) next' work'
      row_fills f = record { handled = λ L R b. fills_at b e A f; blank = λ m q. stopped_open _ m q; kept = C.kept }

      pub row_goes : (m : ℕ) → a ≡ Some m → (r : Handled) → r ≡ open_or_done (h + 1) m → {next'' : List (List ℕ)} → BothBlank next''
          → StepDone sizes nodes tests y z p work r next'' work'
      row_goes m f r g blank = record { handled = λ L R b. goes_at b e A m f r g; blank = λ k q. blank; kept = C.kept }
