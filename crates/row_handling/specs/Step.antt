-- One step of the search: one row is handled (document 01, "States and rows").
use Rattle.std.specs.Prelude.{ℕ, ◌<◌, ◌≤◌, cond, List, ◌≡◌, ltb, length, get_or, take}
use Rattle.packet.specs.Sizes.{product}
use Rattle.policy.specs.NodeLists.{NodeLists}
use Rattle.system.specs.RowOrder.{Entry, Run, finished, telling, handling, turn, current}
use Rattle.system.specs.RowOrder as order
use Rattle.pair.specs.Sides.{Pair, NumberedPolicy, policies}
use Rattle.pair.specs.Pair.{pair_system}
use Rattle.pair.specs.Search.{side_of}
use Rattle.index.specs.Appending.{Lists}
use Rattle.index.specs.Index.{Indexed, RoomFor}
use Rattle.listed_rows.specs.declared.Progress.{Progress}
use Rattle.listed_rows.specs.Standing.{rows_in, Standing, pair_masks}
use Rattle.compare.specs.Comparison.{BothLoaded, BothBlank}
use Rattle.verdict.specs.declared.Ended.TheVariants.{Done, Full}
use Rattle.verdict.specs.InnerEnding.{telling_at}
use Rattle.row_handling.specs.declared.Handled.{Handled}
use Rattle.row_handling.specs.declared.Handled.TheVariants.{Open, Stopped}

-- of n listed rows h are handled: open or done
unfoldable pub open_or_done : ℕ → ℕ → Handled
open_or_done h n = cond (ltb h n) (Open n) (Stopped (Done n))

module _ (sizes : List ℕ) (ps : Pair NumberedPolicy) where
  -- the run that the columns stand for: the first n rows, h of them handled
  abbrev pub run_at : Lists → ℕ → ℕ → Run (pair_system sizes ps)
  run_at y n h = record { rows = rows_in (pair_system sizes ps) (pair_masks sizes ps) y n; handled = h }

  -- a row has been handled: full if there are more rows than were lent
  unfoldable pub after_row : ℕ → Run (pair_system sizes ps) → Handled
  after_row lent x = cond (ltb lent (length x.rows)) (Stopped Full) (open_or_done x.handled (length x.rows))

  -- what the step answers
  unfoldable pub step_answer : ℕ → Run (pair_system sizes ps) → Handled
  step_answer lent x =
      elim (turn (pair_system sizes ps) x) [
        | finished ↦ Stopped (Done (length x.rows))
        | telling γ ↦ Stopped (telling_at (side_of sizes ps (current (pair_system sizes ps) x) γ) γ)
        | handling ↦ after_row lent (order.handle (pair_system sizes ps) x)
      ]

  -- the rows listed after the step, as many as were lent
  unfoldable pub step_rows : ℕ → Run (pair_system sizes ps) → List (Entry (pair_system sizes ps))
  step_rows lent x =
      elim (turn (pair_system sizes ps) x) [
        | finished ↦ x.rows
        | telling γ ↦ x.rows
        | handling ↦ take lent (order.handle (pair_system sizes ps) x).rows
      ]

  -- Row h of the first n rows of y has been handled, and the rows are those of z.
  pub record RowHandled (y z : Lists) (count n h : ℕ) (answer : Handled) : Type 0 where
    pub answers : answer ≡ step_answer (length y.packets) (run_at y n h)
    pub standing : Standing (pair_system sizes ps) (pair_masks sizes ps) y z count (length (step_rows (length y.packets) (run_at y n h))) (step_rows (length y.packets) (run_at y n h))

module _ (sizes : List ℕ) (nodes tests : List (List ℕ)) where
  -- what a step asks: two policies that are loaded, the listed rows indexed, row p .handled one of them, room in the index for what
  -- follows it, empty next lists, and a work list of 0
  pub record HandleReady (y : Lists) (p : Progress) (next : List (List ℕ)) (work : List ℕ) : Type 0 where
    pub lists : NodeLists
    pub others : NodeLists
    pub loaded : BothLoaded sizes lists others nodes tests
    pub packets : p.count ≡ product sizes
    pub indexed : Indexed y.packets y.left y.right p.count p.listed y.trees
    pub room : RoomFor y.packets p.listed p.count y.trees
    pub parents : length y.parents ≡ length y.packets
    pub row : p.handled < p.listed
    pub small : get_or y.packets p.handled 0 < p.count
    pub blank : BothBlank next
    pub long : 16384 ≤ length work
    pub zero : (i : ℕ) → i < 16384 → get_or work i 0 ≡ 0

  -- the step of the search, whatever policies are loaded; where it goes on, the next lists are empty again
  pub record StepDone (y z : Lists) (p : Progress) (work : List ℕ) (answer : Handled) (next' : List (List ℕ)) (work' : List ℕ) : Type 0 where
    pub handled : (L R : NodeLists) → BothLoaded sizes L R nodes tests → RowHandled sizes (policies L R) y z p.count p.listed p.handled answer
    pub blank : (m : ℕ) → answer ≡ Open m → BothBlank next'
    pub kept : work' ≡ work
