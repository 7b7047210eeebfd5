-- The row order from its start to its end, on an index that grows with it.
use Rattle.std.specs.Prelude.{ℕ, ◌<◌, ◌≤◌, List, ◌≡◌, length, get_or, Result, Ok, Err}
use Rattle.packet.specs.Sizes.{product}
use Rattle.policy.specs.NodeLists.{NodeLists}
use Rattle.system.specs.RowOrder.{run, held}
use Rattle.pair.specs.Sides.{policies}
use Rattle.pair.specs.Pair.{pair_system}
use Rattle.pair.specs.Search.{search_answer}
use Rattle.index.specs.Columns.{EvenColumns}
use Rattle.index.specs.Index.{bucket_count}
use Rattle.index.specs.Appending.{Lists, lists}
use Rattle.listed_rows.specs.declared.Progress.{Progress}
use Rattle.listed_rows.specs.Standing.{Standing, pair_masks}
use Rattle.compare.specs.Comparison.{BothLoaded}
use Rattle.verdict.specs.declared.Stop.{Stop}
use Rattle.verdict.specs.InnerEnding.{ended_answer, Readable}

-- the columns with this index
abbrev pub with_index : Lists → List ℕ → Lists
with_index x trees = lists x.packets x.left x.right x.parents trees

module _ (sizes : List ℕ) (L R : NodeLists) where
  -- The row order has run from the columns x to the columns z, and ended there.
  pub record RowsRun (x z : Lists) (count : ℕ) (stop : Stop) : Type 0 where
    pub standing : Standing (pair_system sizes (policies L R)) (pair_masks sizes (policies L R)) x z count (length (held (pair_system sizes (policies L R)) (length x.packets))) (held (pair_system sizes (policies L R)) (length x.packets))
    pub readable : Readable z.packets z.parents stop
    pub answers : (lent : ℕ) → search_answer sizes (policies L R) (length x.packets) lent ≡ ended_answer (length x.packets) lent z.packets z.parents stop

  -- The row order, started from the columns x, has come to the columns y, and row p .handled is the next to handle.
  pub record Underway (x y : Lists) (p : Progress) : Type 0 where
    pub rounds : ℕ
    pub standing : Standing (pair_system sizes (policies L R)) (pair_masks sizes (policies L R)) x y p.count p.listed (run (pair_system sizes (policies L R)) rounds).rows
    pub handled : (run (pair_system sizes (policies L R)) rounds).handled ≡ p.handled
    pub more : p.handled < p.listed
    pub same : length y.packets ≡ length x.packets
    pub parents : length y.parents ≡ length y.packets

  -- where an index leads to: the end, or a row whose successors it may have no room for
  pub record Leads (x z : Lists) (count : ℕ) (answer : Result Stop Progress) : Type 0 where
    pub ended : (stop : Stop) → answer ≡ Ok stop → RowsRun x z count stop
    pub outgrown : (q : Progress) → answer ≡ Err q → (q.count ≡ count) × Underway x z q

module _ (sizes : List ℕ) (nodes tests : List (List ℕ)) where
  -- two policies that are loaded, so many packets, and a work list of 0
  pub record Prepared (count : ℕ) (work : List ℕ) : Type 0 where
    pub lists : NodeLists
    pub others : NodeLists
    pub loaded : BothLoaded sizes lists others nodes tests
    pub packets : count ≡ product sizes
    pub long : 16384 ≤ length work
    pub zero : (i : ℕ) → i < 16384 → get_or work i 0 ≡ 0

  -- what rounds ask: a row order that is underway
  pub record RoundsReady (y : Lists) (p : Progress) (work : List ℕ) : Type 0 where
    pub prepared : Prepared p.count work
    pub start : Lists
    pub underway : Underway sizes prepared.lists prepared.others start y p

  -- round after round, whatever policies are loaded and wherever the row order started; an index for all rows lent is not outgrown
  pub record RoundsDone (y z : Lists) (p : Progress) (work : List ℕ) (answer : Result Stop Progress) (work' : List ℕ) : Type 0 where
    pub leads : (L R : NodeLists) → BothLoaded sizes L R nodes tests → (x : Lists) → Underway sizes L R x y p → Leads sizes L R x z p.count answer
    pub outgrown : (q : Progress) → answer ≡ Err q → bucket_count y.trees < length y.packets
    pub kept : work' ≡ work

  -- what the rest of a row order asks: it is underway on some index
  pub record RestReady (y : Lists) (p : Progress) (work : List ℕ) : Type 0 where
    pub index : List ℕ
    pub ready : RoundsReady (with_index y index) p work

  -- the rest has run, on another index
  pub record RestDone (y z : Lists) (p : Progress) (work : List ℕ) (stop : Stop) (work' : List ℕ) : Type 0 where
    pub index : List ℕ
    pub runs : (L R : NodeLists) → BothLoaded sizes L R nodes tests → (x : Lists) (before : List ℕ) → Underway sizes L R x (with_index y before) p → RowsRun sizes L R x (with_index z index) p.count stop
    pub kept : work' ≡ work

  -- what the whole row order asks
  pub record RunReady (x : Lists) (count : ℕ) (work : List ℕ) : Type 0 where
    pub prepared : Prepared count work
    pub table : EvenColumns x.packets x.left x.right
    pub parents : length x.parents ≡ length x.packets
    pub few : length x.packets ≤ 65535

  -- the row order has run, whatever policies are loaded
  pub record RunDone (x z : Lists) (count : ℕ) (work : List ℕ) (stop : Stop) (work' : List ℕ) : Type 0 where
    pub first : List ℕ
    pub last : List ℕ
    pub runs : (L R : NodeLists) → BothLoaded sizes L R nodes tests → RowsRun sizes L R (with_index x first) (with_index z last) count stop
    pub kept : work' ≡ work
