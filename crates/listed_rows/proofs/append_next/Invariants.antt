-- `listed_rows::append_next` meets its contract: a row is appended after another, and packets without marks have none. Assumes nothing.
use Prim.Native.Nat.{◌≤◌, ◌-◌}
use Rattle.index.specs.Columns.{left_of, right_of}
use Rattle.index.specs.Lent.{SameLists}
use Rattle.index.specs.Appending.{lists_in}
use Rattle.listed_rows.proofs.Growing.{NextTo}
use Rattle.listed_rows.proofs.append_next.Given as goal

abbrev pub invariant-loop-packet : goal.invariant-loop-packet
invariant-loop-packet l = NextTo (lists_in l.initial.rows l.initial.trees) (lists_in l.rows l.trees) l.count l.initial.n l.n l.from l.handled (left_of l.next) (right_of l.next) × (l.from ≤ l.count) × SameLists l.initial.rows l.rows

abbrev pub decreases-loop-packet : goal.decreases-loop-packet
decreases-loop-packet l = l.count - l.from
