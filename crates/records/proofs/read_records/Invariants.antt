-- `read_records` meets its contract: the first i records are taken apart, and of these the first that breaks rule (a) is found.
use mathlib.Core.List.{[], ◌∷◌}
use mathlib.Core.Path.{◌≡◌}
use Rattle.records.specs.Records.{packets_of, lefts_of, rights_of, over, stray_in}
use Rattle.records.proofs.read_records.Given as goal

abbrev pub invariant-loop-i : goal.invariant-loop-i
invariant-loop-i l = record {
  found : l.found ≡ stray_in l.end l.count (l.left_dups ∷ l.right_dups ∷ []) l.rows l.i;
  packets : l.packets ≡ over (packets_of l.rows) l.i l.initial.packets;
  lefts : l.lefts ≡ over (lefts_of l.rows) l.i l.initial.lefts;
  rights : l.rights ≡ over (rights_of l.rows) l.i l.initial.rights;
}
