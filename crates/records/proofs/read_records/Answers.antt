-- `read_records` meets its contract. Assumes nothing.
use Prim.Native.Nat.{ℕ, suc, ◌+◌}
use mathlib.Core.List.{List, [], ◌∷◌}
use mathlib.Core.Path.{◌≡◌, refl, ap, ◌∙◌}
use native.Mathlib.Omega.{arith}
use lib.ListN.{get_or, set}
use Rattle.row_rules.specs.Presence.{mask_row, row_in_range, stray_after}
use Rattle.records.specs.Records.{packets_of, lefts_of, rights_of, over, stray_in}
use Rattle.records.proofs.Laws.{no_record, packet_at, left_at, right_at, over_next, stray_next}
use Rattle.records.proofs.read_records.Goals as goal

one_more : (i : ℕ) → suc i ≡ i + 1
one_more i = omega arith

-- one more entry is written over
written : (cs xs ys : List ℕ) (i v : ℕ) → ys ≡ over cs i xs → v ≡ get_or cs i 0 → set ys i v ≡ over cs (i + 1) xs
written cs xs ys i v e h = ap (λ l. set l i v) e ∙ over_next cs xs i v h ∙ ap (λ k. over cs k xs) (one_more i)

pub loop-i-init : goal.loop-i-init
unfolding over stray_in
loop-i-init c = record { found = refl; packets = refl; lefts = refl; rights = refl }

pub loop-i-preserved : goal.loop-i-preserved
loop-i-preserved c =
    let rows = c.args.rows.now in
    let dups : List ℕ = c.args.left_dups ∷ c.args.right_dups ∷ [] in
    let i = c.loop-i.i in
    let r = get_or rows i no_record in
    let step : stray_after c.args.end c.loop-i.found i (row_in_range c.args.count dups (mask_row r.packet r.left r.right)) ≡ stray_in c.args.end c.args.count dups rows (suc i) =
    ap (λ s. stray_after c.args.end s i (row_in_range c.args.count dups (mask_row r.packet r.left r.right))) c.loop-i.invariant.found
    ∙ stray_next c.args.end c.args.count dups rows i in
    record {
      found = c.stray_after-found.ensures ∙ step ∙ ap (stray_in c.args.end c.args.count dups rows) (one_more i);
      packets = written (packets_of rows) c.args.packets.now _ i _ c.loop-i.invariant.packets (packet_at rows i);
      lefts = written (lefts_of rows) c.args.lefts.now _ i _ c.loop-i.invariant.lefts (left_at rows i);
      rights = written (rights_of rows) c.args.rights.now _ i _ c.loop-i.invariant.rights (right_at rows i);
    }
