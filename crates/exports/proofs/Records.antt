-- From what is read of a list of row records to the promise of the call on them. Assumes nothing.
use Prim.Native.Nat.{ℕ, ◌≤◌}
use native.Mathlib.Omega.{arith}
use mathlib.Core.List.{List, [], ◌∷◌}
use mathlib.Core.Path.{◌≡◌, sym, ap, subst, ◌∙◌}
use lib.ListN.{length, take}
use Rattle.packet.specs.Lowest.{lowest}
use Rattle.packet.specs.Sizes.{product}
use Rattle.std.specs.Prelude.{Ok}
use Rattle.fields.specs.Tables.{Table}
use Rattle.policy.specs.NodeLists.{NodeLists}
use Rattle.policy.specs.Order.{pair_core, pair_tests}
use Rattle.row_rules.specs.Presence.{or_end, strays}
use Rattle.records.specs.declared.RowRecord.{RowRecord}
use Rattle.records.specs.Records.{packets_of, lefts_of, rights_of, over, stray_in}
use Rattle.records.proofs.Laws.{over_length, over_takes, column_length, stray_lowest}
use Rattle.evidence.specs.declared.Bounds.{Bounds}
use Rattle.evidence.specs.declared.Evidence.{Evidence}
use Rattle.evidence.specs.Calls.{CheckedRows}
use Rattle.evidence.specs.InnerSteps.{dups_of, BoundsOf, ReadTable, ReadChecked}

-- what `records::read_records` says of three lists that were `room` before
abbrev pub ReadTo : Bounds → List RowRecord → List ℕ → ℕ → List ℕ → List ℕ → List ℕ → Type 0
ReadTo r rows room stray packets lefts rights =
    (stray ≡ stray_in r.rows r.count (r.left_dups ∷ r.right_dups ∷ []) rows r.rows)
    × (packets ≡ over (packets_of rows) r.rows room) × (lefts ≡ over (lefts_of rows) r.rows room) × (rights ≡ over (rights_of rows) r.rows room)

module _ (room : List ℕ) (long : length room ≡ 65535) where
  -- a column of n entries that is read whole
  read_whole : (xs column : List ℕ) (n k : ℕ) → xs ≡ over column k room → length column ≡ n → k ≡ n → n ≤ 65535 → take n xs ≡ column
  read_whole xs column n k e f g l =
      ap (take n) e
      ∙ subst (λ (m : ℕ). take m (over column k room) ≡ column) f (subst (λ (m : ℕ). take (length column) (over column m room) ≡ column) (f ∙ sym g) (over_takes column room (omega (arith, long, f, l))))

  as_long : (xs column : List ℕ) (n k : ℕ) → xs ≡ over column k room → n ≤ 65535 → n ≤ length xs
  as_long xs column n k e l = omega (arith, ap length e, over_length column k room, long, l)

  module _ {ts : List Table} {L R : NodeLists} (rows : List RowRecord) {r : Bounds} (bounds : BoundsOf ts L R (length rows) r)
      {stray : ℕ} {packets lefts rights : List ℕ} (read : ReadTo r rows room stray packets lefts rights) where
    -- where the policies pass and the rows are not too many, all of them are read
    all_read : pair_tests ts L R ≡ Ok tt → length rows ≤ 65535
        → (take (length rows) packets ≡ packets_of rows) × (take (length rows) lefts ≡ lefts_of rows) × (take (length rows) rights ≡ rights_of rows)
    all_read passed l =
        let all : r.rows ≡ length rows = (bounds.passed passed l).0 in (
          read_whole packets (packets_of rows) (length rows) r.rows read.1 (column_length _ rows) all l,
          read_whole lefts (lefts_of rows) (length rows) r.rows read.2 (column_length _ rows) all l,
          read_whole rights (rights_of rows) (length rows) r.rows read.3 (column_length _ rows) all l,
        )

    first_stray : pair_tests ts L R ≡ Ok tt → length rows ≤ 65535
        → stray ≡ or_end (length rows) (lowest (strays (take (length rows) packets) (take (length rows) lefts) (take (length rows) rights) (product (pair_core ts L R)) (dups_of L R)) (length rows))
    first_stray passed l =
        let e = bounds.passed passed l in
        let c = all_read passed l in
        let dups : List ℕ = dups_of L R in
        read.0 ∙ (λ i. stray_in (e.0 i) (e.1 i) (e.2 i) rows (e.0 i)) ∙ stray_lowest (length rows) (product (pair_core ts L R)) dups rows (length rows) (omega arith)
        ∙ (λ i. or_end (length rows) (lowest (strays (sym c.0 i) (sym c.1 i) (sym c.2 i) (product (pair_core ts L R)) dups) (length rows)))

    -- what the check of the lists asks
    pub read_table : ReadTable ts L R packets lefts rights (length rows) stray
    read_table =
        record {
          long = λ l. (
            as_long packets (packets_of rows) (length rows) r.rows read.1 l,
            as_long lefts (lefts_of rows) (length rows) r.rows read.2 l,
            as_long rights (rights_of rows) (length rows) r.rows read.3 l,
          );
          first = first_stray;
        }

    -- what it promises of the lists holds of the columns
    pub columns_checked : {work work' : List ℕ} {r : Evidence} → ReadChecked ts L R packets lefts rights (length rows) work r work'
        → CheckedRows ts L R (packets_of rows) (lefts_of rows) (rights_of rows) work r work'
    columns_checked done = done.columns (packets_of rows) (lefts_of rows) (rights_of rows) (column_length _ rows) (column_length _ rows) (column_length _ rows) all_read
