-- `evidence::check_read` meets its contract: the causes in order, then the table that was read. Assumes nothing.
use mathlib.Core.Path.{sym}
use lib.Seq.{length-take-le}
use Rattle.evidence.proofs.Reading.{read_refused, read_few, read_long, read_asks, read_answered}
use Rattle.evidence.proofs.check_read.Goals as goal

pub slice_bounds-read-end : goal.slice_bounds-read-end
slice_bounds-read-end c = sym (length-take-le _ _ (read_long _ _ _ _ _ _ _ c.args.work.now c.lists_stage-lists.ensures c.requires c.in-Ok.ensures).0)

pub slice_bounds-read-end-in-Ok : goal.slice_bounds-read-end-in-Ok
slice_bounds-read-end-in-Ok c = sym (length-take-le _ _ (read_long _ _ _ _ _ _ _ c.args.work.now c.lists_stage-lists.ensures c.requires c.in-Ok.ensures).1)

pub slice_bounds-read-end-in-Ok-2 : goal.slice_bounds-read-end-in-Ok-2
slice_bounds-read-end-in-Ok-2 c = sym (length-take-le _ _ (read_long _ _ _ _ _ _ _ c.args.work.now c.lists_stage-lists.ensures c.requires c.in-Ok.ensures).2)

pub stray_spot-spot-requires : goal.stray_spot-spot-requires
stray_spot-spot-requires c = read_few _ _ _ _ _ _ _ c.args.work.now c.lists_stage-lists.ensures c.requires c.in-Ok.ensures

pub table_checked-requires : goal.table_checked-requires
table_checked-requires c =
    let both = read_asks _ _ _ _ _ _ _ _ c.lists_stage-lists.ensures c.requires c.in-Ok.ensures c.stray_spot-spot.ensures in
    record { lent_table = both.0; stray_is = both.1 }

pub returns-in-Err : goal.returns-in-Err
returns-in-Err c = read_refused _ _ _ _ _ _ _ _ c.lists_stage-lists.ensures c.in-Err.ensures

pub returns-in-Ok : goal.returns-in-Ok
returns-in-Ok c = read_answered _ _ _ _ _ _ _ _ c.lists_stage-lists.ensures c.requires c.in-Ok.ensures c.table_checked.ensures
