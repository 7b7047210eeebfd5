-- `evidence::check` meets its contract: the causes in order, then the table. Assumes nothing.
use mathlib.Core.List.{[], ◌∷◌}
use Rattle.evidence.proofs.Answering.{refused, stray_asks, table_asks, table_answered}
use Rattle.evidence.proofs.check.Goals as goal

pub first_stray-stray-requires : goal.first_stray-stray-requires
first_stray-stray-requires c =
    let both = stray_asks _ _ _ _ _ _ c.args.work.now c.lists_stage-lists.ensures c.in-Ok.ensures (λ k. c.from.ensures k ∷ c.from-in-Ok.ensures k ∷ []) in
    record { even_columns = both.0; packets_len_bound = both.1.0; dups_fit = both.1.1 }

pub table_checked-requires : goal.table_checked-requires
table_checked-requires c =
    let both = table_asks _ _ _ _ _ _ _ c.lists_stage-lists.ensures c.in-Ok.ensures (λ k. c.from.ensures k ∷ c.from-in-Ok.ensures k ∷ []) c.first_stray-stray.ensures in
    record { lent_table = both.0; stray_is = both.1 }

pub returns-in-Err : goal.returns-in-Err
returns-in-Err c = refused _ _ _ _ _ _ _ c.lists_stage-lists.ensures c.in-Err.ensures

pub returns-in-Ok : goal.returns-in-Ok
returns-in-Ok c = table_answered _ _ _ _ _ _ _ c.lists_stage-lists.ensures c.in-Ok.ensures _ _ c.table_checked.ensures
