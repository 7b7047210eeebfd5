-- `index::index_rows` meets its contract: row by row. Assumes nothing.
use mathlib.Core.Path.{◌∙◌}
use Rattle.index.proofs.Growth.{to_place, to_repeat, to_attach, to_more, to_all}
use Rattle.index.proofs.index_rows.Goals as goal
use Rattle.index.proofs.index_rows.Goals.{in-Err, in_default}

pub place-requires : goal.place-requires
place-requires c = record { indexed = c.loop-i.invariant.indexed; packet_lt_count = to_place c.requires.indexable c.loop-i.invariant.indexed c.loop-i-test.true _ c.row.ensures }

pub attach-requires : goal.attach-requires
attach-requires c =
    let both = to_attach c.requires.indexable c.loop-i.invariant c.loop-i-test.true _ c.row.ensures c.place.ensures _ c.in-Err.is in
    record { slot_in_bounds = both.0; n_bound = both.1 }

pub loop-i-preserved : goal.loop-i-preserved
loop-i-preserved c =
    elim c.match-place.branch [
      | in-Err w ↦ to_more c.requires.indexable c.loop-i.invariant c.loop-i-test.true _ c.row.ensures c.place.ensures _ w.in-Err.is _ (w.trees-is ∙ w.attach.ensures)
      | in_default w ↦ rw w.trees-is (to_repeat c.requires.indexable c.loop-i.invariant c.loop-i-test.true _ c.row.ensures c.place.ensures _ w.in_default.is)
    ]

pub returns : goal.returns
returns c = to_all c.loop-i.invariant c.loop-i-test.false
