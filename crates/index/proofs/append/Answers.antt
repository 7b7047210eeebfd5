-- `index::append` meets its contract. Assumes nothing.
use Rattle.index.proofs.Adding.{placed_in, append_listed, append_full, append_more}
use Rattle.index.proofs.Growth.{attach_ready}
use Rattle.index.proofs.append.Goals as goal

pub returns-in_default-clause-appends : goal.returns-in_default-clause-appends
returns-in_default-clause-appends c = append_listed _ _ _ c.args.row _ c.requires.indexed ((placed_in c.columns.result c.columns.ensures.packets c.columns.ensures.left c.columns.ensures.right c.place_new.ensures).nowhere c.in_default.is)

pub returns-then-rows-n-clause-appends : goal.returns-then-rows-n-clause-appends
returns-then-rows-n-clause-appends c = append_full _ _ _ c.args.row _ c.requires.indexed ((placed_in c.columns.result c.columns.ensures.packets c.columns.ensures.left c.columns.ensures.right c.place_new.ensures).at _ c.in-Some.is).0 c.if-rows-n.true

pub attach-requires : goal.attach-requires
attach-requires c =
    let both = attach_ready c.requires.indexed c.if-rows-n.false ((placed_in c.columns.result c.columns.ensures.packets c.columns.ensures.left c.columns.ensures.right c.place_new.ensures).at _ c.in-Some.is).1 in
    record { slot_in_bounds = both.0; n_bound = both.1 }

pub returns-clause-appends : goal.returns-clause-appends
returns-clause-appends c = append_more _ _ _ c.args.row _ c.requires.indexed ((placed_in c.columns.result c.columns.ensures.packets c.columns.ensures.left c.columns.ensures.right c.place_new.ensures).at _ c.in-Some.is).0 c.if-rows-n.false c.requires.room_for c.requires.packet_lt_count _ ((placed_in c.columns.result c.columns.ensures.packets c.columns.ensures.left c.columns.ensures.right c.place_new.ensures).at _ c.in-Some.is).1 _ c.put.ensures.packets_after c.put.ensures.left_after c.put.ensures.right_after c.put.ensures.parents_after c.attach.ensures
