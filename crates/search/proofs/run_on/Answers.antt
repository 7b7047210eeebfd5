-- `run_on` meets its contract. Assumes nothing.
use Rattle.index.proofs.Lent.{read_indexed, indexed_read}
use Rattle.search.proofs.Levels.{rest_index, rest_ready, rest_ends, rest_never}
use Rattle.search.proofs.run_on.Goals as goal

pub index_rows-requires : goal.index_rows-requires
index_rows-requires c =
    let both = rest_index c.requires in
    let e = c.columns.ensures in
    record { indexed = indexed_read c.columns.result e.packets e.left e.right both.0; indexable = rw e.packets both.1 }

pub rounds-requires : goal.rounds-requires
rounds-requires c = let e = c.columns.ensures in rest_ready c.requires (read_indexed c.columns.result e.packets e.left e.right c.index_rows.ensures)

pub unreachable-requires : goal.unreachable-requires
unreachable-requires c = let e = c.columns.ensures in rest_never c.requires (read_indexed c.columns.result e.packets e.left e.right c.index_rows.ensures) c.rounds.ensures.rounds c.index_rows.auto.trees _ c.in-Err.is

pub returns-clause-rest : goal.returns-clause-rest
returns-clause-rest c = let e = c.columns.ensures in rest_ends c.requires (read_indexed c.columns.result e.packets e.left e.right c.index_rows.ensures) c.rounds.ensures.rounds _ c.in-Ok.is
