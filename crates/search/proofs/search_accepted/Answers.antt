-- `search_accepted` meets its contract. Assumes nothing.
use mathlib.Core.Path.{◌∙◌, sym}
use Rattle.search.proofs.Answering.{load_ready, run_asks, search_done}
use Rattle.search.proofs.search_accepted.Goals as goal

pub load-requires : goal.load-requires
load-requires c = load_ready c.requires

pub run-stop-requires : goal.run-stop-requires
run-stop-requires c = run_asks c.requires c.load.ensures _ c.clear.ensures

pub conclude_rows-requires : goal.conclude_rows-requires
conclude_rows-requires c = (c.run-stop.ensures.runs.runs _ _ c.load.ensures).readable

pub returns-clause-done : goal.returns-clause-done
returns-clause-done c = search_done c.requires (c.run-stop.ensures.runs.runs _ _ c.load.ensures) (c.run-stop.ensures.same_lists.parents_len ∙ c.requires.parents ∙ sym c.run-stop.ensures.same_lists.packets_len) c.run-stop.ensures.same_lists.packets_len c.conclude_rows.ensures (c.run-stop.ensures.runs.kept ∙ c.clear.ensures)
