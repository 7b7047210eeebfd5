-- `run` meets its contract: on a small index, then on a large one. Assumes nothing.
use Rattle.search.proofs.Levels.{run_index, run_full, run_ready, run_ends, rest_asks, run_goes_on}
use Rattle.search.proofs.run.Goals as goal

pub start-requires : goal.start-requires
start-requires c =
    let both = run_index c.requires in
    record { indexed = both.0; parents_len = both.1 }

pub returns-in_default-clause-runs : goal.returns-in_default-clause-runs
returns-in_default-clause-runs c = run_full c.requires c.start.ensures.starts c.in_default.is

pub rounds-requires : goal.rounds-requires
rounds-requires c = run_ready c.requires c.start.ensures.starts c.start.ensures.same_lists.packets_len c.start.ensures.same_lists.parents_len c.in-Some.is

pub run_on-requires : goal.run_on-requires
run_on-requires c = rest_asks c.requires c.start.ensures.starts c.start.ensures.same_lists.packets_len c.start.ensures.same_lists.parents_len c.in-Some.is c.rounds.ensures.rounds c.in-Err.is

pub returns-in-Ok-clause-runs : goal.returns-in-Ok-clause-runs
returns-in-Ok-clause-runs c = run_ends c.requires c.start.ensures.starts c.start.ensures.same_lists.packets_len c.start.ensures.same_lists.parents_len c.in-Some.is c.rounds.ensures.rounds _ c.in-Ok.is

pub returns-in-Err-clause-runs : goal.returns-in-Err-clause-runs
returns-in-Err-clause-runs c = run_goes_on c.requires c.start.ensures.starts c.start.ensures.same_lists.packets_len c.start.ensures.same_lists.parents_len c.in-Some.is c.rounds.ensures.rounds c.in-Err.is c.run_on.ensures.rest
