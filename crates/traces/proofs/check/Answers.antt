-- `traces::check` meets its contract: the tests, then both policies. Assumes nothing.
use mathlib.Core.Path.{◌∙◌}
use Rattle.traces.proofs.Testing.{tests_made, packets_tested}
use Rattle.traces.proofs.Calling.{lent_refused, packet_refused, left_ready, right_ready, answered}
use Rattle.traces.proofs.check.Goals as goal

pub returns-in-Err : goal.returns-in-Err
returns-in-Err c = lent_refused _ _ _ _ _ _ _ (tests_made _ _ _ _ c.lists_stage-lists.ensures c.in-Err.ensures)

pub returns-in-Err-refused_at : goal.returns-in-Err-refused_at
returns-in-Err-refused_at c =
    let told = c.in-Ok.ensures in
    packet_refused _ _ _ _ _ _ (tests_made _ _ _ _ c.lists_stage-lists.ensures told.0) c.clear.ensures _ (packets_tested _ _ _ told.1.packets c.refused_at.ensures c.lowest_bad.ensures ∙ c.in-Err-refused_at.is)

pub has_trace-left-requires : goal.has_trace-left-requires
has_trace-left-requires c =
    let told = c.in-Ok.ensures in
    left_ready _ _ _ _ _ _ (tests_made _ _ _ _ c.lists_stage-lists.ensures told.0) c.clear.ensures (packets_tested _ _ _ told.1.packets c.refused_at.ensures c.lowest_bad.ensures ∙ c.in_default.is) told.1.packets told.1.core

pub has_trace-right-requires : goal.has_trace-right-requires
has_trace-right-requires c =
    let told = c.in-Ok.ensures in
    right_ready _ _ _ _ _ _ (tests_made _ _ _ _ c.lists_stage-lists.ensures told.0) (c.has_trace-left.ensures.kept ∙ c.clear.ensures) (packets_tested _ _ _ told.1.packets c.refused_at.ensures c.lowest_bad.ensures ∙ c.in_default.is) told.1.packets told.1.core

pub returns : goal.returns
returns c =
    let told = c.in-Ok.ensures in
    answered _ _ _ _ _ _ (tests_made _ _ _ _ c.lists_stage-lists.ensures told.0) c.clear.ensures (packets_tested _ _ _ told.1.packets c.refused_at.ensures c.lowest_bad.ensures ∙ c.in_default.is) told.1.core c.has_trace-left.ensures c.has_trace-right.ensures _ c.named.ensures
