-- `netkat_trace` meets its contract. Assumes nothing.
use Rattle.exports.proofs.Laws.{trace_out}
use Rattle.exports.proofs.netkat_trace.Goals as goal

pub returns : goal.returns
returns c = trace_out c.tables.ensures c.policy.ensures c.policy-2.ensures c.check.ensures c.of_trace.ensures
