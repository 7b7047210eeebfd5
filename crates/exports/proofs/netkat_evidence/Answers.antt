-- `netkat_evidence` meets its contract. Assumes nothing.
use Rattle.exports.proofs.Laws.{evidence_out}
use Rattle.exports.proofs.netkat_evidence.Goals as goal

pub returns : goal.returns
returns c = evidence_out c.tables.ensures c.policy.ensures c.policy-2.ensures c.check.ensures c.of_evidence.ensures
