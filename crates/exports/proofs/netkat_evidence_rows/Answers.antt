-- `netkat_evidence_rows` meets its contract. Assumes nothing.
use mathlib.Core.Path.{refl}
use Rattle.exports.proofs.Laws.{evidence_out}
use Rattle.exports.proofs.Records.{read_table, columns_checked}
use Rattle.exports.proofs.netkat_evidence_rows.Goals as goal

pub check_read-requires : goal.check_read-requires
check_read-requires c = read_table _ refl _ c.bounds_of-bounds.ensures c.read_records-stray.ensures

pub returns : goal.returns
returns c = evidence_out c.tables-tables.ensures c.policy-left.ensures c.policy-right.ensures (columns_checked _ refl _ c.bounds_of-bounds.ensures c.read_records-stray.ensures c.check_read.ensures) c.of_evidence.ensures
