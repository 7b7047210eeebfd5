-- `read` meets its contract.
use mathlib.Core.Path.{sym}
use Rattle.std.proofs.lemmas.Result.{err_from_is_err_and}
use Rattle.grammar.proofs.AnswerLaws.{tables_refuse, tables_pass}
use Rattle.text.proofs.SideLaws.{front_few, side_is}
use Rattle.text.proofs.read.Goals as goal

pub returns-in_err-joint : goal.returns-in_err-joint
returns-in_err-joint c = let p = err_from_is_err_and c.from_residual.result c.from_residual.ensures.1 in rw (p.1, p.2) (tables_refuse (sym c.in_err-joint.ensures))

pub read_with-requires : goal.read_with-requires
read_with-requires c = front_few _ _ c.in_ok-joint.ensures.1.few c.names_on-names.ensures.1

pub returns : goal.returns
returns c = tables_pass _ (sym c.in_ok-joint.ensures.0) (side_is _ _ _ c.in_ok-joint.ensures.1.named c.names_on-names.ensures.0) c.read_with.ensures
