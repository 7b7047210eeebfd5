-- `Reader::count` meets its contract.
use Rattle.std.proofs.lemmas.Result.{err_from_is_err_and}
use Rattle.text.proofs.StageLaws.{counted, stopped}
use Rattle.text.proofs.Reader.count.Goals as goal

pub returns-in_err-s : goal.returns-in_err-s
returns-in_err-s c = let p = err_from_is_err_and c.from_residual.result c.from_residual.ensures.1 in rw (p.1, p.2) (stopped _ _ c.in_err-s.ensures.nodes)

pub returns : goal.returns
returns c = counted _ _ c.args.self.now.room c.in_ok-s.ensures.nodes c.ended.result c.ended.ensures
