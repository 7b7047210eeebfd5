-- `Reader::closed` meets its contract.
use borrow.Author.Rules.{rules}
use Rattle.std.proofs.lemmas.Result.{err_from_is_err_and}
use Rattle.text.proofs.StepLaws.{front_other, front_none, end_place, place_is}
use Rattle.text.proofs.Reader.closed.Goals as goal

pub returns-in_err-t : goal.returns-in_err-t
returns-in_err-t c = let p = err_from_is_err_and c.from_residual.result c.from_residual.ensures.1 in rw (p.1, p.2) (front_none c.in_err-t.ensures.0, end_place c.in_err-t.ensures)

pub returns-then-ne : goal.returns-then-ne
returns-then-ne c = (front_other _ _ c.in_ok-t.ensures (search rules), place_is _ _ c.in_ok-t.ensures)
