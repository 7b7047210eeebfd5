-- `Reader::after` meets its contract.
use borrow.Author.Rules.{rules}
use Rattle.text.proofs.StepLaws.{front_other, front_none}
use Rattle.text.proofs.Reader.after.Goals as goal

pub returns-in_err-t : goal.returns-in_err-t
returns-in_err-t c = rw c.from_residual.ensures (front_none c.in_err-t.ensures)

pub returns-then-ne : goal.returns-then-ne
returns-then-ne c = front_other _ _ c.in_ok-t.ensures (search rules)
