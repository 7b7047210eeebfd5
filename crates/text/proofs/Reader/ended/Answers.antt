-- `Reader::ended` meets its contract.
use Rattle.text.proofs.StepLaws.{place_is, not_ended}
use Rattle.text.proofs.Reader.ended.Goals as goal

pub returns-in-Some : goal.returns-in-Some
returns-in-Some c = (not_ended _ _ c.in-Some.ensures, place_is _ _ c.in-Some.ensures)
