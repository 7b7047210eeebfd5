-- `Reader::put` meets its contract.
use mathlib.Core.Path.{refl}
use Rattle.text.proofs.PutLaws.{put_yes, put_no, same_lists}
use Rattle.text.proofs.Reader.put.Goals as goal

pub returns-then-n-self : goal.returns-then-n-self
returns-then-n-self c = record { lent = record { kind = refl; first = refl; second = refl }; nodes = put_yes _ _ _ _ _ _ _ _ c.if-n-self.true }

pub returns-else-n-self : goal.returns-else-n-self
returns-else-n-self c = record { lent = same_lists; nodes = put_no _ _ _ _ _ _ _ _ c.if-n-self.false }
