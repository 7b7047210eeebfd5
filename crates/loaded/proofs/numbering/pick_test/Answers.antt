-- `pick_test` meets its contract. Assumes nothing.
use Rattle.loaded.proofs.Giving.{pick_no, pick_yes}
use Rattle.loaded.proofs.numbering.pick_test.Goals as goal

pub returns-then-alone-c-eq0 : goal.returns-then-alone-c-eq0
returns-then-alone-c-eq0 c = pick_no _ _ _ c.if-alone-c-eq0.true

pub returns-else-alone-c-eq0 : goal.returns-else-alone-c-eq0
returns-else-alone-c-eq0 c = pick_yes _ _ _ c.if-alone-c-eq0.false
