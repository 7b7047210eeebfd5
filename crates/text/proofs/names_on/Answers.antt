-- `names_on` meets its contract.
use borrow.Author.Tests.{eq-eqb, ne_eqb}
use Rattle.text.proofs.names_on.Goals as goal

pub returns-then-side-eq2 : goal.returns-then-side-eq2
returns-then-side-eq2 c = rw (eq-eqb _ _ c.if-side-eq2.true) c.side_names.ensures

pub returns : goal.returns
returns c = rw (ne_eqb _ _ c.if-side-eq2.false) c.side_names-2.ensures
