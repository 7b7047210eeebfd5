-- `class_in` meets its contract. Assumes nothing.
use Rattle.turning.proofs.Classes.{one_class, own_class}
use Rattle.turning.proofs.class_in.Goals as goal

pub returns-then-count-eq1 : goal.returns-then-count-eq1
returns-then-count-eq1 c = one_class _ _ c.if-count-eq1.true

pub returns : goal.returns
returns c = own_class _ _ c.if-count-eq1.false
