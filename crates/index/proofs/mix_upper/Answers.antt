-- `index::mix_upper` meets its contract. Assumes nothing.
use Rattle.index.proofs.Hashing.{upper_none, upper_some}
use Rattle.index.proofs.mix_upper.Goals as goal

pub returns-then-upper-eq0 : goal.returns-then-upper-eq0
returns-then-upper-eq0 c = upper_none _ _ c.if-upper-eq0.true

pub returns-else-upper-eq0 : goal.returns-else-upper-eq0
returns-else-upper-eq0 c = upper_some _ _ _ c.if-upper-eq0.false c.mix.ensures.0
