-- `take_in` meets its contract.
use Rattle.netkat.proofs.Growing.{nothing_kept, at_end, goes_on}
use Rattle.netkat.proofs.take_in.Goals as goal

pub returns-in_default : goal.returns-in_default
returns-in_default c = nothing_kept _ _ _ c.in_default.is

pub returns-then-n-eq0 : goal.returns-then-n-eq0
returns-then-n-eq0 c = at_end _ _ _ c.in-Ok.is c.keep-kept.ensures c.if-n-eq0.true

pub returns : goal.returns
returns c = goes_on _ _ _ c.in-Ok.is c.keep-kept.ensures c.if-n-eq0.false
