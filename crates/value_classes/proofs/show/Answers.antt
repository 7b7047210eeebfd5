-- `show` meets its contract: the fields below f show their values, the others have their classes. Assumes nothing.
use native.Mathlib.Omega.{arith}
use mathlib.Core.Path.{refl}
use Rattle.value_classes.proofs.Filling.{filled_none, filled_more, kept_all, kept_more}
use Rattle.value_classes.proofs.ListLaws.{shown_here, shown_found}
use Rattle.value_classes.proofs.show.Goals as goal

pub loop-f-init : goal.loop-f-init
loop-f-init c = (filled_none _ _ _ refl, kept_all _)

pub shown_of-requires : goal.shown_of-requires
shown_of-requires c = (c.requires.0, omega arith)

pub loop-f-preserved : goal.loop-f-preserved
loop-f-preserved c = (filled_more _ _ _ _ _ (omega arith) c.loop-f.invariant.0 (shown_here _ _ _ _ _ c.loop-f.invariant.1 c.shown_of.ensures), kept_more _ _ _ _ c.loop-f.invariant.1)

pub returns : goal.returns
returns c = shown_found _ _ _ _ _ (omega arith) c.loop-f.invariant.0
