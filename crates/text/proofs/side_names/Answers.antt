-- `side_names` meets its contract.
use mathlib.Core.Path.{sym}
use native.Mathlib.Omega.{arith}
use lib.Seq.{length-take-le}
use Rattle.text.proofs.SideLaws.{front_put}
use Rattle.text.proofs.side_names.Goals as goal

pub slice_bounds-keep_named-end : goal.slice_bounds-keep_named-end
slice_bounds-keep_named-end c = sym (length-take-le _ _ (omega (arith, c.requires.0, c.requires.1)))

pub returns : goal.returns
returns c = front_put _ _ c.requires.0 c.requires.1 _ c.keep_named.auto.cells c.keep_named.ensures
