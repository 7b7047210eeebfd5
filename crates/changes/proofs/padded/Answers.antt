-- `padded` meets its contract. Assumes nothing.
use native.Mathlib.Omega.{arith}
use Rattle.changes.proofs.Folds.{set_between}
use Rattle.changes.proofs.padded.Goals as goal

pub returns : goal.returns
returns c = rw c.copy_from_slice.ensures.after (set_between c.args.set.now (omega arith))
