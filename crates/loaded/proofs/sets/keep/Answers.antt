-- `keep` meets its contract. Assumes nothing.
use native.Mathlib.Omega.{arith}
use Rattle.loaded.proofs.Meeting.{kept, kept_slot}
use Rattle.loaded.proofs.sets.keep.Goals as goal

pub returns : goal.returns
returns c = rw c.copy_from_slice.ensures.after (kept_slot _ _ _ c.requires.2 _ (kept _ _ _ c.requires.2 _ (omega arith) c.requires.0 c.requires.1))
