-- `index_chosen` meets its contract. Assumes nothing.
use lib.Dec.{lit≤}
use native.Mathlib.Omega.{arith}
use Rattle.evidence.proofs.Stepping.{vacant}
use Rattle.evidence.proofs.index_chosen.Goals as goal

pub starts_checked-requires : goal.starts_checked-requires
starts_checked-requires c = record { cleared = c.requires; vacant = vacant _ _ _ _ _ _ c.requires 12288 (lit≤ tt) (omega (arith, c.if-columns-le4096.true)) }

pub starts_checked-requires-2 : goal.starts_checked-requires-2
starts_checked-requires-2 c = record { cleared = c.requires; vacant = vacant _ _ _ _ _ _ c.requires 196608 (lit≤ tt) (omega (arith, c.requires.lent.numbered)) }
