-- `members_in` meets its contract. Assumes nothing.
use lib.Count.{ones-le}
use Rattle.changes.proofs.members_in.Goals as goal

pub returns-else-word-eq0 : goal.returns-else-word-eq0
returns-else-word-eq0 c = ones-le 32 _ c.ranges.word.fits
