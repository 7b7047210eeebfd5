-- `span_of` meets its contract. Assumes nothing.
use Rattle.spans.proofs.Sets.{one_packet}
use Rattle.spans.proofs.span_of.Goals as goal

pub returns : goal.returns
returns c = rw c.from-at.ensures (one_packet _ c.requires)
