-- `read_some` meets its contract.
use Rattle.netkat.proofs.read_some.Goals as goal

pub returns : goal.returns
returns c = record { chunk = _; got = _; after = c.take_in.ensures }
