-- `keep` meets its contract.
use native.Mathlib.Omega.{arith}
use mathlib.Core.Path.{sym}
use lib.Seq.{length-take-le}
use Rattle.netkat.proofs.Growing.{wrote_room}
use Rattle.netkat.proofs.keep.Goals as goal

pub slice_bounds-bytes-end : goal.slice_bounds-bytes-end
slice_bounds-bytes-end c = sym (length-take-le _ _ (omega (arith, c.min-n.ensures)))

pub bytes-requires : goal.bytes-requires
bytes-requires c = omega (arith, length-take-le c.min-n.result c.args.chunk.now (omega (arith, c.min-n.ensures)), c.min-n.ensures, c.requires)

pub returns : goal.returns
returns c = wrote_room c.args.chunk.now _ c.min-n.ensures c.bytes.ensures
