-- `index::bucket` meets its contract: the packet's range lies within the buckets. Assumes nothing.
use native.Mathlib.Nat.{mod-lt}
use native.Mathlib.Omega.{arith}
use Rattle.index.proofs.Hashing.{held_positive, held_range, held_bucket}
use Rattle.index.proofs.bucket.Goals as goal

pub overflow_mul-result : goal.overflow_mul-result
overflow_mul-result c = record { fits = omega (arith, held_range _ _ c.args.row c.requires.packet_lt_count c.requires.count_le_size _ _ c.from.ensures c.from-2.ensures) }

pub nonzero_rem-result : goal.nonzero_rem-result
nonzero_rem-result c = held_positive _ _ c.args.row c.requires.packet_lt_count c.requires.count_le_size _ c.from-2.result c.from.ensures c.from-2.ensures

pub overflow_add-result : goal.overflow_add-result
overflow_add-result c = record { fits = omega (arith, held_range _ _ c.args.row c.requires.packet_lt_count c.requires.count_le_size _ _ c.from.ensures c.from-2.ensures, mod-lt c.hash.result (held_positive _ _ c.args.row c.requires.packet_lt_count c.requires.count_le_size _ _ c.from.ensures c.from-2.ensures)) }

pub returns : goal.returns
returns c = (held_bucket _ _ c.args.row c.requires.packet_lt_count c.requires.count_le_size _ _ c.from.ensures c.from-2.ensures _ c.hash.ensures, omega (arith, held_range _ _ c.args.row c.requires.packet_lt_count c.requires.count_le_size _ _ c.from.ensures c.from-2.ensures, mod-lt c.hash.result (held_positive _ _ c.args.row c.requires.packet_lt_count c.requires.count_le_size _ _ c.from.ensures c.from-2.ensures)))
