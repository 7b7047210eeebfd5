-- `lowest_from` meets its contract: the words passed are 0. Assumes nothing.
use mathlib.Core.Path.{sym}
use native.Mathlib.Omega.{arith}
use Rattle.packet_set.proofs.Walk.{lowest_at, lowest_nothing}
use Rattle.packet_set.proofs.lowest_from.Goals as goal

pub returns-then-word-ne0 : goal.returns-then-word-ne0
returns-then-word-ne0 c = sym (lowest_at _ _ _ _ c.loop-i.invariant c.loop-i.auto.i c.loop-i-test.true (omega arith) (c.type_inv.set c.loop-i.i).fits)

pub returns : goal.returns
returns c = sym (lowest_nothing _ _ _ _ c.loop-i.invariant c.loop-i-test.false)
