-- `exclusive_or` meets its contract: each turn of the loop does one more word. Assumes nothing.
use mathlib.Core.Path.{refl}
use lib.Bits.{bit_xor}
use Rattle.packet_set.specs.InnerMembers.{exclusive_or_of}
use Rattle.packet_set.proofs.Loops.{none_done, one_done, all_done}
use Rattle.packet_set.proofs.Words.{wordwise_none, wordwise_turn}
use Rattle.packet_set.proofs.exclusive_or.Goals as goal

pub loop-i-init : goal.loop-i-init
loop-i-init c = none_done _ _ _ _ (wordwise_none bit_xor _ _) refl

pub loop-i-preserved : goal.loop-i-preserved
loop-i-preserved c = one_done _ _ _ _ _ _ _ c.loop-i.invariant c.loop-i-test.true (wordwise_turn bit_xor _ _ _ _ c.loop-i.invariant.done)

pub returns : goal.returns
unfolding exclusive_or_of
returns c = all_done _ _ _ _ _ c.loop-i.invariant c.loop-i-test.false
