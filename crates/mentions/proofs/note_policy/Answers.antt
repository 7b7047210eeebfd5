-- `note_policy` meets its contract: the first `i` nodes are noted. Assumes nothing.
use native.Mathlib.Omega.{arith}
use native.Mathlib.Numerals.{add-one}
use Rattle.mentions.proofs.Noting.{none_noted, next_noted, all_noted}
use Rattle.mentions.proofs.note_policy.Goals as goal

pub loop-i-init : goal.loop-i-init
loop-i-init c = none_noted _ _ _ _

pub loop-i-preserved : goal.loop-i-preserved
loop-i-preserved c = rw add-one (next_noted _ _ _ _ _ _ _ c.loop-i.invariant c.note_node.ensures)

pub returns : goal.returns
returns c = λ same. all_noted _ _ _ _ _ _ (omega (arith, same)) c.loop-i.invariant
