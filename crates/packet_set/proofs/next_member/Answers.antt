-- `next_member` meets its contract. Assumes nothing.
use Prim.Native.Nat.{◌/◌}
use mathlib.Core.Path.{sym, ◌∙◌}
use native.Mathlib.Omega.{arith}
use Rattle.packet_set.proofs.Walk.{next_nowhere, next_here, next_beyond}
use Rattle.packet_set.proofs.next_member.Goals as goal

pub returns-then-words-start : goal.returns-then-words-start
returns-then-words-start c = sym (next_nowhere _ _ _ (omega arith))

pub returns-then-rest-ne0 : goal.returns-then-rest-ne0
returns-then-rest-ne0 c =
    rw c.from-start.ensures (sym (next_here _ _ _ (omega arith) (c.type_inv.set (c.args.from / 32)).fits (let ne = rw c.from-start.ensures at c.if-rest-ne0.true in omega arith)))

pub returns : goal.returns
returns c = (rw c.from-start.ensures at c.lowest_from.ensures) ∙ sym (next_beyond _ _ _ (rw c.from-start.ensures at c.if-rest-ne0.false))
