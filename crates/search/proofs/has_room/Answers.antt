-- `has_room` meets its contract. Assumes nothing.
use native.Mathlib.Omega.{arith}
use borrow.Author.Tests.{leb-true}
use Rattle.search.proofs.Levels.{room_left, room_told}
use Rattle.search.proofs.has_room.Goals as goal

pub returns-then-lent-size : goal.returns-then-lent-size
returns-then-lent-size c = room_left c.if-lent-size.true

pub returns-else-lent-size : goal.returns-else-lent-size
returns-else-lent-size c = room_told _ c.if-lent-size.false (λ e. let l = leb-true _ _ e in omega (arith, l, c.from.ensures))
