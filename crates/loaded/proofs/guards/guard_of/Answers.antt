-- `guard_of` meets its contract. Assumes nothing.
use mathlib.Core.Path.{subst}
use native.Mathlib.Omega.{arith}
use Rattle.policy.specs.InnerEach.{Each}
use Rattle.policy.specs.NodeLists.{children}
use Rattle.loaded.specs.Loading.{guard_of}
use Rattle.tree_causes.specs.Alone.{ChildrenPlaced}
use Rattle.loaded.proofs.Guarding.{guard_flag, guard_is, guard_none}
use Rattle.loaded.proofs.guards.guard_of.Goals as goal

pub returns-then-flag-ne0 : goal.returns-then-flag-ne0
returns-then-flag-ne0 c = guard_flag _ _ _ _ c.if-flag-ne0.true

pub bounds-guards-from : goal.bounds-guards-from
unfolding ChildrenPlaced Each children
bounds-guards-from c = let h = subst ChildrenPlaced c.in-Seq.is c.requires in omega arith

pub returns-in-Seq : goal.returns-in-Seq
unfolding guard_of
returns-in-Seq c = rw c.from.ensures (guard_is _ _ _ _ _ c.if-flag-ne0.false c.in-Seq.is)

pub returns-in_default : goal.returns-in_default
returns-in_default c = guard_none _ _ _ _ c.if-flag-ne0.false c.in_default.not-Seq
