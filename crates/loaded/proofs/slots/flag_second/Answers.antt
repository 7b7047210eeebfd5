-- `flag_second` meets its contract. Assumes nothing.
use mathlib.Core.Path.{subst}
use native.Mathlib.Omega.{arith}
use Rattle.policy.specs.InnerEach.{Each}
use Rattle.policy.specs.NodeLists.{children}
use Rattle.loaded.specs.Loading.{seconded}
use Rattle.tree_causes.specs.Alone.{ChildrenPlaced}
use Rattle.loaded.proofs.Guarding.{seconded_is, seconded_none}
use Rattle.loaded.proofs.slots.flag_second.Goals as goal

pub bounds-parts-from : goal.bounds-parts-from
unfolding ChildrenPlaced Each children
bounds-parts-from c = let h = subst ChildrenPlaced c.in-Seq.is c.requires in omega arith

pub returns-in-Seq : goal.returns-in-Seq
unfolding seconded
returns-in-Seq c = rw c.from.ensures (seconded_is _ _ _ c.in-Seq.is)

pub returns-in_default : goal.returns-in_default
returns-in_default c = seconded_none _ _ c.in_default.not-Seq
