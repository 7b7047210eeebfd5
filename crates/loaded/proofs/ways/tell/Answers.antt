-- `tell` meets its contract. Assumes nothing.
use mathlib.Core.Path.{subst}
use native.Mathlib.Omega.{arith}
use Rattle.policy.specs.InnerEach.{Each}
use Rattle.policy.specs.NodeLists.{children}
use Rattle.loaded.specs.Loading.{ways_told}
use Rattle.tree_causes.specs.Alone.{ChildrenPlaced}
use Rattle.loaded.proofs.Upward.{told_flag, told_is, told_none}
use Rattle.loaded.proofs.ways.tell.Goals as goal

pub returns-then-flag-ne0 : goal.returns-then-flag-ne0
returns-then-flag-ne0 c = told_flag _ _ _ _ c.if-flag-ne0.true

pub bounds-ups-from : goal.bounds-ups-from
unfolding ChildrenPlaced Each children
bounds-ups-from c = let h = subst ChildrenPlaced c.in-Sum.is c.requires.0 in omega arith

pub bounds-ups-from-in-Sum : goal.bounds-ups-from-in-Sum
unfolding ChildrenPlaced Each children
bounds-ups-from-in-Sum c = let h = subst ChildrenPlaced c.in-Sum.is c.requires.0 in omega arith

pub bounds-ups-from-in-Seq : goal.bounds-ups-from-in-Seq
unfolding ChildrenPlaced Each children
bounds-ups-from-in-Seq c = let h = subst ChildrenPlaced c.in-Seq.is c.requires.0 in omega arith

pub bounds-ups-from-in-Seq-2 : goal.bounds-ups-from-in-Seq-2
unfolding ChildrenPlaced Each children
bounds-ups-from-in-Seq-2 c = let h = subst ChildrenPlaced c.in-Seq.is c.requires.0 in omega arith

pub bounds-ups-from-in-Star : goal.bounds-ups-from-in-Star
unfolding ChildrenPlaced Each children
bounds-ups-from-in-Star c = let h = subst ChildrenPlaced c.in-Star.is c.requires.0 in omega arith

pub returns-in-Sum : goal.returns-in-Sum
unfolding ways_told
returns-in-Sum c = rw (c.from.ensures, c.from-in-Sum.ensures) (told_is _ _ _ _ _ c.if-flag-ne0.false c.in-Sum.is)

pub returns-in-Seq : goal.returns-in-Seq
unfolding ways_told
returns-in-Seq c = rw (c.from-in-Seq.ensures, c.from-in-Seq-2.ensures) (told_is _ _ _ _ _ c.if-flag-ne0.false c.in-Seq.is)

pub returns-in-Star : goal.returns-in-Star
unfolding ways_told
returns-in-Star c = rw c.from-in-Star.ensures (told_is _ _ _ _ _ c.if-flag-ne0.false c.in-Star.is)

pub returns-in_default : goal.returns-in_default
returns-in_default c = told_none _ _ _ _ c.if-flag-ne0.false c.in_default.not-Sum c.in_default.not-Seq c.in_default.not-Star
