-- `test_under` meets its contract. Assumes nothing.
use mathlib.Core.Path.{◌∙◌, subst}
use Rattle.policy.specs.InnerEach.{Each}
use Rattle.policy.specs.NodeLists.{children}
use Rattle.loaded.specs.Loading.{test_under}
use Rattle.tree_causes.specs.Alone.{ChildrenPlaced}
use Rattle.loaded.proofs.Giving.{under_flag, under_is, under_parts, under_none, parts_placed, pick_twice}
use Rattle.loaded.proofs.numbering.test_under.Goals as goal

pub returns-then-flag-ne0 : goal.returns-then-flag-ne0
returns-then-flag-ne0 c = under_flag _ _ _ c.if-flag-ne0.true

pub pick_test-rest-requires : goal.pick_test-rest-requires
pick_test-rest-requires c = rw c.from-in-Sum.ensures ((parts_placed c.requires c.in-Sum.is).1)

pub pick_test-requires-in-Sum : goal.pick_test-requires-in-Sum
pick_test-requires-in-Sum c = rw c.from-in-Sum-2.ensures ((parts_placed c.requires c.in-Sum.is).0)

pub pick_test-requires : goal.pick_test-requires
unfolding ChildrenPlaced Each children
pick_test-requires c = rw c.from.ensures (subst ChildrenPlaced c.in-Star.is c.requires).0

pub returns-in-Sum : goal.returns-in-Sum
returns-in-Sum c =
    pick_twice _ _ _ _ _ (rw c.from-in-Sum.ensures at c.pick_test-rest.ensures) _ (rw c.from-in-Sum-2.ensures at c.pick_test-in-Sum.ensures)
    ∙ under_parts _ _ _ _ _ c.if-flag-ne0.false c.in-Sum.is

pub returns-in-Star : goal.returns-in-Star
unfolding test_under
returns-in-Star c = (rw c.from.ensures at c.pick_test.ensures) ∙ under_is _ _ _ _ c.if-flag-ne0.false c.in-Star.is

pub returns-in_default : goal.returns-in_default
returns-in_default c = under_none _ _ _ c.if-flag-ne0.false c.in_default.not-Sum c.in_default.not-Seq c.in_default.not-Star
