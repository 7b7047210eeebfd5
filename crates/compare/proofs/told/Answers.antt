-- `told` meets its contract. Assumes nothing.
use mathlib.Core.Bool.{true, false}
use mathlib.Core.Path.{sym, ◌∙◌}
use Rattle.compare.proofs.Comparing.{apart_small, told_same, told_side}
use Rattle.compare.proofs.told.Goals as goal

pub returns-in_default : goal.returns-in_default
returns-in_default c = told_same _ _ _ _ c.exclusive_or.ensures _ c.lowest_member.ensures c.in_default.is

pub contains-requires : goal.contains-requires
contains-requires c = apart_small _ _ _ _ c.exclusive_or.ensures _ c.lowest_member.ensures c.requires _ c.in-Some.is

pub returns-then-contains : goal.returns-then-contains
returns-then-contains c = told_side _ _ _ _ c.exclusive_or.ensures _ c.lowest_member.ensures _ c.in-Some.is true (sym c.contains.ensures ∙ c.if-contains.true)

pub returns-else-contains : goal.returns-else-contains
returns-else-contains c = told_side _ _ _ _ c.exclusive_or.ensures _ c.lowest_member.ensures _ c.in-Some.is false (sym c.contains.ensures ∙ c.if-contains.false)
