-- Policies as trees. A dup carries its number: document 01 counts the dup nodes from 1 in node order.
use Rattle.std.specs.Prelude.{ℕ}
use Rattle.policy.specs.declared.FieldAction.{FieldAction}

pub data Policy : Type 0 where
  drop id : Policy
  field : FieldAction → Policy
  dup : ℕ → Policy
  sum seq : Policy → Policy → Policy
  star neg : Policy → Policy
