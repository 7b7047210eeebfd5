-- What the laws of the meaning ask of a policy's tests and changes, and the policy with others in their places.
use Rattle.policy.specs.declared.FieldAction.{FieldAction}
use Rattle.policy.specs.declared.FieldAction.TheVariants.{Equals, Differs, Set}
use Rattle.policy.specs.Tree.{Policy, drop, id, field, dup, sum, seq, star, neg}
use Rattle.policy.specs.Meaning.{Packets}

-- something holds of each test and change that a policy makes
abbrev pub EachAction : (FieldAction → Type 0) → Policy → Type 0
EachAction H drop = Unit
EachAction H id = Unit
EachAction H (field a) = H a
EachAction H (dup i) = Unit
EachAction H (sum p q) = EachAction H p × EachAction H q
EachAction H (seq p q) = EachAction H p × EachAction H q
EachAction H (star p) = EachAction H p
EachAction H (neg p) = EachAction H p

-- the policy with other tests and changes in the same places
unfoldable pub with_actions : (FieldAction → FieldAction) → Policy → Policy
with_actions g drop = drop
with_actions g id = id
with_actions g (field a) = field (g a)
with_actions g (dup i) = dup i
with_actions g (sum p q) = sum (with_actions g p) (with_actions g q)
with_actions g (seq p q) = seq (with_actions g p) (with_actions g q)
with_actions g (star p) = star (with_actions g p)
with_actions g (neg p) = neg (with_actions g p)

-- the action leads from declared packets to declared packets
unfoldable pub Keeps : (P : Packets) → (P.Packet → Type 0) → FieldAction → Type 0
Keeps P Declared (Equals f v) = Unit
Keeps P Declared (Differs f v) = Unit
Keeps P Declared (Set f v) = (α : P.Packet) → Declared α → Declared (P.change f v α)
