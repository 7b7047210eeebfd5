-- What remains of a policy after one of its dups: document 004's right spine. Bit 0 of a state stands for the whole policy.
use Rattle.std.specs.Prelude.{ℕ, zero, suc, true, cond, List, ◌≡◌, eqb}
use Rattle.std.proofs.Math.Option.{Option, none, some, get_or}
use Rattle.policy.specs.Legality.{InFields}
use Rattle.policy.specs.Tests.{negates_tests}
use Rattle.policy.specs.Tree.{Policy, drop, id, field, dup, sum, seq, star, neg}
use Rattle.policy.specs.Visits.{Labelled}

unfoldable pub or_else : Option Policy → Option Policy → Option Policy
or_else none s = s
or_else (some r) s = some r

unfoldable pub followed_by : Option Policy → Policy → Option Policy
followed_by none q = none
followed_by (some r) q = some (seq r q)

-- the right spine of dup i: rsp(dup) = 1; rsp(p + q) = rsp(p) ∪ rsp(q); rsp(pq) = rsp(p)·q ∪ rsp(q); rsp(p*) = rsp(p)·p*; what is negated
-- has no dup
unfoldable pub right_spine : Policy → ℕ → Option Policy
right_spine drop i = none
right_spine id i = none
right_spine (field a) i = none
right_spine (dup j) i = cond (eqb i j) (some id) none
right_spine (sum p q) i = or_else (right_spine p i) (right_spine q i)
right_spine (seq p q) i = or_else (followed_by (right_spine p i) q) (right_spine q i)
right_spine (star p) i = followed_by (right_spine p i) (star p)
right_spine (neg p) i = none

-- what bit i of a state stands for: the whole policy, or what remains after dup i (nothing, if there is no such dup)
unfoldable pub remainder : Policy → ℕ → Policy
remainder p zero = p
remainder p (suc i) = get_or (right_spine p (suc i)) drop

-- what the laws of output and next ask of a tree: tests and changes within the fields, negations over tests alone, dups with different
-- numbers from 1 to dups
pub record Evaluable (sizes : List ℕ) (dups : ℕ) (p : Policy) : Type 0 where
  pub in_fields : InFields sizes p
  pub negates : negates_tests p ≡ true
  pub labelled : Labelled dups p
