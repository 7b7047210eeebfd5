-- `compare` meets its contract. Assumes nothing.
use mathlib.Core.Path.{refl}
use Rattle.packet_set.specs.InnerMembers.{empty_set}
use Rattle.compare.proofs.Comparing.{ready_as, stepped_as, left_ready, right_ready, compared_states}
use Rattle.compare.proofs.compare.Goals as goal

pub step-a-requires : goal.step-a-requires
unfolding empty_set
step-a-requires c = ready_as c.policy.ensures (left_ready c.requires)

pub step-b-requires : goal.step-b-requires
unfolding empty_set
step-b-requires c = ready_as c.policy-2.ensures (right_ready c.requires (stepped_as c.policy.ensures c.step-a.ensures))

pub returns : goal.returns
unfolding empty_set
returns c = compared_states c.requires (stepped_as c.policy.ensures c.step-a.ensures) (stepped_as c.policy-2.ensures c.step-b.ensures) c.hull-both.ensures _ refl refl refl c.told.ensures
