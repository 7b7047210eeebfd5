-- `node` meets its contract. Assumes nothing.
use Rattle.policy.specs.NodeLists.{node_at}
use Rattle.policy.proofs.lent.PolicyLists.node.Goals as goal

pub returns : goal.returns
unfolding node_at
returns c = c.node_of.ensures
