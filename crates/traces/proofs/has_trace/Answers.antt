-- `has_trace` meets its contract: the policy is loaded, then followed. Assumes nothing.
use Rattle.traces.proofs.Following.{policy_followed}
use Rattle.traces.proofs.has_trace.Goals as goal

pub returns : goal.returns
returns c = policy_followed (record { lists = _; loaded = c.load.ensures; ready = c.requires }) c.follows.ensures
