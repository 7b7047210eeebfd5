-- Three lent lists as the lists of a policy.
use Rattle.std.specs.Prelude.{ℕ, List}
use Rattle.policy.specs.declared.lent.PolicyLists.{PolicyLists}
use Rattle.policy.specs.NodeLists.{NodeLists}

abbrev pub as_lists : List ℕ → List ℕ → List ℕ → NodeLists
as_lists kind first second = record { kind = kind; first = first; second = second }

-- those of a policy that is lent
abbrev pub lists_of : PolicyLists → NodeLists
lists_of policy = as_lists policy.kind.now policy.first.now policy.second.now
