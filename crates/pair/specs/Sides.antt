-- Left and right, and two policies to compare.
use Rattle.std.specs.Prelude.{ℕ, Bool, ◌&&◌}
use Rattle.policy.specs.Tree.{Policy}
use Rattle.policy.specs.NodeLists.{NodeLists, node_count, dups_below, policy_of}

pub data Side : Type 0 where
  left right : Side

unfoldable pub other : Side → Side
other left = right
other right = left

-- one thing for each side
pub record Pair (A : Type 0) : Type 0 where
  pub left : A
  pub right : A

unfoldable pub at : {A : Type 0} → Side → Pair A → A
at left x = x.left
at right x = x.right

abbrev pub each : {A : Type 0} → (Side → A) → Pair A
each f = record { left = f left; right = f right }

-- the test passes on both sides
unfoldable pub on_both : (Side → Bool) → Bool
on_both test = test left && test right

-- a policy whose dups are numbered from 1 to dups
pub record NumberedPolicy : Type 0 where
  pub tree : Policy
  pub dups : ℕ

-- the policy of node lists
abbrev pub numbered_policy : NodeLists → NumberedPolicy
numbered_policy L = record { tree = policy_of L; dups = dups_below L (node_count L) }

abbrev pub policies : NodeLists → NodeLists → Pair NumberedPolicy
policies l r = record { left = numbered_policy l; right = numbered_policy r }
