-- The packets that a policy made of tests alone lets through.
use Rattle.std.specs.Prelude.{ℕ, ◌&&◌, List, ltb}
use Rattle.packet.specs.Sizes.{product}
use Rattle.policy.specs.Meaning.{numbered}
use Rattle.policy.specs.Tests.{passes}
use Rattle.policy.specs.Tree.{Policy}
use Rattle.packet_set.specs.InnerMembers.{Members}

-- the packets that pass
unfoldable pub passing : List ℕ → Policy → Members
passing sizes p γ = ltb γ (product sizes) && passes (numbered sizes) p γ
