-- A node packed into one number of 64 bits. From the lowest: bits 0 to 3 the kind, 4 to 19 the first entry, 20 to 35 the second, 36 to
-- 44 the number of a packet set, 45 whether the tree of the node is made of tests alone, 46 to 51 the dup's number, 52 to 61 the node
-- above at which what comes out of this one goes on, 62 whether a slot is kept.
use Rattle.std.specs.Prelude.{ℕ, ◌+◌, ◌/◌, ◌%◌, Bool, ◌||◌, List, eqb, get_or}
use Rattle.policy.specs.declared.Node.{Node}
use Rattle.policy.specs.NodeLists.{node_of}
use Rattle.packet_set.specs.InnerMembers.{Members}
use Rattle.spans.specs.Spans.{slot}

unfoldable pub node_in : ℕ → Node
node_in x = node_of (x % 16) (x / 16 % 65536) (x / 1048576 % 65536)

unfoldable pub set_in : ℕ → ℕ
set_in x = x / 68719476736 % 512

unfoldable pub tests_in : ℕ → Bool
tests_in x = eqb (x / 35184372088832 % 2) 1

unfoldable pub label_in : ℕ → ℕ
label_in x = x / 70368744177664 % 64

unfoldable pub up_in : ℕ → ℕ
up_in x = x / 4503599627370496 % 1024

unfoldable pub slot_in : ℕ → Bool
slot_in x = eqb (x / 4611686018427387904 % 2) 1

-- the same of node n
unfoldable pub read_at : List ℕ → ℕ → Node
read_at nodes n = node_in (get_or nodes n 0)

unfoldable pub tests_at : List ℕ → ℕ → Bool
tests_at nodes n = tests_in (get_or nodes n 0)

-- where what comes out of node n goes on: at the sequence whose first part n ends, or the star whose body n ends; 512: nowhere
unfoldable pub up_at : List ℕ → ℕ → ℕ
up_at nodes n = up_in (get_or nodes n 0)

-- the packets that node n may let in; set 0 is every packet
unfoldable pub guard_at : List ℕ → List ℕ → ℕ → Members
guard_at nodes tests n γ = eqb (set_in (get_or nodes n 0)) 0 || slot tests (set_in (get_or nodes n 0)) γ

-- the node of remainder i: the root for 0, its dup for others; 512: there is none
unfoldable pub place_at : List ℕ → ℕ → ℕ
place_at nodes i = get_or nodes (512 + i) 0
