-- What the passes of the loader do.
use Rattle.std.specs.Prelude.{ℕ, zero, suc, pred, ◌+◌, ◌*◌, ◌≤◌, ◌<◌, true, false, ◌&&◌, ◌||◌, Option, Some, None, List, ◌≡◌, eqb, leb, ltb, length, get_or, set}
use Rattle.std.specs.Option.{ForSome}
use Rattle.packet_set.specs.Bits.{mask_bits}
use Rattle.packet.specs.Packets.{value_at}
use Rattle.packet.specs.Sizes.{product, LegalSizes}
use Rattle.policy.specs.declared.FieldAction.{FieldAction}
use Rattle.policy.specs.declared.Node.{Node}
use Rattle.policy.specs.declared.Node.TheVariants.{Drop, Id, Field, Dup, Sum, Seq, Star, Neg}
use Rattle.policy.specs.InnerEach.{Each}
use Rattle.policy.specs.Legality.{Legal, bad_field, field_of, value_of}
use Rattle.policy.specs.NodeLists.{NodeLists, node_count, node_at, children, dups_below, tree_of}
use Rattle.packet_set.specs.InnerMembers.{Members, member}
use Rattle.spans.specs.Spans.{slot}
use Rattle.loaded.specs.Loaded.{Linked, Rises, DupAt}
use Rattle.loaded.specs.Passing.{passing}
use Rattle.policy.specs.Tests.{is_test}

-- the lists of a policy that is legal for some sizes
pub record Formed (L : NodeLists) : Type 0 where
  pub sizes : List ℕ
  pub legal : Legal sizes L

-- ---- the ways up

-- a node that is not tests alone tells its children where what comes out of them goes on
unfoldable pub ways_told : ℕ → ℕ → List ℕ → Node → List ℕ
ways_told zero n ups Drop = ups
ways_told zero n ups Id = ups
ways_told zero n ups (Field a) = ups
ways_told zero n ups Dup = ups
ways_told zero n ups (Sum l r) = set (set ups l (get_or ups n 0)) r (get_or ups n 0)
ways_told zero n ups (Seq l r) = set (set ups l n) r (get_or ups n 0)
ways_told zero n ups (Star c) = set ups c n
ways_told zero n ups (Neg c) = ups
ways_told (suc f) n ups node = ups

-- the way up from a node
abbrev pub way_from : List ℕ → ℕ → ℕ
way_from ups n = get_or ups n 0

pub record Ways (L : NodeLists) (ups : List ℕ) : Type 0 where
  pub linked : (n : ℕ) → n < node_count L → is_test (tree_of L n) ≡ false → Linked (way_from ups) n (node_at L n)
  pub rise : (n : ℕ) → n < node_count L → Rises L (way_from ups) (λ m. is_test (tree_of L m)) n
  pub last : get_or ups (pred (node_count L)) 0 ≡ 512

-- ---- dups

pub record Labels (L : NodeLists) (labels : List ℕ) : Type 0 where
  pub labelled : (n : ℕ) → n < node_count L → get_or labels n 0 ≡ dups_below L (suc n)

-- a dup is put at the place of its number
unfoldable pub dup_placed : ℕ → ℕ → List ℕ → Node → List ℕ
dup_placed label n places Drop = places
dup_placed label n places Id = places
dup_placed label n places (Field a) = places
dup_placed label n places Dup = set places label n
dup_placed label n places (Sum l r) = places
dup_placed label n places (Seq l r) = places
dup_placed label n places (Star c) = places
dup_placed label n places (Neg c) = places

-- the nodes of the remainders; there is none: 512
pub record Places (L : NodeLists) (places : List ℕ) : Type 0 where
  pub whole : get_or places 0 0 ≡ pred (node_count L)
  pub dups : (i : ℕ) → 0 < i → i ≤ dups_below L (node_count L) → DupAt L i (get_or places i 0)
  pub none : (i : ℕ) → dups_below L (node_count L) < i → i < mask_bits → get_or places i 0 ≡ 512
  pub small : (i : ℕ) → get_or places i 0 ≤ 512

-- ---- sets

-- the set has these members
pub record HasMembers (set : List ℕ) (X : Members) : Type 0 where
  pub wide : length set ≡ 32
  pub members : (γ : ℕ) → member set γ ≡ X γ

-- the packets from `from` on, below `to`, are added
pub record RangeAdded (from to : ℕ) (set set' : List ℕ) : Type 0 where
  pub wide : length set' ≡ 32
  pub members : (γ : ℕ) → member set' γ ≡ member set γ || (leb from γ && ltb γ to)

-- the packets of both sets
pub record Met (a b r : List ℕ) : Type 0 where
  pub wide : length r ≡ 32
  pub members : (γ : ℕ) → member r γ ≡ member a γ && member b γ

-- the packets below N
unfoldable pub every_packet : List ℕ → Members
every_packet sizes γ = ltb γ (product sizes)

-- the packets below N with value v in field f
unfoldable pub with_value : List ℕ → ℕ → ℕ → Members
with_value sizes f v γ = ltb γ (product sizes) && eqb (value_at sizes f γ) v

-- a test of one field, and the packets below N
pub record Fielding (sizes : List ℕ) (count : ℕ) (all : List ℕ) (a : FieldAction) : Type 0 where
  pub sized : LegalSizes sizes
  pub counted : count ≡ product sizes
  pub every : HasMembers all (every_packet sizes)
  pub is_in_field : bad_field sizes (field_of a) (value_of a) ≡ false

-- a policy to load, and the packets below N
pub record Loading (sizes : List ℕ) (L : NodeLists) (count : ℕ) (all : List ℕ) : Type 0 where
  pub sized : LegalSizes sizes
  pub legal : Legal sizes L
  pub counted : count ≡ product sizes
  pub every : HasMembers all (every_packet sizes)

-- node n of the policy is made of tests alone
pub record TestNode (L : NodeLists) (n : ℕ) : Type 0 where
  pub within : n < node_count L
  pub alone : is_test (tree_of L n) ≡ true

-- slot k has these members, and the other slots are as they were
pub record SlotFilled (k : ℕ) (X : Members) (tests tests' : List ℕ) : Type 0 where
  pub long : length tests' ≡ length tests
  pub here : (γ : ℕ) → slot tests' k γ ≡ X γ
  pub others : (m γ : ℕ) → (m ≡ k → ⊥) → slot tests' m γ ≡ slot tests m γ

-- c where the flag is not 0, and else d
unfoldable pub pick : ℕ → ℕ → Option ℕ → Option ℕ
pick zero c d = d
pick (suc f) c d = Some c

-- the child that is tests alone, of a node that is not
unfoldable pub test_under : List ℕ → ℕ → Node → Option ℕ
test_under alone zero Drop = None
test_under alone zero Id = None
test_under alone zero (Field a) = None
test_under alone zero Dup = None
test_under alone zero (Sum l r) = pick (get_or alone l 0) l (pick (get_or alone r 0) r None)
test_under alone zero (Seq l r) = pick (get_or alone l 0) l (pick (get_or alone r 0) r None)
test_under alone zero (Star c) = pick (get_or alone c 0) c None
test_under alone zero (Neg c) = None
test_under alone (suc f) node = None

-- the node, if there is one, gets the next set
pub record Gave (sizes : List ℕ) (L : NodeLists) (node : Option ℕ) (k : ℕ) (sets tests : List ℕ) (k' : ℕ) (sets' tests' : List ℕ) : Type 0 where
  pub none : node ≡ None → (k' ≡ k) × (sets' ≡ sets) × (tests' ≡ tests)
  pub some : ForSome node (λ c. (k' ≡ k + 1) × (sets' ≡ set sets c (k + 1)) × SlotFilled (k + 1) (passing sizes (tree_of L c)) tests tests')

-- the sets of the tests that may be entered: those under nodes that are not tests alone, and the root
pub record TestSets (sizes : List ℕ) (L : NodeLists) (sets tests : List ℕ) : Type 0 where
  pub small : (n : ℕ) → get_or sets n 0 ≤ 256
  pub right : (n : ℕ) → 0 < get_or sets n 0 → (γ : ℕ) → slot tests (get_or sets n 0) γ ≡ passing sizes (tree_of L n) γ
  pub given : (n : ℕ) → n < node_count L → is_test (tree_of L n) ≡ false → Each (λ c. is_test (tree_of L c) ≡ true → 0 < get_or sets c 0) (children (node_at L n))
  pub root : is_test (tree_of L (pred (node_count L))) ≡ true → 0 < get_or sets (pred (node_count L)) 0

-- ---- guards

-- the guard of a node with a flag and a set k: of tests alone their set, of a sequence the guard of its first part
unfoldable pub guard_of : List ℕ → ℕ → ℕ → Node → ℕ
guard_of guards (suc f) k node = k
guard_of guards zero k Drop = 0
guard_of guards zero k Id = 0
guard_of guards zero k (Field a) = 0
guard_of guards zero k Dup = 0
guard_of guards zero k (Sum l r) = 0
guard_of guards zero k (Seq l r) = get_or guards l 0
guard_of guards zero k (Star c) = 0
guard_of guards zero k (Neg c) = 0

pub record Guards (L : NodeLists) (alone sets guards : List ℕ) : Type 0 where
  pub guard : (n : ℕ) → n < node_count L → get_or guards n 0 ≡ guard_of guards (get_or alone n 0) (get_or sets n 0) (node_at L n)

-- ---- slots

-- each entry is 0 or 1
unfoldable pub Flags : List ℕ → Type 0
Flags flags = (n : ℕ) → get_or flags n 0 ≤ 1

-- a sequence flags its second part
unfoldable pub seconded : List ℕ → Node → List ℕ
seconded parts Drop = parts
seconded parts Id = parts
seconded parts (Field a) = parts
seconded parts Dup = parts
seconded parts (Sum l r) = parts
seconded parts (Seq l r) = set parts r 1
seconded parts (Star c) = parts
seconded parts (Neg c) = parts

-- ---- packing

unfoldable pub packed : ℕ → ℕ → ℕ → ℕ → ℕ → ℕ → ℕ → ℕ → ℕ
packed kind first second set test label up keeps =
    kind + 16 * first + 1048576 * second + 68719476736 * set + 35184372088832 * test + 70368744177664 * label + 4503599627370496 * up + 4611686018427387904 * keeps

-- node n of the lists, packed
pub record Packed (L : NodeLists) (guards alone labels ups : List ℕ) (nodes : List ℕ) (n : ℕ) : Type 0 where
  pub keeps : ℕ
  pub flag : keeps ≤ 1
  pub star : (c : ℕ) → node_at L n ≡ Star c → keeps ≡ 1
  -- the entries are numbers of 16 bits
  pub first_small : get_or L.first n 0 < 65536
  pub second_small : get_or L.second n 0 < 65536
  pub here : get_or nodes n 0 ≡ packed (get_or L.kind n 0) (get_or L.first n 0) (get_or L.second n 0) (get_or guards n 0) (get_or alone n 0) (get_or labels n 0) (get_or ups n 0) keeps

-- the parts of the nodes fit
pub record Fitting (L : NodeLists) (guards alone labels ups parts : List ℕ) : Type 0 where
  pub formed : Formed L
  pub sets : (n : ℕ) → n < node_count L → get_or guards n 0 < 512
  pub flags : (n : ℕ) → n < node_count L → get_or alone n 0 < 2
  pub numbers : (n : ℕ) → n < node_count L → get_or labels n 0 < 64
  pub ways : (n : ℕ) → n < node_count L → get_or ups n 0 < 1024
  pub seconds : Flags parts

-- the nodes are packed
pub record PackedAll (L : NodeLists) (guards alone labels ups nodes nodes' : List ℕ) : Type 0 where
  pub long : length nodes' ≡ length nodes
  pub each : (n : ℕ) → n < node_count L → Packed L guards alone labels ups nodes' n

-- the places stand after the nodes, which are as they were
pub record PlacedAll (places nodes nodes' : List ℕ) : Type 0 where
  pub after : (i : ℕ) → i < mask_bits → get_or nodes' (512 + i) 0 ≡ get_or places i 0
  pub before : (n : ℕ) → n < 512 → get_or nodes' n 0 ≡ get_or nodes n 0
