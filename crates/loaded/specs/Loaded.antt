-- What the lists of a loaded policy mean: they stand for the tree of the node lists, node for node.
use Rattle.std.specs.Prelude.{ℕ, suc, pred, ◌<◌, ◌≤◌, Bool, false, List, [], ◌∷◌, ◌↔◌, ◌≡◌, T, get_or}
use Rattle.packet_set.specs.Bits.{mask_bits}
use Rattle.packet.specs.Sizes.{product}
use Rattle.policy.specs.declared.FieldAction.TheVariants.{Equals, Differs, Set}
use Rattle.policy.specs.declared.Node.{Node}
use Rattle.policy.specs.declared.Node.TheVariants.{Drop, Id, Field, Dup, Sum, Seq, Star, Neg}
use Rattle.policy.specs.Meaning.{numbered, Traces}
use Rattle.policy.specs.NodeLists.{NodeLists, node_count, node_at, dups_below, tree_of}
use Rattle.policy.specs.Visits.{HasDup}
use Rattle.automaton.specs.Reaches.{Reaches}
use Rattle.loaded.specs.Nodes.{set_in, label_in, slot_in, read_at, tests_at, up_at, guard_at, place_at}

-- what comes out of the children of node n goes on where what comes out of n does, but: out of the first part of a sequence at the
-- sequence, out of the body of a star at the star
unfoldable pub Linked : (ℕ → ℕ) → ℕ → Node → Type 0
Linked up n Drop = Unit
Linked up n Id = Unit
Linked up n (Field a) = Unit
Linked up n Dup = Unit
Linked up n (Sum l r) = (up l ≡ up n) × (up r ≡ up n)
Linked up n (Seq l r) = (up l ≡ n) × (up r ≡ up n)
Linked up n (Star c) = up c ≡ n
Linked up n (Neg c) = Unit

-- a node that is not tests alone: a change of a field, a dup, a sum, a sequence or a star
unfoldable pub Moves : Node → Type 0
Moves Drop = ⊥
Moves Id = ⊥
Moves (Field (Equals f v)) = ⊥
Moves (Field (Differs f v)) = ⊥
Moves (Field (Set f v)) = Unit
Moves Dup = Unit
Moves (Sum l r) = Unit
Moves (Seq l r) = Unit
Moves (Star c) = Unit
Moves (Neg c) = ⊥

unfoldable pub KeepsSlot : List ℕ → ℕ → Node → Type 0
KeepsSlot nodes n Drop = Unit
KeepsSlot nodes n Id = Unit
KeepsSlot nodes n (Field a) = Unit
KeepsSlot nodes n Dup = Unit
KeepsSlot nodes n (Sum l r) = Unit
KeepsSlot nodes n (Seq l r) = Unit
KeepsSlot nodes n (Star c) = T (slot_in (get_or nodes n 0))
KeepsSlot nodes n (Neg c) = Unit

-- the way up from node n ends, or leads to a node above that is not tests alone
pub data Rises (L : NodeLists) (up : ℕ → ℕ) (tests : ℕ → Bool) (n : ℕ) : Type 0 where
  ends : up n ≡ 512 → Rises L up tests n
  rises : n < up n → up n < node_count L → tests (up n) ≡ false → Rises L up tests n

-- node v is the dup with number i
pub record DupAt (L : NodeLists) (i v : ℕ) : Type 0 where
  pub within : v < node_count L
  pub is_dup : node_at L v ≡ Dup
  pub numbered : i ≡ dups_below L (suc v)

module _ (sizes : List ℕ) (L : NodeLists) (nodes tests : List ℕ) where
  -- a packet from which the policy has a trace, or reaches a dup, passes its guard
  pub record Guarded (n : ℕ) : Type 0 where
    pub passing : (α : ℕ) → α < product sizes → (t : List ℕ) → Traces (numbered sizes) (tree_of L n) α t → T (guard_at nodes tests n α)
    pub reaching : (α : ℕ) → α < product sizes → (i γ : ℕ) → Reaches (numbered sizes) (tree_of L n) i α γ → T (guard_at nodes tests n α)

  -- a policy made of tests alone: from a packet of its set the packet itself is the one trace, from any other there is none
  pub record OnlyTests (n : ℕ) : Type 0 where
    pub traces : (α : ℕ) → α < product sizes → (t : List ℕ) → Traces (numbered sizes) (tree_of L n) α t ↔ (T (guard_at nodes tests n α) × (t ≡ α ∷ []))
    -- and there is no dup in it
    pub dupless : (i : ℕ) → HasDup (tree_of L n) i → ⊥

  -- a node that may be entered: if it is tests alone, its set is worked out
  unfoldable pub Enterable : ℕ → Type 0
  Enterable n = T (tests_at nodes n) → OnlyTests n

  -- the children of a node may be entered
  unfoldable pub Enters : Node → Type 0
  Enters Drop = Unit
  Enters Id = Unit
  Enters (Field a) = Unit
  Enters Dup = Unit
  Enters (Sum l r) = Enterable l × Enterable r
  Enters (Seq l r) = Enterable l × Enterable r
  Enters (Star c) = Enterable c
  Enters (Neg c) = Unit

  -- what a visit asks of a node that is not tests alone
  pub record Moving (n : ℕ) : Type 0 where
    pub moves : Moves (node_at L n)
    pub linked : Linked (up_at nodes) n (node_at L n)
    pub slotted : KeepsSlot nodes n (node_at L n)
    pub enters : Enters (node_at L n)
    pub guarded : Guarded n
    pub label : node_at L n ≡ Dup → label_in (get_or nodes n 0) ≡ dups_below L (suc n)

  -- the loaded policy
  pub record Loaded : Type 0 where
    pub node : (n : ℕ) → n < node_count L → read_at nodes n ≡ node_at L n
    pub small : (n : ℕ) → n < node_count L → set_in (get_or nodes n 0) ≤ 256
    pub moving : (n : ℕ) → n < node_count L → tests_at nodes n ≡ false → Moving n
    pub rise : (n : ℕ) → n < node_count L → Rises L (up_at nodes) (tests_at nodes) n
    -- the root
    pub root : Enterable (pred (node_count L))
    pub last : up_at nodes (pred (node_count L)) ≡ 512
    -- remainder 0 is the whole policy, remainder i follows dup i
    pub whole : place_at nodes 0 ≡ pred (node_count L)
    pub placed : (i : ℕ) → 0 < i → i ≤ dups_below L (node_count L) → DupAt L i (place_at nodes i)
    pub absent : (i : ℕ) → dups_below L (node_count L) < i → i < mask_bits → place_at nodes i ≡ 512
