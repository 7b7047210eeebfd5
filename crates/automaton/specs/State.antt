-- Output and next of a state (document 01, "States and rows"), and the traces that a state has.
use Rattle.std.specs.Prelude.{ℕ, zero, suc, Bool, false, ◌&&◌, ◌||◌, not, cond, List, [], ◌∷◌, T, eqb}
use Rattle.packet.specs.Packets.{value_at, changed}
use Rattle.packet.specs.Sizes.{product}
use Rattle.policy.specs.declared.FieldAction.{FieldAction}
use Rattle.policy.specs.declared.FieldAction.TheVariants.{Equals, Differs, Set}
use Rattle.policy.specs.Meaning.{numbered, Traces}
use Rattle.policy.specs.Tree.{Policy, drop, id, field, dup, sum, seq, star, neg}
use Rattle.policy.specs.Visits.{labels}
use Rattle.packet_set.specs.Bits.{bit, mask_of}
use Rattle.automaton.specs.Remainder.{remainder}

-- which remainders of a policy a state marks: 0 the whole policy, i what remains after dup i. A mask m marks by its bits: `bit m`
abbrev pub Marks : Type 0
Marks = ℕ → Bool

-- a set of packets is the number whose bits are its members
abbrev pub PacketSet : Type 0
PacketSet = ℕ

unfoldable pub any_below : ℕ → (ℕ → Bool) → Bool
any_below zero test = false
any_below (suc n) test = any_below n test || test n

module _ (sizes : List ℕ) where
  -- the set of the packets below N that pass a test
  unfoldable pub set_of : (ℕ → Bool) → PacketSet
  set_of test = mask_of (product sizes) test

  unfoldable pub single : ℕ → PacketSet
  single β = set_of (λ γ. eqb γ β)

  unfoldable pub union : PacketSet → PacketSet → PacketSet
  union X Y = set_of (λ γ. bit X γ || bit Y γ)

  -- the union of the sets of all numbers of a list
  unfoldable pub union_over : (ℕ → PacketSet) → List ℕ → PacketSet
  union_over set [] = 0
  union_over set (i ∷ is) = union (set i) (union_over set is)

  -- the action takes packet α to γ
  unfoldable pub takes : FieldAction → ℕ → ℕ → Bool
  takes (Equals f v) α γ = eqb (value_at sizes f α) v && eqb γ α
  takes (Differs f v) α γ = not (eqb (value_at sizes f α) v) && eqb γ α
  takes (Set f v) α γ = eqb γ (changed sizes f v α)

  -- the packets to which the action takes those of X
  unfoldable pub image : FieldAction → PacketSet → PacketSet
  image a X = set_of (λ γ. any_below (product sizes) (λ α. bit X α && takes a α γ))

  -- k rounds of a star: each adds what its body makes of the packets there are
  unfoldable pub star_rounds : ℕ → (PacketSet → PacketSet) → PacketSet → PacketSet
  star_rounds zero body X = X
  star_rounds (suc k) body X = union (star_rounds k body X) (body (star_rounds k body X))

  -- document 004's E: the one-packet traces of p, from the packets of X
  unfoldable pub flow : Policy → PacketSet → PacketSet
  flow drop X = 0
  flow id X = X
  flow (field a) X = image a X
  flow (dup i) X = 0
  flow (sum p q) X = union (flow p X) (flow q X)
  flow (seq p q) X = flow q (flow p X)
  flow (star p) X = star_rounds (product sizes) (flow p) X
  flow (neg p) X = set_of (λ γ. bit X γ && eqb (flow p (single γ)) 0)

  -- document 004's D: the packets with which p, from the packets of X, reaches dup i before any other dup
  unfoldable pub enter : Policy → PacketSet → ℕ → PacketSet
  enter drop X i = 0
  enter id X i = 0
  enter (field a) X i = 0
  enter (dup j) X i = cond (eqb i j) X 0
  enter (sum p q) X i = union (enter p X i) (enter q X i)
  enter (seq p q) X i = union (enter p X i) (enter q (flow p X) i)
  enter (star p) X i = enter p (flow (star p) X) i
  enter (neg p) X i = 0

module _ (sizes : List ℕ) (p : Policy) where
  -- the union, over the marked remainders, of the set of each; a number that no dup has stands for nothing
  unfoldable pub of_marked : Marks → (Policy → PacketSet) → PacketSet
  of_marked marks set = union_over sizes (λ i. cond (marks i) (set (remainder p i)) 0) (0 ∷ labels p)

  -- the output at packet β: the packets that are one-packet traces of some marked remainder
  unfoldable pub output_set : Marks → ℕ → PacketSet
  output_set marks β = of_marked marks (λ r. flow sizes r (single sizes β))

  -- the packets with which a marked remainder, from β, reaches dup i before any other dup
  unfoldable pub entered_set : Marks → ℕ → ℕ → PacketSet
  entered_set marks β i = of_marked marks (λ r. enter sizes r (single sizes β) i)

  unfoldable pub output : Marks → ℕ → ℕ → Bool
  output marks β γ = bit (output_set marks β) γ

  -- next at γ marks each dup that a marked remainder reaches with packet γ before any other dup
  unfoldable pub next : Marks → ℕ → ℕ → Marks
  next marks β γ i = bit (entered_set marks β i) γ

  -- the same of states as masks, for a policy with so many dups
  unfoldable pub output_mask : ℕ → ℕ → PacketSet
  output_mask m β = output_set (bit m) β

  unfoldable pub next_mask : ℕ → ℕ → ℕ → ℕ → ℕ
  next_mask dups m β γ = mask_of (suc dups) (next (bit m) β γ)

  -- t is a trace of the state from β: a trace of some marked remainder
  unfoldable pub StateTraces : Marks → ℕ → List ℕ → Type 0
  StateTraces marks β t = (i : ℕ) × T (marks i) × Traces (numbered sizes) (remainder p i) β t

  -- the run of a trace from a state: along it by next, its last packet in the output
  unfoldable pub runs : ℕ → ℕ → ℕ → List ℕ → Bool
  runs dups m β [] = false
  runs dups m β (γ ∷ []) = bit (output_mask m β) γ
  runs dups m β (γ ∷ δ ∷ t) = runs dups (next_mask dups m β γ) γ (δ ∷ t)

  unfoldable pub has_trace : ℕ → ℕ → List ℕ → Bool
  has_trace dups β t = runs dups 1 β t
