-- One step of a state of a loaded policy at a packet (document 01, "States and rows"): it adds the output to a set and the marks of
-- next to a list.
use Rattle.std.specs.Prelude.{ℕ, suc, pred, ◌<◌, ◌≤◌, ◌||◌, List, ◌⊎◌, ◌≡◌, T, length, get_or}
use Rattle.packet.specs.Sizes.{product, LegalSizes}
use Rattle.policy.specs.Legality.{Legal}
use Rattle.policy.specs.Meaning.{numbered}
use Rattle.policy.specs.NodeLists.{NodeLists, node_count, dups_below, policy_of}
use Rattle.packet_set.specs.Bits.{bit}
use Rattle.packet_set.specs.InnerMembers.{Members, Within, member}
use Rattle.automaton.specs.Remainder.{remainder}
use Rattle.automaton.specs.Reaches.{Passes, Reaches}
use Rattle.automaton.specs.State.{Marks, output_mask, next_mask}
use Rattle.spans.specs.Spans.{slot, has_mark, touched, Spanned, Holds}
use Rattle.loaded.specs.Nodes.{place_at}
use Rattle.loaded.specs.Loaded.{Loaded}
use Rattle.engine.specs.Going.{into, by_rule, out_of, Goes, Recorded}

-- The marked remainders below i have been stepped from β, where R₀ and D₀ were gathered before and nothing was recorded in the slots.
-- By now S is recorded, and R and D are gathered.
pub record Steps (sizes : List ℕ) (L : NodeLists) (nodes tests : List ℕ) (R₀ : Members) (D₀ : ℕ → Members) (marks : Marks) (β i : ℕ) (S D : ℕ → Members) (R : Members) : Type 0 where
  pub outputs : (γ : ℕ) → T (R γ) → T (R₀ γ) ⊎ ((j : ℕ) × T (marks j) × Passes (numbered sizes) (remainder (policy_of L) j) β γ)
  pub dups : (k γ : ℕ) → T (D k γ) → T (D₀ k γ) ⊎ ((j : ℕ) × T (marks j) × Reaches (numbered sizes) (remainder (policy_of L) j) k β γ)
  pub outputs_stay : Within R₀ R
  pub dups_stay : (k : ℕ) → Within (D₀ k) (D k)
  -- all has gone on
  pub closed : (m α : ℕ) → m < node_count L → T (S m α) → Goes sizes L nodes tests S D 512 R by_rule m α
  pub whole : 0 < i → T (marks 0) → Goes sizes L nodes tests S D 512 R into (pred (node_count L)) β
  pub after : (j : ℕ) → 0 < j → j < i → j ≤ dups_below L (node_count L) → T (marks j) → Goes sizes L nodes tests S D 512 R out_of (place_at nodes j) β

-- the policy is loaded, and the packet is one
pub record Stands (sizes : List ℕ) (L : NodeLists) (nodes tests : List ℕ) (β : ℕ) : Type 0 where
  pub legal_sizes : LegalSizes sizes
  pub legal : Legal sizes L
  pub loaded : Loaded sizes L nodes tests
  pub packet : β < product sizes

module _ (sizes nodes tests : List ℕ) where
  -- a remainder may be stepped, for some policy that is loaded
  pub record RemainderReady (β from to : ℕ) (out work seen next : List ℕ) : Type 0 where
    pub lists : NodeLists
    pub stands : Stands sizes lists nodes tests β
    pub spanned : Spanned from to out
    pub long : 16384 ≤ length work
    pub arrays : (length seen ≡ 16) × (length next ≡ 1056)

  -- remainder i has been stepped too, whatever was gathered before
  pub record RemainderStepped (i β : ℕ) (out work seen next : List ℕ) (from to : ℕ) (out' work' seen' next' : List ℕ) : Type 0 where
    pub spanned : Spanned from to out'
    pub recorded : Recorded sizes work seen next work' seen' next'
    pub followed : (L : NodeLists) → Stands sizes L nodes tests β → (R₀ : Members) (D₀ : ℕ → Members) (marks : Marks)
        → Steps sizes L nodes tests R₀ D₀ marks β i (slot work) (has_mark next) (member out) → T (marks i)
        → Steps sizes L nodes tests R₀ D₀ marks β (suc i) (slot work') (has_mark next') (member out')

  -- the same if the state marks remainder i, and else nothing is done
  pub record Visited (state i β : ℕ) (out work seen next : List ℕ) (from to : ℕ) (out' work' seen' next' : List ℕ) : Type 0 where
    pub spanned : Spanned from to out'
    pub recorded : Recorded sizes work seen next work' seen' next'
    pub visited : (L : NodeLists) → Stands sizes L nodes tests β → (R₀ : Members) (D₀ : ℕ → Members)
        → Steps sizes L nodes tests R₀ D₀ (bit state) β i (slot work) (has_mark next) (member out)
        → Steps sizes L nodes tests R₀ D₀ (bit state) β (suc i) (slot work') (has_mark next') (member out')

  -- what a step asks: the first words of the work list are 0
  pub record StepReady (β from to : ℕ) (out work next : List ℕ) : Type 0 where
    pub lists : NodeLists
    pub stands : Stands sizes lists nodes tests β
    pub spanned : Spanned from to out
    pub long : 16384 ≤ length work
    pub marks_long : length next ≡ 1056
    pub zero : (i : ℕ) → i < 16384 → get_or work i 0 ≡ 0

  -- the output and the marks are added; the work list is as it was
  pub record Stepped (state β : ℕ) (out next work : List ℕ) (from to : ℕ) (out' next' work' : List ℕ) : Type 0 where
    pub output : (L : NodeLists) → Stands sizes L nodes tests β → Holds from to out' (λ γ. member out γ || bit (output_mask sizes (policy_of L) state β) γ)
    pub marks : (L : NodeLists) → Stands sizes L nodes tests β → (i γ : ℕ)
        → has_mark next' i γ ≡ (has_mark next i γ || bit (next_mask sizes (policy_of L) (dups_below L (node_count L)) state β γ) i)
    pub touching : ((i γ : ℕ) → T (has_mark next i γ) → T (touched next γ)) → (i γ : ℕ) → T (has_mark next' i γ) → T (touched next' γ)
    pub touching_below : ((γ : ℕ) → T (touched next γ) → γ < product sizes) → (γ : ℕ) → T (touched next' γ) → γ < product sizes
    pub marks_long : length next' ≡ length next
    pub kept : work' ≡ work
