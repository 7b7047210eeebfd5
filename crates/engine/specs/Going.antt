-- Packets on their way through a loaded policy: what a step records, and when a packet has gone on.
use Rattle.std.specs.Prelude.{ℕ, suc, ◌<◌, ◌≤◌, false, List, ◌⊎◌, ◌≡◌, T, length, get_or}
use Rattle.packet.specs.Packets.{changed}
use Rattle.packet.specs.Sizes.{product, LegalSizes}
use Rattle.policy.specs.declared.FieldAction.TheVariants.{Set}
use Rattle.policy.specs.declared.Node.TheVariants.{Field, Dup, Sum, Seq, Star}
use Rattle.policy.specs.Legality.{Legal}
use Rattle.policy.specs.Meaning.{numbered}
use Rattle.policy.specs.NodeLists.{NodeLists, node_count, node_at, dups_below, tree_of}
use Rattle.packet_set.specs.InnerMembers.{Members, Within, member}
use Rattle.automaton.specs.Reaches.{Passes, Reaches}
use Rattle.spans.specs.Spans.{slot, has_mark, touched, Spanned}
use Rattle.loaded.specs.Nodes.{tests_at, up_at, guard_at}
use Rattle.loaded.specs.Loaded.{OnlyTests, Enterable, Loaded}

-- What is recorded is seen, what is marked is touched; the work list beyond the slots is as it was. The lists keep their lengths.
pub record Recorded (sizes work seen next work' seen' next' : List ℕ) : Type 0 where
  pub beyond : (i : ℕ) → 16384 ≤ i → get_or work' i 0 ≡ get_or work i 0
  pub seeing : ((m γ : ℕ) → T (slot work m γ) → m < 512 → T (member seen m)) → (m γ : ℕ) → T (slot work' m γ) → m < 512 → T (member seen' m)
  pub touching : ((i γ : ℕ) → T (has_mark next i γ) → T (touched next γ)) → (i γ : ℕ) → T (has_mark next' i γ) → T (touched next' γ)
  pub touching_below : ((γ : ℕ) → T (touched next γ) → γ < product sizes) → (γ : ℕ) → T (touched next' γ) → γ < product sizes
  pub work_long : length work' ≡ length work
  pub seen_long : length seen' ≡ length seen
  pub next_long : length next' ≡ length next

-- `into`: entering a node; `by_rule`: entering it and going on as its kind says; `out_of`: coming out of it
pub data Way : Type 0 where
  into by_rule out_of : Way

module _ (sizes : List ℕ) (L : NodeLists) (nodes tests : List ℕ) where
  -- A packet on its way has gone on. S: what is recorded to have entered the nodes with a slot; D i: the packets that have reached
  -- dup i. Packets that come out of the nodes whose way up is u are let out: they are in R.
  pub data Goes (S D : ℕ → Members) (u : ℕ) (R : Members) : Way → ℕ → ℕ → Type 0 where
    blocked : {n α : ℕ} → guard_at nodes tests n α ≡ false → Goes S D u R into n α
    noted : {n α : ℕ} → T (S n α) → Goes S D u R into n α
    ruled : {n α : ℕ} → Goes S D u R by_rule n α → Goes S D u R into n α
    tested : {n α : ℕ} → OnlyTests sizes L nodes tests n → Goes S D u R out_of n α → Goes S D u R by_rule n α
    changing : {n α : ℕ} (f v : ℕ) → node_at L n ≡ Field (Set f v) → Goes S D u R out_of n (changed sizes f v α) → Goes S D u R by_rule n α
    recorded : {n α : ℕ} → node_at L n ≡ Dup → T (D (dups_below L (suc n)) α) → Goes S D u R by_rule n α
    branching : {n α : ℕ} (l r : ℕ) → tests_at nodes n ≡ false → node_at L n ≡ Sum l r → Goes S D u R into l α → Goes S D u R into r α → Goes S D u R by_rule n α
    starting : {n α : ℕ} (l r : ℕ) → tests_at nodes n ≡ false → node_at L n ≡ Seq l r → Goes S D u R into l α → Goes S D u R by_rule n α
    turning : {n α : ℕ} (c : ℕ) → tests_at nodes n ≡ false → node_at L n ≡ Star c → Goes S D u R into c α → Goes S D u R out_of n α → Goes S D u R by_rule n α
    let_out : {n γ : ℕ} → up_at nodes n ≡ u → T (R γ) → Goes S D u R out_of n γ
    resting : {n γ : ℕ} (q l r : ℕ) → up_at nodes n ≡ q → q < node_count L → node_at L q ≡ Seq l r → Goes S D u R into r γ → Goes S D u R out_of n γ
    repeating : {n γ : ℕ} (q c : ℕ) → up_at nodes n ≡ q → q < node_count L → node_at L q ≡ Star c → Goes S D u R into q γ → Goes S D u R out_of n γ

  -- X enters node n, where S and D are recorded before; R comes out, and then S' and D' are recorded
  pub record Through (n : ℕ) (X : Members) (S D : ℕ → Members) (R : Members) (S' D' : ℕ → Members) : Type 0 where
    -- no more than p lets through comes out, no more reaches the dups
    pub out : (γ : ℕ) → T (R γ) → (α : ℕ) × T (X α) × Passes (numbered sizes) (tree_of L n) α γ
    pub dups : (i γ : ℕ) → T (D' i γ) → T (D i γ) ⊎ ((α : ℕ) × T (X α) × Reaches (numbered sizes) (tree_of L n) i α γ)
    -- what was recorded stays
    pub slots_stay : (m : ℕ) → Within (S m) (S' m)
    pub dups_stay : (i : ℕ) → Within (D i) (D' i)
    -- no less: what entered has gone on, and so has all that is newly recorded
    pub entered : (α : ℕ) → T (X α) → Goes S' D' (up_at nodes n) R into n α
    pub gone : (m α : ℕ) → T (S' m α) → T (S m α) ⊎ Goes S' D' (up_at nodes n) R by_rule m α

  -- the same of the lists: slots in the work list, marks in the next list
  pub record ThroughLists (n : ℕ) (set work seen next : List ℕ) (from to : ℕ) (set' work' seen' next' : List ℕ) : Type 0 where
    pub through : Through n (member set) (slot work) (has_mark next) (member set') (slot work') (has_mark next')
    pub spanned : Spanned from to set'
    pub recorded : Recorded sizes work seen next work' seen' next'

  -- what a visit asks
  pub record VisitReady (n from to : ℕ) (set work : List ℕ) : Type 0 where
    pub legal_sizes : LegalSizes sizes
    pub legal : Legal sizes L
    pub loaded : Loaded sizes L nodes tests
    pub node : n < node_count L
    pub enterable : Enterable sizes L nodes tests n
    pub below : (γ : ℕ) → T (member set γ) → γ < product sizes
    pub spanned : Spanned from to set
    pub long : 16384 ≤ length work
