-- A packet that has gone on has still gone on when more is recorded, and when those let out go on further.
use Prim.Native.Nat.{ℕ}
use mathlib.Core.List.{List}
use mathlib.Core.Path.{◌≡◌, ◌∙◌, sym}
use lib.Dec.{T}
use Rattle.policy.specs.NodeLists.{NodeLists}
use Rattle.packet_set.specs.InnerMembers.{Members, Within}
use Rattle.loaded.specs.Nodes.{up_at}
use Rattle.engine.specs.Going.{Way, out_of, Goes, blocked, noted, ruled, tested, changing, recorded, branching, starting, turning, let_out, resting, repeating}

module _ {sizes : List ℕ} {L : NodeLists} {nodes tests : List ℕ} where
  -- more is recorded, and what was let out goes on
  pub goes_map : {S D S' D' : ℕ → Members} {u u' : ℕ} {R R' : Members} → ((m : ℕ) → Within (S m) (S' m)) → ((i : ℕ) → Within (D i) (D' i))
      → ((m γ : ℕ) → up_at nodes m ≡ u → T (R γ) → Goes sizes L nodes tests S' D' u' R' out_of m γ) → {w : Way} {n α : ℕ}
      → Goes sizes L nodes tests S D u R w n α → Goes sizes L nodes tests S' D' u' R' w n α
  goes_map s d on (blocked e) = blocked e
  goes_map s d on (noted {n = m} {α = γ} t) = noted (s m γ t)
  goes_map s d on (ruled g) = ruled (goes_map s d on g)
  goes_map s d on (tested o g) = tested o (goes_map s d on g)
  goes_map s d on (changing f v e g) = changing f v e (goes_map s d on g)
  goes_map s d on (recorded e t) = recorded e (d _ _ t)
  goes_map s d on (branching l r z e g h) = branching l r z e (goes_map s d on g) (goes_map s d on h)
  goes_map s d on (starting l r z e g) = starting l r z e (goes_map s d on g)
  goes_map s d on (turning c z e g h) = turning c z e (goes_map s d on g) (goes_map s d on h)
  goes_map s d on (let_out {n = m} {γ = μ} e t) = on m μ e t
  goes_map s d on (resting q l r e b k g) = resting q l r e b k (goes_map s d on g)
  goes_map s d on (repeating q c e b k g) = repeating q c e b k (goes_map s d on g)

  -- nodes with the same way up
  pub out_same : {S D : ℕ → Members} {u : ℕ} {R : Members} {m n γ : ℕ} → up_at nodes m ≡ up_at nodes n → Goes sizes L nodes tests S D u R out_of m γ
      → Goes sizes L nodes tests S D u R out_of n γ
  out_same i (let_out e t) = let_out (sym i ∙ e) t
  out_same i (resting q l r e b k g) = resting q l r (sym i ∙ e) b k g
  out_same i (repeating q c e b k g) = repeating q c (sym i ∙ e) b k g
