-- How the counts of causes 8 and 9 are kept while the nodes are passed.
use Rattle.std.specs.Prelude.{ℕ, ◌+◌, ◌<◌, ◌≤◌, false, List, [], ◌∷◌, ◌≡◌, length, get_or, set}
use Rattle.std.specs.Prelude.{None, Some, Result, MatchResult}
use Rattle.packet.specs.Lowest.{lowest}
use Rattle.policy.specs.AsLists.{as_lists}
use Rattle.policy.specs.InnerEach.{Each}
use Rattle.policy.specs.NodeLists.{NodeLists, node_count, dups_below}
use Rattle.policy.specs.Legality.{bad_child, times_child, too_many_dups}

-- three lists of at most 512 nodes, each child below its parent
pub record CountableChildren (L : NodeLists) : Type 0 where
  pub firsts : length L.first ≡ node_count L
  pub seconds : length L.second ≡ node_count L
  pub few : node_count L ≤ 512
  pub below : (i : ℕ) → i < node_count L → bad_child L i ≡ false

unfoldable pub with_child : List ℕ → ℕ → List ℕ
with_child counts c = set counts c (get_or counts c 0 + 1)

unfoldable pub with_children : List ℕ → List ℕ → List ℕ
with_children counts [] = counts
with_children counts (c ∷ cs) = with_children (with_child counts c) cs

-- each child has a place among the counts, and room for as many more as there are children
pub record Countable (counts children : List ℕ) : Type 0 where
  pub small : Each (λ c. c < length counts) children
  pub room : (j : ℕ) → get_or counts j 0 + length children ≤ 65535

-- the counts of children among the first n nodes
pub record ChildCounts (L : NodeLists) (counts : List ℕ) (n : ℕ) : Type 0 where
  pub long : length counts ≡ 512
  pub each : (j : ℕ) → j < 512 → get_or counts j 0 ≡ times_child L j n

-- the number of dups, where cause 9 has no place in the policies of these kinds, and else its place
abbrev pub DupCountOf : List ℕ → Result ℕ ℕ → Type 0
DupCountOf kind d =
    MatchResult d
    (λ count. (first second : List ℕ) → (lowest (too_many_dups (as_lists kind first second)) (length kind) ≡ None) × (count ≡ dups_below (as_lists kind first second) (length kind)))
    (λ place. (first second : List ℕ) → lowest (too_many_dups (as_lists kind first second)) (length kind) ≡ Some place)
