-- One row of two loaded policies: the two outputs compared, and the states next at each packet (document 01, "States and rows").
use Rattle.std.specs.Prelude.{ℕ, ◌<◌, ◌≤◌, cond, List, ◌≡◌, length, get_or, Option, None, Some}
use Rattle.packet.specs.Sizes.{product, LegalSizes}
use Rattle.policy.specs.Legality.{Legal}
use Rattle.policy.specs.NodeLists.{NodeLists}
use Rattle.packet_set.specs.InnerMembers.{member, lowest_in, exclusive_or_of}
use Rattle.system.specs.System as system
use Rattle.system.specs.RowOrder.{lowest_telling}
use Rattle.pair.specs.Sides.{Side, left, right, policies}
use Rattle.pair.specs.Pair.{next_at, pair_system}
use Rattle.pair.specs.Search.{side_of}
use Rattle.index.specs.declared.Row.{Row}
use Rattle.index.specs.Columns.{left_of, right_of}
use Rattle.loaded.specs.Loaded.{Loaded}
use Rattle.marks.specs.Marks.{Marking, Blank}
use Rattle.compare.specs.declared.Compared.{Compared}
use Rattle.compare.specs.declared.Compared.TheVariants.{Same, Left, Right}

-- the policy on this side has packet γ in its output, the other has not
abbrev pub differs_at : Side → ℕ → Compared
differs_at left γ = Left γ
differs_at right γ = Right γ

-- the answer for the lowest packet in exactly one of the two outputs, if there is one, and the side that has each packet
unfoldable pub compared_of : (ℕ → Side) → Option ℕ → Compared
compared_of side None = Same
compared_of side (Some γ) = differs_at (side γ) γ

-- the same of two sets of k words
unfoldable pub compared_sets : ℕ → List ℕ → List ℕ → Compared
compared_sets k a b = compared_of (λ γ. cond (member a γ) left right) (lowest_in k 0 (exclusive_or_of k a b))

-- what loading both policies asks: no cause before 10 holds, and each policy has its lists
pub record LoadReady (sizes : List ℕ) (L R : NodeLists) (count : ℕ) (nodes tests : List (List ℕ)) : Type 0 where
  pub legal_sizes : LegalSizes sizes
  pub left_legal : Legal sizes L
  pub right_legal : Legal sizes R
  pub packets : count ≡ product sizes
  pub nodes_two : length nodes ≡ 2
  pub tests_two : length tests ≡ 2
  pub left_nodes : length (left_of nodes) ≡ 576
  pub left_tests : length (left_of tests) ≡ 8224
  pub right_nodes : length (right_of nodes) ≡ 576
  pub right_tests : length (right_of tests) ≡ 8224

-- both policies are loaded: no cause before 10 holds
pub record BothLoaded (sizes : List ℕ) (L R : NodeLists) (nodes tests : List (List ℕ)) : Type 0 where
  pub legal_sizes : LegalSizes sizes
  pub left_legal : Legal sizes L
  pub right_legal : Legal sizes R
  pub left_loaded : Loaded sizes L (left_of nodes) (left_of tests)
  pub right_loaded : Loaded sizes R (right_of nodes) (right_of tests)

-- two next lists with marks at packets below N alone
pub record BothMarking (N : ℕ) (next : List (List ℕ)) : Type 0 where
  pub two : length next ≡ 2
  pub left_marking : Marking N (left_of next)
  pub right_marking : Marking N (right_of next)

-- two next lists without marks
pub record BothBlank (next : List (List ℕ)) : Type 0 where
  pub two : length next ≡ 2
  pub left_blank : Blank (left_of next)
  pub right_blank : Blank (right_of next)

module _ (sizes : List ℕ) (L R : NodeLists) where
  -- the row that the masks stand for
  abbrev pub pair_row : Row → system.Row (pair_system sizes (policies L R))
  pair_row r = record { packet = r.packet; state = record { left = get_or r.states 0 0; right = get_or r.states 1 0 } }

  -- what the comparison answers at a row
  unfoldable pub answer_at : system.Row (pair_system sizes (policies L R)) → Compared
  answer_at row = compared_of (side_of sizes (policies L R) row) (lowest_telling (pair_system sizes (policies L R)) row)

  -- the answer at the row, and next at each packet
  pub record ComparedRow (row : system.Row (pair_system sizes (policies L R))) (answer : Compared) (next' : List (List ℕ)) : Type 0 where
    pub answers : answer ≡ answer_at row
    pub left_next : (γ : ℕ) → γ < product sizes → get_or (left_of next') γ 0 ≡ next_at sizes (policies L R) left row.packet row.state γ
    pub right_next : (γ : ℕ) → γ < product sizes → get_or (right_of next') γ 0 ≡ next_at sizes (policies L R) right row.packet row.state γ

module _ (sizes : List ℕ) (nodes tests : List (List ℕ)) where
  -- what the comparison asks: two policies that are loaded, a packet, next lists that are empty, and the first words of the work list 0
  pub record CompareReady (β : ℕ) (next : List (List ℕ)) (work : List ℕ) : Type 0 where
    pub lists : NodeLists
    pub others : NodeLists
    pub loaded : BothLoaded sizes lists others nodes tests
    pub packet : β < product sizes
    pub blank : BothBlank next
    pub long : 16384 ≤ length work
    pub zero : (i : ℕ) → i < 16384 → get_or work i 0 ≡ 0

  -- the row has been compared, whatever policies are loaded
  pub record ComparedStates (row : Row) (work : List ℕ) (answer : Compared) (next' : List (List ℕ)) (work' : List ℕ) : Type 0 where
    pub compared : (L R : NodeLists) → BothLoaded sizes L R nodes tests → ComparedRow sizes L R (pair_row sizes L R row) answer next'
    pub marking : BothMarking (product sizes) next'
    pub kept : work' ≡ work
