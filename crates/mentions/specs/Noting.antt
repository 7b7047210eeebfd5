-- How the core sizes are filled while the nodes are passed.
use Rattle.std.specs.Prelude.{ℕ, ◌<◌, Bool, cond, ◌||◌, List, [], ◌∷◌, ◌≡◌, eqb, length, get_or, take}
use Rattle.policy.specs.AsLists.{as_lists}
use Rattle.policy.specs.NodeLists.{NodeLists, node_of}
use Rattle.policy.specs.Mentions.{is_of_field, mentioned_below, core_sizes}

-- each field that passes the test has its size, each other field 1
pub record Noted (sizes : List ℕ) (test : ℕ → Bool) (core : List ℕ) : Type 0 where
  pub room : length core ≡ 8
  pub each : (f : ℕ) → f < length sizes → get_or core f 0 ≡ cond (test f) (get_or sizes f 0) 1

-- the fields that pass this test are noted too
abbrev pub NotedToo : List ℕ → (ℕ → Bool) → List ℕ → List ℕ → Type 0
NotedToo sizes more core core' = (test : ℕ → Bool) → Noted sizes test core → Noted sizes (λ f. test f || more f) core'

abbrev pub FieldNoted : List ℕ → ℕ → List ℕ → List ℕ → Type 0
FieldNoted sizes field = NotedToo sizes (λ f. eqb field f)

-- a node with any second entry
abbrev pub NodeNoted : List ℕ → ℕ → ℕ → List ℕ → List ℕ → Type 0
NodeNoted sizes kind first core core' = (second : ℕ) → NotedToo sizes (λ f. is_of_field f (node_of kind first second)) core core'

-- the first n nodes with any second entries
abbrev pub PolicyNoted : List ℕ → List ℕ → List ℕ → ℕ → List ℕ → List ℕ → Type 0
PolicyNoted sizes kind first n core core' = (second : List ℕ) → NotedToo sizes (λ f. mentioned_below (as_lists kind first second) f n) core core'

-- of two policies whose lists are equally long, with any second entries
pub record CoreSizesOf (sizes : List ℕ) (L R : NodeLists) (core : List ℕ) : Type 0 where
  pub room : length core ≡ 8
  pub sizes_of_core : length L.first ≡ length L.kind → length R.first ≡ length R.kind
      → (left right : List ℕ) → take (length sizes) core ≡ core_sizes (as_lists L.kind L.first left ∷ as_lists R.kind R.first right ∷ []) sizes
