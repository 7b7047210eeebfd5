-- Causes 4 to 9 of document 01 and 19 of document 02, each by itself; their order is in `Order`.
use Rattle.std.specs.Prelude.{ℕ, zero, suc, pred, ◌+◌, ◌≤◌, ◌<◌, Bool, false, not, ◌||◌, List, [], ◌∷◌, ◌≡◌, leb, ltb, eqb, length, get_or}
use Rattle.policy.specs.declared.FieldAction.{FieldAction}
use Rattle.policy.specs.declared.FieldAction.TheVariants.{Equals, Differs, Set}
use Rattle.policy.specs.declared.Node.{Node}
use Rattle.policy.specs.declared.Node.TheVariants.{Drop, Id, Field, Dup, Sum, Seq, Star, Neg}
use Rattle.policy.specs.Tree.{Policy}
use Rattle.policy.specs.Tests.{is_test}
use Rattle.policy.specs.InnerTransport.{EachAction}
use Rattle.policy.specs.NodeLists.{NodeLists, node_count, node_at, children, one, dups_below, tree_of}

-- cause 4: lists unequal, empty or over 512
unfoldable pub bad_lengths : NodeLists → Bool
bad_lengths L =
    not (eqb (length L.first) (node_count L)) || not (eqb (length L.second) (node_count L)) || eqb (node_count L) 0 || ltb 512 (node_count L)

-- cause 5: kind over 9
unfoldable pub bad_kind : NodeLists → ℕ → Bool
bad_kind L i = ltb 9 (get_or L.kind i 0)

-- there is no field f, or v is no value of it
unfoldable pub bad_field : List ℕ → ℕ → ℕ → Bool
bad_field sizes f v = leb (length sizes) f || leb (get_or sizes f 0) v

-- an unused entry is not 0
unfoldable pub used : ℕ → Bool
used a = not (eqb a 0)

-- cause 6: field, value or unused entry wrong; kinds 6 and 7 use both entries, kinds 8 and 9 the first
unfoldable pub wrong_entries : List ℕ → ℕ → ℕ → ℕ → Bool
wrong_entries sizes zero a b = used a || used b
wrong_entries sizes (suc zero) a b = used a || used b
wrong_entries sizes (suc (suc zero)) a b = bad_field sizes a b
wrong_entries sizes (suc (suc (suc zero))) a b = bad_field sizes a b
wrong_entries sizes (suc (suc (suc (suc zero)))) a b = bad_field sizes a b
wrong_entries sizes (suc (suc (suc (suc (suc zero))))) a b = used a || used b
wrong_entries sizes (suc (suc (suc (suc (suc (suc zero)))))) a b = false
wrong_entries sizes (suc (suc (suc (suc (suc (suc (suc zero))))))) a b = false
wrong_entries sizes (suc (suc (suc (suc (suc (suc (suc (suc k)))))))) a b = used b

unfoldable pub bad_entries : List ℕ → NodeLists → ℕ → Bool
bad_entries sizes L i = wrong_entries sizes (get_or L.kind i 0) (get_or L.first i 0) (get_or L.second i 0)

unfoldable pub some_not_below : ℕ → List ℕ → Bool
some_not_below i [] = false
some_not_below i (c ∷ cs) = leb i c || some_not_below i cs

-- cause 7: a child of node i is not below it
unfoldable pub bad_child : NodeLists → ℕ → Bool
bad_child L i = some_not_below i (children (node_at L i))

-- how often j stands in a list
unfoldable pub occurrences : ℕ → List ℕ → ℕ
occurrences j [] = 0
occurrences j (c ∷ cs) = one (eqb c j) + occurrences j cs

-- how often node j is a child of one of the first n nodes
unfoldable pub times_child : NodeLists → ℕ → ℕ → ℕ
times_child L j zero = 0
times_child L j (suc n) = times_child L j n + occurrences j (children (node_at L n))

-- cause 8: node j is not a child exactly once
unfoldable pub not_once : NodeLists → ℕ → Bool
not_once L j = not (eqb (times_child L j (node_count L)) 1)

-- a node that negates a policy not built from kinds 0 to 3, 6, 7 and 9 only
unfoldable pub negates_other : NodeLists → Node → Bool
negates_other L Drop = false
negates_other L Id = false
negates_other L (Field a) = false
negates_other L Dup = false
negates_other L (Sum l r) = false
negates_other L (Seq l r) = false
negates_other L (Star c) = false
negates_other L (Neg c) = not (is_test (tree_of L c))

-- cause 19: node i is a kind 9 that stands over any other kind
unfoldable pub bad_negation : NodeLists → ℕ → Bool
bad_negation L i = negates_other L (node_at L i)

-- the most dups that a policy may have
abbrev pub max_dups : ℕ
max_dups = 63

-- cause 9: with node i there are too many dups
unfoldable pub too_many_dups : NodeLists → ℕ → Bool
too_many_dups L i = ltb max_dups (dups_below L (suc i))

-- what evaluation asks of the lists; the tree of any node of well-formed lists serves as a policy
pub record WellFormed (sizes : List ℕ) (L : NodeLists) : Type 0 where
  pub firsts : length L.first ≡ node_count L
  pub seconds : length L.second ≡ node_count L
  pub few : node_count L ≤ 512
  pub kinds : (i : ℕ) → i < node_count L → bad_kind L i ≡ false
  pub entries : (i : ℕ) → i < node_count L → bad_entries sizes L i ≡ false
  pub below : (i : ℕ) → i < node_count L → bad_child L i ≡ false
  pub once : (j : ℕ) → times_child L j (node_count L) ≤ 1
  pub negations : (i : ℕ) → i < node_count L → bad_negation L i ≡ false
  pub dups : dups_below L (node_count L) ≤ max_dups

-- legal lists: none of causes 4 to 9 and 19 holds
pub record Legal (sizes : List ℕ) (L : NodeLists) : Type 0 where
  pub well_formed : WellFormed sizes L
  pub some : 0 < node_count L
  pub children : (j : ℕ) → j < pred (node_count L) → times_child L j (node_count L) ≡ 1

unfoldable pub field_of : FieldAction → ℕ
field_of (Equals f v) = f
field_of (Differs f v) = f
field_of (Set f v) = f

unfoldable pub value_of : FieldAction → ℕ
value_of (Equals f v) = v
value_of (Differs f v) = v
value_of (Set f v) = v

-- each test and change of the tree names a field and a value of it
unfoldable pub InFields : List ℕ → Policy → Type 0
InFields sizes = EachAction (λ a. bad_field sizes (field_of a) (value_of a) ≡ false)
