-- The named values of each field as they are held: keys in ascending order, and where those of each field start.
use Rattle.std.specs.Prelude.{ℕ, zero, suc, ◌<◌, ◌≤◌, ◌+◌, ◌*◌, cond, List, [], ◌∷◌, ◌++◌, map, ◌≡◌, ltb, length, get_or, take}
use Rattle.std.proofs.Math.Seq.{slice}
use Rattle.policy.specs.declared.FieldAction.{FieldAction}
use Rattle.policy.specs.declared.Node.{Node}
use Rattle.policy.specs.declared.Node.TheVariants.{Drop, Id, Field, Dup, Sum, Seq, Star, Neg}
use Rattle.policy.specs.InnerAscending.{Ascending}
use Rattle.policy.specs.InnerEach.{Each}
use Rattle.policy.specs.NodeLists.{NodeLists, node_count, node_at}
use Rattle.policy.specs.Legality.{Legal, field_of, value_of}
use Rattle.policy.specs.NamedValues.{named_values, core_sizes}
use Rattle.classes.specs.Classing.{each_field, class_entry, on_classes}
use Rattle.classes.specs.Named.{place_in, shown_in, by_name}
use Rattle.ascending.specs.Sorting.{count_below}

-- the key of a field's value: keys go by fields, and within a field by values
abbrev pub key_of : ℕ → ℕ → ℕ
key_of f v = f * 65536 + v

-- the key that a node names, if it is a test or change
unfoldable pub node_keys : Node → List ℕ
node_keys Drop = []
node_keys Id = []
node_keys (Field a) = key_of (field_of a) (value_of a) ∷ []
node_keys Dup = []
node_keys (Sum l r) = []
node_keys (Seq l r) = []
node_keys (Star c) = []
node_keys (Neg c) = []

-- the keys that the first n nodes name, in the order of the nodes
unfoldable pub keys_below : NodeLists → ℕ → List ℕ
keys_below L zero = []
keys_below L (suc n) = keys_below L n ++ node_keys (node_at L n)

-- the keys of a list behind those that were there
pub record KeysAdded (more keys : List ℕ) (n : ℕ) (keys' : List ℕ) (n' : ℕ) : Type 0 where
  pub long : length keys' ≡ length keys
  pub few : n' ≤ n + length more
  pub added : take n' keys' ≡ take n keys ++ more

-- the keys of a part are those of one field's named values, which are below 65,536, so that a key tells both
pub record KeysOf (f : ℕ) (part names : List ℕ) : Type 0 where
  pub ascending : Ascending names
  pub small : Each (λ v. v < 65536) names
  pub few : length names ≤ 1024
  pub same : part ≡ map (key_of f) names

-- the named values of field f stand from `from` on, below `to`
pub record FieldNames (f : ℕ) (names keys : List ℕ) (from to : ℕ) : Type 0 where
  pub order : from ≤ to
  pub inside : to ≤ length keys
  pub part : KeysOf f (slice from to keys) names

-- what the policies name of each field
pub record NamesOf (Ls : List NodeLists) (keys starts : List ℕ) : Type 0 where
  pub room : length keys ≡ 1024
  pub nine : length starts ≡ 9
  pub each : (f : ℕ) → f < 8 → FieldNames f (named_values Ls f) keys (get_or starts f 0) (get_or starts (suc f) 0)

-- what some policies name
pub record SomeNames (keys starts : List ℕ) : Type 0 where
  pub policies : List NodeLists
  pub names : NamesOf policies keys starts

-- a policy whose lists 4 lets pass
pub record Listed (L : NodeLists) : Type 0 where
  pub firsts : length L.first ≡ node_count L
  pub seconds : length L.second ≡ node_count L
  pub few : node_count L ≤ 512

-- a policy that is legal over at most eight fields
pub record Formed (L : NodeLists) : Type 0 where
  pub sizes : List ℕ
  pub eight : length sizes ≤ 8
  pub legal : Legal sizes L

-- the starts of some keys
pub record SomeStarts (starts : List ℕ) : Type 0 where
  pub keys : List ℕ
  pub names : SomeNames keys starts

-- the keys of a field start behind all that are lower
pub record StartsOf (keys starts : List ℕ) : Type 0 where
  pub nine : length starts ≡ 9
  pub each : (f : ℕ) → f < 9 → get_or starts f 0 ≡ count_below (key_of f 0) keys

-- the classes of a field with so many values, of which so many are named
unfoldable pub count_of : ℕ → ℕ → ℕ
count_of size named = cond (ltb named size) (suc named) named

-- a test or change is of one of the first eight fields
abbrev pub InEight : Node → Type 0
InEight x = (a : FieldAction) → x ≡ Field a → field_of a < 8

-- the class of a value, and the value shown for a class, whoever named the values
pub record ClassIs (keys starts : List ℕ) (f v r : ℕ) : Type 0 where
  pub class : (Ls : List NodeLists) → NamesOf Ls keys starts → r ≡ place_in v (named_values Ls f)

pub record ShownIs (keys starts : List ℕ) (f x r : ℕ) : Type 0 where
  pub shown : (Ls : List NodeLists) → NamesOf Ls keys starts → r ≡ shown_in (named_values Ls f) x

-- the core sizes of the fields with these sizes
pub record CoreSizesOf (sizes starts core : List ℕ) : Type 0 where
  pub room : length core ≡ 8
  pub sizes_of_core : (Ls : List NodeLists) (keys : List ℕ) → NamesOf Ls keys starts → take (length sizes) core ≡ core_sizes Ls sizes

-- the second entry of a node on classes
pub record EntryIs (keys starts : List ℕ) (node : Node) (second r : ℕ) : Type 0 where
  pub entry : (Ls : List NodeLists) (sizes : List ℕ) → NamesOf Ls keys starts → r ≡ class_entry (by_name Ls sizes) node second

-- the second entries of a policy on classes
pub record SecondsOf (L : NodeLists) (keys starts seconds : List ℕ) : Type 0 where
  pub room : length seconds ≡ 512
  pub on_classes_lem : (Ls : List NodeLists) (sizes : List ℕ) → NamesOf Ls keys starts → take (node_count L) seconds ≡ (on_classes (by_name Ls sizes) L).second

-- the classes of values, one of each field from field 0 on
pub record ClassesOf (keys starts values found : List ℕ) : Type 0 where
  pub room : length found ≡ 8
  pub classes : (Ls : List NodeLists) (sizes : List ℕ) → NamesOf Ls keys starts → take (length values) found ≡ each_field (by_name Ls sizes).class 0 values

-- the values shown for classes, one of each field from field 0 on
pub record ShownFor (keys starts classes values : List ℕ) : Type 0 where
  pub shown : (Ls : List NodeLists) (sizes : List ℕ) → NamesOf Ls keys starts → values ≡ each_field (by_name Ls sizes).shown 0 classes
