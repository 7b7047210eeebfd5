-- What a node names, by its kind, and the keys gathered node by node. Assumes nothing.
use Prim.Native.Nat.{ℕ, zero, suc, ◌<◌, ◌≤◌, ◌+◌}
use native.Mathlib.Omega.{arith}
use native.Mathlib.Numerals.{add-one}
use mathlib.Core.Bool.{false}
use mathlib.Core.List.{List, [], ◌∷◌, ◌++◌, append-nil, append_assoc}
use mathlib.Core.Path.{◌≡◌, refl, sym, ap, ◌∙◌, subst}
use lib.ListN.{length, get_or, take, set, length-set, length-append}
use lib.Seq.{take-suc-set}
use borrow.Author.Tests.{leb-false}
use Rattle.policy.specs.declared.FieldAction.{FieldAction}
use Rattle.policy.specs.declared.FieldAction.TheVariants.{Equals, Differs, Set}
use Rattle.policy.specs.declared.Node.{Node}
use Rattle.policy.specs.declared.Node.TheVariants.{Drop, Id, Field, Dup, Sum, Seq, Star, Neg}
use Rattle.policy.specs.NodeLists.{NodeLists, node_of, node_at, node_count}
use Rattle.policy.specs.Legality.{field_of, value_of, bad_field, bad_entries}
use Rattle.policy.proofs.EachLaws.{or_false}
use Rattle.policy.proofs.Trees.{OfAction, entries_name}
use Rattle.classes.specs.Classing.{Classing, class_entry}
use Rattle.value_classes.specs.Names.{key_of, node_keys, keys_below, KeysAdded, InEight, Listed, Formed}

-- ---- lists that are as long as the nodes are many

-- lists of the same length, which is at most 512
abbrev pub Alike : List ℕ → List ℕ → List ℕ → Type 0
Alike kind first second = (length first ≡ length kind) × (length second ≡ length kind) × (length kind ≤ 512)

pub listed_alike : {L : NodeLists} → Listed L → Alike L.kind L.first L.second
unfolding node_count
listed_alike h = (h.firsts, h.seconds, h.few)

pub formed_alike : {L : NodeLists} → Formed L → Alike L.kind L.first L.second
unfolding node_count
formed_alike h = (h.legal.well_formed.firsts, h.legal.well_formed.seconds, h.legal.well_formed.few)

-- ---- nodes by their kinds

-- a test or change of field f that names v
pub record Naming (x : Node) (f v : ℕ) : Type 0 where
  pub action : FieldAction
  pub node : x ≡ Field action
  pub field : field_of action ≡ f
  pub value : value_of action ≡ v

-- kinds 2, 3 and 4
pub naming : (k f v : ℕ) → 2 ≤ k → k < 5 → Naming (node_of k f v) f v
unfolding node_of field_of value_of
naming zero f v l h = let z : ⊥ = omega arith in absurd z
naming (suc zero) f v l h = let z : ⊥ = omega arith in absurd z
naming (suc (suc zero)) f v l h = record { action = Equals f v; node = refl; field = refl; value = refl }
naming (suc (suc (suc zero))) f v l h = record { action = Differs f v; node = refl; field = refl; value = refl }
naming (suc (suc (suc (suc zero)))) f v l h = record { action = Set f v; node = refl; field = refl; value = refl }
naming (suc (suc (suc (suc (suc k))))) f v l h = let z : ⊥ = omega arith in absurd z

-- all other kinds
pub naming_none : (k f v : ℕ) → (2 ≤ k → k < 5 → ⊥) → OfAction (λ a. ⊥) (node_of k f v)
unfolding OfAction node_of
naming_none zero f v h = tt
naming_none (suc zero) f v h = tt
naming_none (suc (suc zero)) f v h = h (omega arith) (omega arith)
naming_none (suc (suc (suc zero))) f v h = h (omega arith) (omega arith)
naming_none (suc (suc (suc (suc zero)))) f v h = h (omega arith) (omega arith)
naming_none (suc (suc (suc (suc (suc zero))))) f v h = tt
naming_none (suc (suc (suc (suc (suc (suc zero)))))) f v h = tt
naming_none (suc (suc (suc (suc (suc (suc (suc zero))))))) f v h = tt
naming_none (suc (suc (suc (suc (suc (suc (suc (suc zero)))))))) f v h = tt
naming_none (suc (suc (suc (suc (suc (suc (suc (suc (suc zero))))))))) f v h = tt
naming_none (suc (suc (suc (suc (suc (suc (suc (suc (suc (suc k)))))))))) f v h = tt

-- the value that a node names is its second entry
pub value_small : (k f v : ℕ) → v < 65536 → OfAction (λ a. value_of a < 65536) (node_of k f v)
unfolding OfAction node_of value_of
value_small zero f v h = tt
value_small (suc zero) f v h = tt
value_small (suc (suc zero)) f v h = h
value_small (suc (suc (suc zero))) f v h = h
value_small (suc (suc (suc (suc zero)))) f v h = h
value_small (suc (suc (suc (suc (suc zero))))) f v h = tt
value_small (suc (suc (suc (suc (suc (suc zero)))))) f v h = tt
value_small (suc (suc (suc (suc (suc (suc (suc zero))))))) f v h = tt
value_small (suc (suc (suc (suc (suc (suc (suc (suc zero)))))))) f v h = tt
value_small (suc (suc (suc (suc (suc (suc (suc (suc (suc zero))))))))) f v h = tt
value_small (suc (suc (suc (suc (suc (suc (suc (suc (suc (suc k)))))))))) f v h = tt

-- a legal policy over eight fields
pub in_eight : {L : NodeLists} → Formed L → (i : ℕ) → i < length L.kind → InEight (node_of (get_or L.kind i 0) (get_or L.first i 0) (get_or L.second i 0))
unfolding node_count node_at bad_entries bad_field OfAction
in_eight {L} h i l a e =
    let ok : OfAction (λ b. bad_field h.sizes (field_of b) (value_of b) ≡ false) (node_of (get_or L.kind i 0) (get_or L.first i 0) (get_or L.second i 0)) = entries_name h.sizes _ _ _ (h.legal.well_formed.entries i l) in
    let inside = leb-false (length h.sizes) (field_of a) (or_false _ _ (subst (OfAction (λ b. bad_field h.sizes (field_of b) (value_of b) ≡ false)) e ok)).0 in
    omega (arith, h.eight)

pub of_eight : {x : Node} {f v : ℕ} → InEight x → Naming x f v → f < 8
of_eight h n = subst (λ g. g < 8) n.field (h n.action n.node)

-- ---- keys

-- a node that is no test or change
pub no_keys : (x : Node) → OfAction (λ a. ⊥) x → node_keys x ≡ []
unfolding node_keys OfAction
no_keys Drop h = refl
no_keys Id h = refl
no_keys (Field a) h = absurd h
no_keys Dup h = refl
no_keys (Sum l r) h = refl
no_keys (Seq l r) h = refl
no_keys (Star c) h = refl
no_keys (Neg c) h = refl

pub one_key : {x : Node} {f v : ℕ} → Naming x f v → node_keys x ≡ key_of f v ∷ []
unfolding node_keys
one_key {x} h = rw h.node (cc (h.field, h.value))

keys_few : (x : Node) → length (node_keys x) ≤ 1
unfolding node_keys
keys_few Drop = omega arith
keys_few Id = omega arith
keys_few (Field a) = omega arith
keys_few Dup = omega arith
keys_few (Sum l r) = omega arith
keys_few (Seq l r) = omega arith
keys_few (Star c) = omega arith
keys_few (Neg c) = omega arith

pub keys_below_few : (L : NodeLists) (n : ℕ) → length (keys_below L n) ≤ n
unfolding keys_below
keys_below_few L zero = omega arith
keys_below_few L (suc n) = omega (arith, length-append (keys_below L n) (node_keys (node_at L n)), keys_few (node_at L n), keys_below_few L n)

module _ (keys : List ℕ) (n : ℕ) where
  pub none_added : (more : List ℕ) → more ≡ [] → KeysAdded more keys n keys n
  none_added more e = record { long = refl; few = omega arith; added = sym (append-nil (take n keys)) ∙ ap (λ (l : List ℕ). take n keys ++ l) (sym e) }

  pub one_added : (more : List ℕ) (k : ℕ) → more ≡ k ∷ [] → n < length keys → KeysAdded more keys n (set keys n k) (n + 1)
  one_added more k e h = record {
    long = length-set keys n k;
    few = omega (arith, ap length e);
    added = rw add-one (take-suc-set keys n k h ∙ ap (λ (l : List ℕ). take n keys ++ l) (sym e));
  }

  more_added : {a b middle keys' : List ℕ} {m n' : ℕ} → KeysAdded a keys n middle m → KeysAdded b middle m keys' n' → KeysAdded (a ++ b) keys n keys' n'
  more_added {a} {b} p q = record {
    long = q.long ∙ p.long;
    few = omega (arith, length-append a b, p.few, q.few);
    added = q.added ∙ ap (λ (l : List ℕ). l ++ b) p.added ∙ append_assoc (take n keys) a b;
  }

-- the key of one node more
pub next_added : (L : NodeLists) (i : ℕ) {keys middle keys' : List ℕ} {n m n' : ℕ} → KeysAdded (keys_below L i) keys n middle m → KeysAdded (node_keys (node_of (get_or L.kind i 0) (get_or L.first i 0) (get_or L.second i 0))) middle m keys' n' → KeysAdded (keys_below L (i + 1)) keys n keys' n'
unfolding keys_below node_at
next_added L i p q = rw add-one (more_added _ _ p q)

pub all_added : (L : NodeLists) (i : ℕ) {keys keys' : List ℕ} {n n' : ℕ} → i ≡ length L.kind → KeysAdded (keys_below L i) keys n keys' n' → KeysAdded (keys_below L (length L.kind)) keys n keys' n'
all_added L i {keys} {keys'} {n} {n'} e h = subst (λ m. KeysAdded (keys_below L m) keys n keys' n') e h

-- there is room for one more
pub room_left : (L : NodeLists) (i : ℕ) {keys keys' : List ℕ} {n m : ℕ} → i < 512 → n ≤ 512 → length keys ≡ 1024 → KeysAdded (keys_below L i) keys n keys' m → (m < 1024) × (length keys' ≡ 1024)
room_left L i l few room h = (omega (arith, keys_below_few L i, h.few), h.long ∙ room)

pub no_node_added : (L : NodeLists) (keys : List ℕ) (n : ℕ) → KeysAdded (keys_below L 0) keys n keys n
unfolding keys_below
no_node_added L keys n = none_added keys n [] refl

-- ---- entries on classes

module _ (c : Classing) (b : ℕ) where
  pub same_entry : (x : Node) → OfAction (λ a. ⊥) x → class_entry c x b ≡ b
  unfolding class_entry OfAction
  same_entry Drop h = refl
  same_entry Id h = refl
  same_entry (Field a) h = absurd h
  same_entry Dup h = refl
  same_entry (Sum l r) h = refl
  same_entry (Seq l r) h = refl
  same_entry (Star m) h = refl
  same_entry (Neg m) h = refl

  pub class_entry_lem : {x : Node} {f v : ℕ} → Naming x f v → class_entry c x b ≡ c.class f v
  unfolding class_entry
  class_entry_lem {x} h = rw h.node (cc (h.field, h.value))
