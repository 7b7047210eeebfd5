-- What fields and nodes have on classes, as whole lists. Assumes nothing.
use Prim.Native.Nat.{ℕ, zero, suc, ◌<◌, ◌≤◌}
use native.Mathlib.Omega.{arith}
use mathlib.Core.List.{List, [], ◌∷◌}
use mathlib.Core.Path.{◌≡◌, refl, sym, ap, ◌∙◌, subst}
use lib.ListN.{length, get_or}
use Rattle.policy.specs.declared.Node.{Node}
use Rattle.policy.specs.NodeLists.{NodeLists, node_of, node_count}
use Rattle.policy.proofs.Trees.{OfAction}
use Rattle.classes.specs.Classing.{Classing, class_entry, class_entries, on_classes}
use Rattle.classes.specs.Named.{by_name}
use Rattle.classes.proofs.FieldEntries.{fields_length, field_at, fields_are}
use Rattle.value_classes.specs.Names.{Formed, ClassIs, ShownIs, EntryIs, ClassesOf, ShownFor, SecondsOf}
use Rattle.value_classes.proofs.NodeLaws.{Naming, formed_alike, class_entry_lem, same_entry}
use Rattle.value_classes.proofs.Filling.{Filled, Kept, front_is}

module _ (keys starts : List ℕ) where
  -- ---- an entry for each field

  abbrev pub ClassAt : List ℕ → ℕ → ℕ → Type 0
  ClassAt values f r = ClassIs keys starts f (get_or values f 0) r

  pub classes_found : (values found : List ℕ) (n : ℕ) → length values ≤ 8 → length values ≤ n → Filled (ClassAt values) 8 n found → ClassesOf keys starts values found
  classes_found values found n few all filled =
      record {
        room = filled.long;
        classes = λ Ls sizes h.
            front_is (length values) found _ (omega (arith, filled.long)) (fields_length (by_name Ls sizes).class 0 values)
            (λ f l. (filled.each f (omega arith)).class Ls h ∙ sym (field_at (by_name Ls sizes).class values f l));
      }

  abbrev pub ShownAt : List ℕ → ℕ → ℕ → Type 0
  ShownAt classes f r = ShownIs keys starts f (get_or classes f 0) r

  -- a class that has not changed
  pub shown_here : (classes values : List ℕ) (f : ℕ) {r : ℕ} → Kept f classes values → ShownIs keys starts f (get_or values f 0) r → ShownAt classes f r
  shown_here classes values f {r} h s = subst (λ x. ShownIs keys starts f x r) (h.each f (omega arith)) s

  pub shown_found : (classes values : List ℕ) (n : ℕ) → length classes ≤ n → Filled (ShownAt classes) (length classes) n values → ShownFor keys starts classes values
  shown_found classes values n all filled =
      record { shown = λ Ls sizes h. sym (fields_are (by_name Ls sizes).shown classes values (sym filled.long) (λ f l. sym ((filled.each f (omega arith)).shown Ls h))) }

  -- ---- an entry for each node

  pub named_entry : {x : Node} {f v : ℕ} (b r : ℕ) → Naming x f v → ClassIs keys starts f v r → EntryIs keys starts x b r
  named_entry b r n h = record { entry = λ Ls sizes g. h.class Ls g ∙ sym (class_entry_lem (by_name Ls sizes) b n) }

  pub kept_entry : (x : Node) (b : ℕ) → OfAction (λ a. ⊥) x → EntryIs keys starts x b b
  kept_entry x b n = record { entry = λ Ls sizes g. sym (same_entry (by_name Ls sizes) b x n) }

  abbrev pub EntryAt : NodeLists → ℕ → ℕ → Type 0
  EntryAt L i r = EntryIs keys starts (node_of (get_or L.kind i 0) (get_or L.first i 0) (get_or L.second i 0)) (get_or L.second i 0) r

module _ (c : Classing) where
  entries_length : (ks fs ss : List ℕ) → length fs ≡ length ks → length ss ≡ length ks → length (class_entries c ks fs ss) ≡ length ks
  unfolding class_entries
  entries_length [] fs ss p q = refl
  entries_length (k ∷ ks) [] ss p q = omega arith
  entries_length (k ∷ ks) (f ∷ fs) [] p q = omega arith
  entries_length (k ∷ ks) (f ∷ fs) (s ∷ ss) p q = ap suc (entries_length ks fs ss (omega arith) (omega arith))

  entry_at_lem : (ks fs ss : List ℕ) → length fs ≡ length ks → length ss ≡ length ks → (i : ℕ) → i < length ks
      → get_or (class_entries c ks fs ss) i 0 ≡ class_entry c (node_of (get_or ks i 0) (get_or fs i 0) (get_or ss i 0)) (get_or ss i 0)
  unfolding class_entries
  entry_at_lem [] fs ss p q i l = omega arith
  entry_at_lem (k ∷ ks) [] ss p q i l = omega arith
  entry_at_lem (k ∷ ks) (f ∷ fs) [] p q i l = omega arith
  entry_at_lem (k ∷ ks) (f ∷ fs) (s ∷ ss) p q zero l = refl
  entry_at_lem (k ∷ ks) (f ∷ fs) (s ∷ ss) p q (suc i) l = entry_at_lem ks fs ss (omega arith) (omega arith) i (omega arith)

pub seconds_found : (keys starts : List ℕ) (L : NodeLists) (seconds : List ℕ) (n : ℕ) → Formed L → length L.kind ≤ n → Filled (EntryAt keys starts L) 512 n seconds
    → SecondsOf L keys starts seconds
unfolding on_classes node_count
seconds_found keys starts L seconds n formed all filled =
    let (p, q, few) = formed_alike formed in
    record {
      room = filled.long;
      on_classes_lem = λ Ls sizes h.
          front_is (length L.kind) seconds _ (omega (arith, filled.long)) (entries_length (by_name Ls sizes) L.kind L.first L.second p q)
          (λ i l. (filled.each i (omega arith)).entry Ls sizes h ∙ sym (entry_at_lem (by_name Ls sizes) L.kind L.first L.second p q i l));
    }
