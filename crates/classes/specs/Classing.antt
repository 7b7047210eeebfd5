-- Classes of the values of each field (document 02, A.6). Rows and traces number packets of classes; a declared packet has a value for each
-- field, and belongs to one packet of classes.
use Rattle.std.specs.Prelude.{ℕ, suc, ◌<◌, false, cond, List, [], ◌∷◌, map, ◌≡◌, eqb, length, get_or}
use Rattle.packet.specs.Packets.{number_of, values_of, Declared}
use Rattle.packet.specs.Sizes.{product}
use Rattle.policy.specs.declared.FieldAction.{FieldAction}
use Rattle.policy.specs.declared.FieldAction.TheVariants.{Equals, Differs, Set}
use Rattle.policy.specs.InnerEach.{Each}
use Rattle.policy.specs.Meaning.{TellsDeclared}
use Rattle.policy.specs.declared.Node.{Node}
use Rattle.policy.specs.declared.Node.TheVariants.{Drop, Id, Field, Dup, Sum, Seq, Star, Neg}
use Rattle.policy.specs.NodeLists.{NodeLists, node_of}
use Rattle.policy.specs.Tree.{Policy}
use Rattle.policy.specs.Legality.{field_of, value_of, bad_field}
use Rattle.policy.specs.InnerTransport.{EachAction, with_actions}

-- how many classes each field has, the class of a field's value, and the value shown for a field's class
pub record Classing : Type 0 where
  pub counts : List ℕ
  pub class : ℕ → ℕ → ℕ
  pub shown : ℕ → ℕ → ℕ

-- a number for the entry of each field, the first of them being field f
unfoldable pub each_field : (ℕ → ℕ → ℕ) → ℕ → List ℕ → List ℕ
each_field g f [] = []
each_field g f (v ∷ vs) = g f v ∷ each_field g (suc f) vs

module _ (c : Classing) where
  -- the number of the packet of classes that a declared packet belongs to
  unfoldable pub class_number : List ℕ → ℕ
  class_number α = number_of c.counts (each_field c.class 0 α)

  -- the declared packet that is shown for a packet of classes
  unfoldable pub shown_packet : ℕ → List ℕ
  shown_packet β = each_field c.shown 0 (values_of c.counts β)

  -- field f of class x, seen from α: α's own value if it is of that class, else the value shown
  unfoldable pub seen_from : List ℕ → ℕ → ℕ → ℕ
  seen_from α f x = cond (eqb (c.class f (get_or α f 0)) x) (get_or α f 0) (c.shown f x)

  -- the packet of classes β lifted along the declared packet α
  unfoldable pub lifted : List ℕ → ℕ → List ℕ
  lifted α β = each_field (seen_from α) 0 (values_of c.counts β)

  -- the second entry of a node on classes: a test or change has the class of its value there
  unfoldable pub class_entry : Node → ℕ → ℕ
  class_entry Drop b = b
  class_entry Id b = b
  class_entry (Field a) b = c.class (field_of a) (value_of a)
  class_entry Dup b = b
  class_entry (Sum l r) b = b
  class_entry (Seq l r) b = b
  class_entry (Star m) b = b
  class_entry (Neg m) b = b

  -- the second entries of nodes with these kinds and entries
  unfoldable pub class_entries : List ℕ → List ℕ → List ℕ → List ℕ
  class_entries [] firsts seconds = []
  class_entries (k ∷ ks) [] seconds = []
  class_entries (k ∷ ks) (f ∷ fs) [] = []
  class_entries (k ∷ ks) (f ∷ fs) (s ∷ ss) = class_entry (node_of k f s) s ∷ class_entries ks fs ss

  -- the policy on classes, as node lists (for A.7; nothing uses it yet)
  unfoldable pub on_classes : NodeLists → NodeLists
  on_classes L = record { kind = L.kind; first = L.first; second = class_entries L.kind L.first L.second }

  -- the action on classes: it names the class of its value
  unfoldable pub class_action : FieldAction → FieldAction
  class_action (Equals f v) = Equals f (c.class f v)
  class_action (Differs f v) = Differs f (c.class f v)
  class_action (Set f v) = Set f (c.class f v)

  -- the policy on classes
  unfoldable pub classed : Policy → Policy
  classed p = with_actions class_action p

  -- the action's value is alone in its class
  unfoldable pub Alone : List ℕ → FieldAction → Type 0
  Alone sizes a = (v : ℕ) → v < get_or sizes (field_of a) 0 → c.class (field_of a) v ≡ c.class (field_of a) (value_of a) → v ≡ value_of a

  -- What is asked of a classing of the values of fields with these sizes, whatever the policies; (iv) is asked of each policy.
  pub record Faithful (sizes : List ℕ) : Type 0 where
    pub fields : length c.counts ≡ length sizes
    -- (i) shown values are below the size
    pub shown_below : (f x : ℕ) → f < length sizes → x < get_or c.counts f 0 → c.shown f x < get_or sizes f 0
    -- (ii) classes are below the count
    pub class_below : (f v : ℕ) → f < length sizes → v < get_or sizes f 0 → c.class f v < get_or c.counts f 0
    -- (iii) the value shown for a class is of that class
    pub class_shown : (f x : ℕ) → f < length sizes → x < get_or c.counts f 0 → c.class f (c.shown f x) ≡ x

  -- (iv) each test and change of the policy names a field and a value of it that is alone in its class
  unfoldable pub NamesAlone : List ℕ → Policy → Type 0
  NamesAlone sizes = EachAction (λ a. (bad_field sizes (field_of a) (value_of a) ≡ false) × Alone sizes a)

  -- A trace of packets of classes tells two policies apart over declared packets: as it is shown, and lifted along every declared packet that the
  -- entering packet stands for.
  pub record TellsOver (sizes : List ℕ) (p q : Policy) (α : ℕ) (trace : List ℕ) : Type 0 where
    pub inside : Each (λ β. β < product c.counts) (α ∷ trace)
    pub shown : TellsDeclared sizes p q (shown_packet α) (map shown_packet trace)
    pub along : (β : List ℕ) → Declared sizes β → class_number β ≡ α → TellsDeclared sizes p q β (map (lifted β) trace)
