-- The values that policies name, and the core sizes. Assumes nothing.
use Prim.Native.Nat.{ℕ, zero, suc, ◌<◌, ◌≤◌, ◌+◌}
use native.Mathlib.Nat.{not-suc-le-zero, le_of_suc-le-suc}
use native.Mathlib.Omega.{arith}
use mathlib.Core.Bool.{Bool, true, false, cond}
use mathlib.Core.List.{List, [], ◌∷◌}
use mathlib.Core.Logic.{◌⊎◌, ⊎_elim, inl, inr, ◌↔◌}
use mathlib.Core.Path.{◌≡◌, refl, sym, ap, ap₂, ◌∙◌, subst}
use lib.Dec.{eqb, leb, ltb}
use lib.ListN.{length, get_or}
use borrow.Author.Tests.{eq-eqb, eqb-true, leb-false, ltb-false}
use Rattle.packet.specs.Sizes.{product_stage, LegalSizes}
use Rattle.std.specs.Prelude.{Ok}
use Rattle.packet.proofs.Legal as legal
use Rattle.packet.proofs.Legal.{LegalFields}
use Rattle.packet.proofs.Tests.{or_false, last_or_before}
use Rattle.policy.specs.declared.FieldAction.{FieldAction}
use Rattle.policy.specs.declared.Node.{Node}
use Rattle.policy.specs.declared.Node.TheVariants.{Drop, Id, Field, Dup, Sum, Seq, Star, Neg}
use Rattle.policy.specs.NodeLists.{NodeLists, node_count, node_at, policy_of}
use Rattle.policy.specs.Legality.{Legal, bad_field, bad_entries, field_of, value_of}
use Rattle.policy.specs.InnerAscending.{Ascending, Among}
use Rattle.policy.specs.InnerEach.{Each}
use Rattle.policy.specs.InnerTransport.{EachAction}
use Rattle.policy.specs.NamedValues.{insert, with_node, named_below, named_values, class_count, core_from, core_sizes}
use Rattle.policy.proofs.Ascending.{insert_among, insert_ascending, insert_each}
use Rattle.policy.proofs.Trees.{children_below, OfAction, entries_name, tree_actions}

-- ---- what the values named are

node_ascending : (f : ℕ) (x : Node) (vs : List ℕ) → Ascending vs → Ascending (with_node f x vs)
unfolding with_node
node_ascending f Drop vs a = a
node_ascending f Id vs a = a
node_ascending f (Field x) vs a = go (eqb (field_of x) f)
  where
    go : (b : Bool) → Ascending (cond b (insert (value_of x) vs) vs)
    go true = insert_ascending (value_of x) vs a
    go false = a
node_ascending f Dup vs a = a
node_ascending f (Sum l r) vs a = a
node_ascending f (Seq l r) vs a = a
node_ascending f (Star c) vs a = a
node_ascending f (Neg c) vs a = a

pub named_ascending : (Ls : List NodeLists) (f : ℕ) → Ascending (named_values Ls f)
unfolding named_values named_below Ascending
named_ascending [] f = tt
named_ascending (L ∷ Ls) f = go (named_ascending Ls f) (node_count L)
  where
    go : Ascending (named_values Ls f) → (n : ℕ) → Ascending (named_below L f n (named_values Ls f))
    go a zero = a
    go a (suc n) = node_ascending f (node_at L n) _ (go a n)

-- ---- what the policies name is named

-- the value of a test or change is among those named of its field
abbrev pub Names : List NodeLists → FieldAction → Type 0
Names Ls a = Among (value_of a) (named_values Ls (field_of a))

node_keeps : (f v : ℕ) (x : Node) (vs : List ℕ) → Among v vs → Among v (with_node f x vs)
unfolding with_node
node_keeps f v Drop vs m = m
node_keeps f v Id vs m = m
node_keeps f v (Field a) vs m = go (eqb (field_of a) f)
  where
    go : (b : Bool) → Among v (cond b (insert (value_of a) vs) vs)
    go true = (insert_among (value_of a) vs v).1 (inr m)
    go false = m
node_keeps f v Dup vs m = m
node_keeps f v (Sum l r) vs m = m
node_keeps f v (Seq l r) vs m = m
node_keeps f v (Star c) vs m = m
node_keeps f v (Neg c) vs m = m

module _ (L : NodeLists) (f v : ℕ) where
  below_keeps : (n : ℕ) (vs : List ℕ) → Among v vs → Among v (named_below L f n vs)
  unfolding named_below
  below_keeps zero vs m = m
  below_keeps (suc n) vs m = node_keeps f v (node_at L n) _ (below_keeps n vs m)

-- a node below n
node_named : (L : NodeLists) (n i : ℕ) (vs : List ℕ) (a : FieldAction) → i < n → node_at L i ≡ Field a → Among (value_of a) (named_below L (field_of a) n vs)
unfolding named_below with_node
node_named L zero i vs a h e = absurd (not-suc-le-zero h)
node_named L (suc n) i vs a h e =
    ⊎_elim (λ k. node_keeps (field_of a) (value_of a) (node_at L n) _ (node_named L n i vs a k e)) (λ (k : i ≡ n). subst (λ (x : Node). Among (value_of a) (with_node (field_of a) x (named_below L (field_of a) n vs))) (sym (sym (ap (node_at L) k) ∙ e)) here)
    (last_or_before h)
  where
    rest : List ℕ
    rest = named_below L (field_of a) n vs

    here : Among (value_of a) (cond (eqb (field_of a) (field_of a)) (insert (value_of a) rest) rest)
    here = rw (eq-eqb (field_of a) (field_of a) refl) ((insert_among (value_of a) rest (value_of a)).1 (inl refl))

-- the policies name at least what L names
abbrev pub Covers : List NodeLists → NodeLists → Type 0
Covers Ls L = (i : ℕ) (a : FieldAction) → i < node_count L → node_at L i ≡ Field a → Names Ls a

-- each of the policies
pub covers_each : (Ls : List NodeLists) → Each (Covers Ls) Ls
unfolding named_values Each
covers_each [] = tt
covers_each (L ∷ Ls) = (λ i a l e. node_named L (node_count L) i (named_values Ls (field_of a)) a l e, later Ls (covers_each Ls))
  where
    later : (Ms : List NodeLists) → Each (Covers Ls) Ms → Each (Covers (L ∷ Ls)) Ms
    later [] h = tt
    later (M ∷ Ms) h = (λ i a l e. below_keeps L (field_of a) (value_of a) (node_count L) _ (h.0 i a l e), later Ms h.1)

module _ (Ls : List NodeLists) (L : NodeLists) (covers : Covers Ls L) where
  pub node_names : (i : ℕ) → i < node_count L → OfAction (Names Ls) (node_at L i)
  unfolding OfAction
  node_names i l = go (node_at L i) refl
    where
      go : (x : Node) → node_at L i ≡ x → OfAction (Names Ls) x
      go Drop e = tt
      go Id e = tt
      go (Field a) e = covers i a l e
      go Dup e = tt
      go (Sum l r) e = tt
      go (Seq l r) e = tt
      go (Star c) e = tt
      go (Neg c) e = tt

  pub policy_names : {sizes : List ℕ} → Legal sizes L → EachAction (Names Ls) (policy_of L)
  unfolding policy_of
  policy_names g = let some = g.some in tree_actions L (children_below g.well_formed) _ node_names (node_count L) _ (omega arith) (omega arith)

-- ---- and nothing else

-- node i of L is a test or change of field f that names v
pub record NodeNames (L : NodeLists) (f v i : ℕ) : Type 0 where
  pub within : i < node_count L
  pub action : FieldAction
  pub node : node_at L i ≡ Field action
  pub field : field_of action ≡ f
  pub value : value_of action ≡ v

-- some node of one of the policies
unfoldable pub NamedBy : List NodeLists → ℕ → ℕ → Type 0
NamedBy [] f v = ⊥
NamedBy (L ∷ Ls) f v = ((i : ℕ) × NodeNames L f v i) ⊎ NamedBy Ls f v

node_only : (f v : ℕ) (x : Node) (vs : List ℕ) → Among v (with_node f x vs) → ((a : FieldAction) × (x ≡ Field a) × (field_of a ≡ f) × (value_of a ≡ v)) ⊎ Among v vs
unfolding with_node
node_only f v Drop vs m = inr m
node_only f v Id vs m = inr m
node_only f v (Field a) vs m = go (eqb (field_of a) f) refl m
  where
    go : (b : Bool) → eqb (field_of a) f ≡ b → Among v (cond b (insert (value_of a) vs) vs) → ((c : FieldAction) × (Field a ≡ Field c) × (field_of c ≡ f) × (value_of c ≡ v)) ⊎ Among v vs
    go true e k = ⊎_elim (λ (s : v ≡ value_of a). inl (a, refl, eqb-true (field_of a) f e, sym s)) (λ r. inr r) ((insert_among (value_of a) vs v).0 k)
    go false e k = inr k
node_only f v Dup vs m = inr m
node_only f v (Sum l r) vs m = inr m
node_only f v (Seq l r) vs m = inr m
node_only f v (Star c) vs m = inr m
node_only f v (Neg c) vs m = inr m

below_only : (L : NodeLists) (f v n : ℕ) (vs : List ℕ) → n ≤ node_count L → Among v (named_below L f n vs) → ((i : ℕ) × NodeNames L f v i) ⊎ Among v vs
unfolding named_below
below_only L f v zero vs l m = inr m
below_only L f v (suc n) vs l m =
    ⊎_elim (λ k. inl (n, record { within = l; action = k.0; node = k.1; field = k.2; value = k.3 })) (λ k. below_only L f v n vs (omega arith) k) (node_only f v (node_at L n) _ m)

-- the values named are just those that a node of a policy names
pub named_exactly : (Ls : List NodeLists) (f v : ℕ) → Among v (named_values Ls f) ↔ NamedBy Ls f v
unfolding named_values NamedBy Among
named_exactly [] f v = (λ m. m, λ m. m)
named_exactly (L ∷ Ls) f v =
    let rest = named_exactly Ls f v in (
      λ m. ⊎_elim (λ k. inl k) (λ k. inr (rest.0 k)) (below_only L f v (node_count L) _ (omega arith) m),
      λ m. ⊎_elim (λ k. here k.0 k.1) (λ k. below_keeps L f v (node_count L) _ (rest.1 k)) m,
    )
  where
    here : (i : ℕ) → NodeNames L f v i → Among v (named_below L f (node_count L) (named_values Ls f))
    here i h =
        subst (λ g. Among v (named_below L g (node_count L) (named_values Ls f))) h.field
        (subst (λ w. Among w (named_below L (field_of h.action) (node_count L) (named_values Ls f))) h.value (node_named L (node_count L) i (named_values Ls f) h.action h.within h.node))

-- ---- legal policies name values of their fields

module _ (sizes : List ℕ) where
  field_value : (f v : ℕ) → bad_field sizes f v ≡ false → v < get_or sizes f 0
  unfolding bad_field
  field_value f v e = leb-false (get_or sizes f 0) v (or_false (leb (length sizes) f) (leb (get_or sizes f 0) v) e).1

  node_below : (f : ℕ) (x : Node) (vs : List ℕ) → OfAction (λ a. bad_field sizes (field_of a) (value_of a) ≡ false) x → Each (λ v. v < get_or sizes f 0) vs → Each (λ v. v < get_or sizes f 0) (with_node f x vs)
  unfolding with_node OfAction
  node_below f Drop vs n e = e
  node_below f Id vs n e = e
  node_below f (Field a) vs n e = go (eqb (field_of a) f) refl
    where
      go : (b : Bool) → eqb (field_of a) f ≡ b → Each (λ v. v < get_or sizes f 0) (cond b (insert (value_of a) vs) vs)
      go true s = insert_each (λ v. v < get_or sizes f 0) (value_of a) vs (subst (λ g. value_of a < get_or sizes g 0) (eqb-true (field_of a) f s) (field_value (field_of a) (value_of a) n)) e
      go false s = e
  node_below f Dup vs n e = e
  node_below f (Sum l r) vs n e = e
  node_below f (Seq l r) vs n e = e
  node_below f (Star c) vs n e = e
  node_below f (Neg c) vs n e = e

  pub named_below_lem : (Ls : List NodeLists) → Each (Legal sizes) Ls → (f : ℕ) → Each (λ v. v < get_or sizes f 0) (named_values Ls f)
  unfolding named_values named_below Each bad_entries node_at
  named_below_lem [] g f = tt
  named_below_lem (L ∷ Ls) g f = go (named_below_lem Ls g.1 f) (node_count L) (omega arith)
    where
      go : Each (λ v. v < get_or sizes f 0) (named_values Ls f) → (n : ℕ) → n ≤ node_count L → Each (λ v. v < get_or sizes f 0) (named_below L f n (named_values Ls f))
      go e zero h = e
      go e (suc n) h = node_below f (node_at L n) _ (entries_name sizes _ _ _ (g.0.well_formed.entries n h)) (go e n (omega arith))

-- ---- the core sizes

from_length : (Ls : List NodeLists) (f : ℕ) (sizes : List ℕ) → length (core_from Ls f sizes) ≡ length sizes
unfolding core_from
from_length Ls f [] = refl
from_length Ls f (s ∷ ss) = ap suc (from_length Ls (suc f) ss)

from_at : (Ls : List NodeLists) (f : ℕ) (sizes : List ℕ) (i : ℕ) → i < length sizes → get_or (core_from Ls f sizes) i 0 ≡ class_count (get_or sizes i 0) (named_values Ls (f + i))
unfolding core_from
from_at Ls f [] i h = absurd (not-suc-le-zero h)
from_at Ls f (s ∷ ss) zero h = let same : f ≡ f + 0 = omega arith in ap (λ g. class_count s (named_values Ls g)) same
from_at Ls f (s ∷ ss) (suc i) h =
    let same : suc f + i ≡ f + suc i = omega arith in
    from_at Ls (suc f) ss i (le_of_suc-le-suc h) ∙ ap (λ g. class_count (get_or ss i 0) (named_values Ls g)) same

-- no more is said of the policies than what they name
pub core_same : (Ls Ms : List NodeLists) → ((f : ℕ) → named_values Ls f ≡ named_values Ms f) → (sizes : List ℕ) → core_sizes Ls sizes ≡ core_sizes Ms sizes
unfolding core_sizes core_from
core_same Ls Ms e sizes = go 0 sizes
  where
    go : (f : ℕ) (ss : List ℕ) → core_from Ls f ss ≡ core_from Ms f ss
    go f [] = refl
    go f (s ∷ ss) = ap₂ (λ (names rest : List ℕ). class_count s names ∷ rest) (e f) (go (suc f) ss)

count_positive : (size : ℕ) (names : List ℕ) → 0 < size → 0 < class_count size names
unfolding class_count
count_positive size names h = go (ltb (length names) size) refl
  where
    go : (b : Bool) → ltb (length names) size ≡ b → 0 < cond b (suc (length names)) (length names)
    go true e = omega arith
    go false e = let k = ltb-false (length names) size e in omega arith

module _ (Ls : List NodeLists) (sizes : List ℕ) where
  pub core_length : length (core_sizes Ls sizes) ≡ length sizes
  unfolding core_sizes
  core_length = from_length Ls 0 sizes

  pub core_at : (f : ℕ) → f < length sizes → get_or (core_sizes Ls sizes) f 0 ≡ class_count (get_or sizes f 0) (named_values Ls f)
  unfolding core_sizes
  core_at f h = let same : 0 + f ≡ f = omega arith in from_at Ls 0 sizes f h ∙ ap (λ g. class_count (get_or sizes f 0) (named_values Ls g)) same

  core_positive : ((i : ℕ) → i < length sizes → 0 < get_or sizes i 0) → (i : ℕ) → i < length sizes → 0 < get_or (core_sizes Ls sizes) i 0
  core_positive h i l = subst (λ n. 0 < n) (sym (core_at i l)) (count_positive (get_or sizes i 0) (named_values Ls i) (h i l))

  -- the core sizes are legal where causes 1, 2 and 3 pass
  pub core_legal : LegalFields sizes → product_stage (core_sizes Ls sizes) ≡ Ok tt → LegalSizes (core_sizes Ls sizes)
  core_legal h e =
      legal.sizes_legal (core_sizes Ls sizes)
      record {
        some = subst (λ n. 0 < n) (sym core_length) h.some;
        few = subst (λ n. n ≤ 8) (sym core_length) h.few;
        positive = λ i l. core_positive h.positive i (subst (λ n. i < n) core_length l);
      } e
