-- What the core sizes are, and that a policy is legal over them where it is legal over the sizes. Assumes nothing.
use Prim.Native.Nat.{ℕ, zero, suc, ◌<◌, ◌≤◌, ◌+◌}
use native.Mathlib.Nat.{not-suc-le-zero, le_of_suc-le-suc}
use native.Mathlib.Omega.{arith}
use mathlib.Core.Bool.{Bool, true, false, cond, ◌||◌}
use mathlib.Core.List.{List, [], ◌∷◌}
use mathlib.Core.Logic.{⊎_elim}
use mathlib.Core.Path.{◌≡◌, refl, sym, ap, ap₂, ◌∙◌, subst}
use lib.Dec.{leb}
use lib.ListN.{length, get_or}
use borrow.Author.Tests.{eq-eqb, leb-false}
use Rattle.packet.specs.Sizes.{product_stage, LegalSizes}
use Rattle.std.specs.Prelude.{Ok}
use Rattle.packet.proofs.Legal as legal
use Rattle.packet.proofs.Legal.{LegalFields}
use Rattle.packet.proofs.Tests.{or_false, last_or_before}
use Rattle.policy.specs.declared.Node.{Node}
use Rattle.policy.specs.declared.Node.TheVariants.{Drop, Id, Field, Dup, Sum, Seq, Star, Neg}
use Rattle.policy.specs.NodeLists.{NodeLists, node_count, node_of, node_at, policy_of}
use Rattle.policy.specs.Legality.{Legal, bad_field, wrong_entries, bad_entries, field_of}
use Rattle.policy.specs.InnerEach.{Each}
use Rattle.policy.specs.InnerTransport.{EachAction}
use Rattle.policy.specs.Mentions.{is_of_field, mentioned_below, mentioned, core_from, core_sizes}
use Rattle.policy.proofs.Trees.{children_below, OfAction, tree_actions}

-- ---- what is mentioned

or_left : (a b : Bool) → a ≡ true → (a || b) ≡ true
or_left true b e = refl
or_left false b e = cc

or_right : (a b : Bool) → b ≡ true → (a || b) ≡ true
or_right true b e = refl
or_right false b e = e

-- a node below n that is a test or change of the field
mentioned_at : (L : NodeLists) (f n i : ℕ) → i < n → is_of_field f (node_at L i) ≡ true → mentioned_below L f n ≡ true
unfolding mentioned_below
mentioned_at L f zero i h e = absurd (not-suc-le-zero h)
mentioned_at L f (suc n) i h e =
    ⊎_elim (λ k. or_left _ _ (mentioned_at L f n i k e)) (λ (k : i ≡ n). or_right (mentioned_below L f n) _ (subst (λ j. is_of_field f (node_at L j) ≡ true) k e))
    (last_or_before h)

-- the policies mention at least what L mentions
abbrev pub Covers : List NodeLists → NodeLists → Type 0
Covers Ls L = (f : ℕ) → mentioned_below L f (node_count L) ≡ true → mentioned Ls f ≡ true

-- each of the policies
pub covers_each : (Ls : List NodeLists) → Each (Covers Ls) Ls
unfolding mentioned Each
covers_each [] = tt
covers_each (L ∷ Ls) = (λ f e. or_left _ _ e, later Ls (covers_each Ls))
  where
    later : (Ms : List NodeLists) → Each (Covers Ls) Ms → Each (Covers (L ∷ Ls)) Ms
    later [] h = tt
    later (M ∷ Ms) h = (λ f e. or_right (mentioned_below L f (node_count L)) _ (h.0 f e), later Ms h.1)

module _ (Ls : List NodeLists) (L : NodeLists) (covers : Covers Ls L) where
  -- the field of a node's test or change is mentioned
  node_mentions : (i : ℕ) → i < node_count L → OfAction (λ a. mentioned Ls (field_of a) ≡ true) (node_at L i)
  unfolding OfAction is_of_field
  node_mentions i l = go (node_at L i) refl
    where
      go : (x : Node) → node_at L i ≡ x → OfAction (λ a. mentioned Ls (field_of a) ≡ true) x
      go Drop e = tt
      go Id e = tt
      go (Field a) e = covers (field_of a) (mentioned_at L (field_of a) (node_count L) i l (ap (is_of_field (field_of a)) e ∙ eq-eqb (field_of a) (field_of a) refl))
      go Dup e = tt
      go (Sum l r) e = tt
      go (Seq l r) e = tt
      go (Star c) e = tt
      go (Neg c) e = tt

  -- and so is that of each in the policy
  pub policy_mentions : {sizes : List ℕ} → Legal sizes L → EachAction (λ a. mentioned Ls (field_of a) ≡ true) (policy_of L)
  unfolding policy_of
  policy_mentions g = let some = g.some in tree_actions L (children_below g.well_formed) _ node_mentions (node_count L) _ (omega arith) (omega arith)

-- ---- the core sizes

from_length : (Ls : List NodeLists) (f : ℕ) (sizes : List ℕ) → length (core_from Ls f sizes) ≡ length sizes
unfolding core_from
from_length Ls f [] = refl
from_length Ls f (s ∷ ss) = ap suc (from_length Ls (suc f) ss)

from_at : (Ls : List NodeLists) (f : ℕ) (sizes : List ℕ) (i : ℕ) → i < length sizes → get_or (core_from Ls f sizes) i 0 ≡ cond (mentioned Ls (f + i)) (get_or sizes i 0) 1
unfolding core_from
from_at Ls f [] i h = absurd (not-suc-le-zero h)
from_at Ls f (s ∷ ss) zero h = let same : f ≡ f + 0 = omega arith in ap (λ g. cond (mentioned Ls g) s 1) same
from_at Ls f (s ∷ ss) (suc i) h =
    let same : suc f + i ≡ f + suc i = omega arith in
    from_at Ls (suc f) ss i (le_of_suc-le-suc h) ∙ ap (λ g. cond (mentioned Ls g) (get_or ss i 0) 1) same

-- no more is said of the policies than what they mention
pub core_same : (Ls Ms : List NodeLists) → ((f : ℕ) → mentioned Ls f ≡ mentioned Ms f) → (sizes : List ℕ) → core_sizes Ls sizes ≡ core_sizes Ms sizes
unfolding core_sizes core_from
core_same Ls Ms e sizes = go 0 sizes
  where
    go : (f : ℕ) (ss : List ℕ) → core_from Ls f ss ≡ core_from Ms f ss
    go f [] = refl
    go f (s ∷ ss) = ap₂ (λ (m : Bool) (rest : List ℕ). cond m s 1 ∷ rest) (e f) (go (suc f) ss)

module _ (Ls : List NodeLists) (sizes : List ℕ) where
  pub core_length : length (core_sizes Ls sizes) ≡ length sizes
  unfolding core_sizes
  core_length = from_length Ls 0 sizes

  pub core_at : (f : ℕ) → f < length sizes → get_or (core_sizes Ls sizes) f 0 ≡ cond (mentioned Ls f) (get_or sizes f 0) 1
  unfolding core_sizes
  core_at f h = let same : 0 + f ≡ f = omega arith in from_at Ls 0 sizes f h ∙ ap (λ g. cond (mentioned Ls g) (get_or sizes f 0) 1) same

  -- a mentioned field has its size
  core_size : (f : ℕ) → mentioned Ls f ≡ true → f < length sizes → get_or (core_sizes Ls sizes) f 0 ≡ get_or sizes f 0
  core_size f m h = core_at f h ∙ ap (λ (b : Bool). cond b (get_or sizes f 0) 1) m

  core_positive : ((i : ℕ) → i < length sizes → 0 < get_or sizes i 0) → (i : ℕ) → i < length sizes → 0 < get_or (core_sizes Ls sizes) i 0
  core_positive h i l = subst (λ n. 0 < n) (sym (core_at i l)) (go (mentioned Ls i))
    where
      go : (b : Bool) → 0 < cond b (get_or sizes i 0) 1
      go true = h i l
      go false = omega arith

  -- the core sizes are legal where causes 1, 2 and 3 pass
  pub core_legal : LegalFields sizes → product_stage (core_sizes Ls sizes) ≡ Ok tt → LegalSizes (core_sizes Ls sizes)
  core_legal h e =
      legal.sizes_legal (core_sizes Ls sizes)
      record {
        some = subst (λ n. 0 < n) (sym core_length) h.some;
        few = subst (λ n. n ≤ 8) (sym core_length) h.few;
        positive = λ i l. core_positive h.positive i (subst (λ n. i < n) core_length l);
      } e

  -- a value of a mentioned field is one of the core
  field_core : (f v : ℕ) → mentioned Ls f ≡ true → bad_field sizes f v ≡ false → bad_field (core_sizes Ls sizes) f v ≡ false
  unfolding bad_field
  field_core f v m e =
      let h = or_false (leb (length sizes) f) (leb (get_or sizes f 0) v) e in
      let inside = leb-false (length sizes) f h.0 in
      rw (core_length, core_size f m inside) e

  entries_core : (k a b : ℕ) → OfAction (λ x. mentioned Ls (field_of x) ≡ true) (node_of k a b) → wrong_entries sizes k a b ≡ false → wrong_entries (core_sizes Ls sizes) k a b ≡ false
  unfolding OfAction node_of wrong_entries field_of
  entries_core zero a b m w = w
  entries_core (suc zero) a b m w = w
  entries_core (suc (suc zero)) a b m w = field_core a b m w
  entries_core (suc (suc (suc zero))) a b m w = field_core a b m w
  entries_core (suc (suc (suc (suc zero)))) a b m w = field_core a b m w
  entries_core (suc (suc (suc (suc (suc zero))))) a b m w = w
  entries_core (suc (suc (suc (suc (suc (suc zero)))))) a b m w = w
  entries_core (suc (suc (suc (suc (suc (suc (suc zero))))))) a b m w = w
  entries_core (suc (suc (suc (suc (suc (suc (suc (suc k)))))))) a b m w = w

  -- a policy that is legal over the sizes is legal over the core sizes
  pub policy_core : (L : NodeLists) → Covers Ls L → Legal sizes L → Legal (core_sizes Ls sizes) L
  unfolding bad_entries node_at
  policy_core L covers g =
      let w = g.well_formed in
      record {
        well_formed =
            record {
              firsts = w.firsts;
              seconds = w.seconds;
              few = w.few;
              kinds = w.kinds;
              entries = λ i l. entries_core _ _ _ (node_mentions Ls L covers i l) (w.entries i l);
              below = w.below;
              once = w.once;
              negations = w.negations;
              dups = w.dups;
            };
        some = g.some;
        children = g.children;
      }
