-- Packets as numbers: traces stay below N.
use Prim.Native.Nat.{ℕ, ◌<◌}
use mathlib.Core.Bool.{false}
use mathlib.Core.List.{List}
use mathlib.Core.Path.{◌≡◌}
use lib.Dec.{leb}
use lib.ListN.{length, get_or}
use borrow.Author.Tests.{leb-false}
use Rattle.packet.specs.Sizes.{product}
use Rattle.packet.proofs.Packets.{changed_below}
use Rattle.policy.specs.declared.FieldAction.{FieldAction}
use Rattle.policy.specs.declared.FieldAction.TheVariants.{Equals, Differs, Set}
use Rattle.policy.specs.Tree.{Policy, sum, seq, star, neg}
use Rattle.policy.specs.Meaning.{Traces, numbered, SameTracesBelow}
use Rattle.policy.specs.Legality.{InFields, bad_field, field_of, value_of}
use Rattle.policy.specs.InnerEach.{Each}
use Rattle.policy.specs.InnerTransport.{EachAction, Keeps}
use Rattle.packet.proofs.Tests.{or_false}
use Rattle.policy.proofs.TraceLaws.{traces_stay}
use Rattle.policy.proofs.Congruence.{same_sum, same_seq, same_star, same_neg}
use Rattle.policy.proofs.TransportLaws.{each_action_map}

module _ (sizes : List ℕ) where
  -- packets as numbers below N
  abbrev pub Below : ℕ → Type 0
  Below α = α < product sizes

  -- the action names a field and a value of it
  abbrev pub Named : FieldAction → Type 0
  Named a = bad_field sizes (field_of a) (value_of a) ≡ false

  -- what holds of each action that names a field and a value of it
  pub each_action : (H : FieldAction → Type 0) → ((a : FieldAction) → Named a → H a) → (p : Policy) → InFields sizes p → EachAction H p
  unfolding InFields
  each_action H f p i = each_action_map Named H f p i

  pub value_below : (f v : ℕ) → bad_field sizes f v ≡ false → v < get_or sizes f 0
  unfolding bad_field
  value_below f v e = leb-false (get_or sizes f 0) v (or_false (leb (length sizes) f) (leb (get_or sizes f 0) v) e).1

  keeps : (a : FieldAction) → Named a → Keeps (numbered sizes) Below a
  unfolding Keeps field_of value_of
  keeps (Equals f v) i = tt
  keeps (Differs f v) i = tt
  keeps (Set f v) i = λ α b. changed_below sizes f v α (value_below f v i) b

  -- the changes of a policy whose fields are declared keep packets below N
  pub keeps_below : (p : Policy) → InFields sizes p → EachAction (Keeps (numbered sizes) Below) p
  keeps_below p i = each_action (Keeps (numbered sizes) Below) keeps p i

  -- traces from a packet below N hold packets below N only
  pub traces_below : (p : Policy) → InFields sizes p → (α : ℕ) → α < product sizes → (t : List ℕ) → Traces (numbered sizes) p α t
      → Each (λ β. β < product sizes) t
  traces_below p i = traces_stay (numbered sizes) Below p (keeps_below p i)

  pub same_sum_below : (p q p' q' : Policy) → SameTracesBelow sizes p p' → SameTracesBelow sizes q q'
      → SameTracesBelow sizes (sum p q) (sum p' q')
  unfolding SameTracesBelow
  same_sum_below p q p' q' h k = same_sum (numbered sizes) Below p q p' q' h k

  pub same_seq_below : (p q p' q' : Policy) → InFields sizes p → SameTracesBelow sizes p p' → SameTracesBelow sizes q q'
      → SameTracesBelow sizes (seq p q) (seq p' q')
  unfolding SameTracesBelow
  same_seq_below p q p' q' i h k = same_seq (numbered sizes) Below p q p' q' (keeps_below p i) h k

  pub same_star_below : (p p' : Policy) → InFields sizes p → SameTracesBelow sizes p p' → SameTracesBelow sizes (star p) (star p')
  unfolding SameTracesBelow
  same_star_below p p' i h = same_star (numbered sizes) Below p p' (keeps_below p i) h

  pub same_neg_below : (p p' : Policy) → SameTracesBelow sizes p p' → SameTracesBelow sizes (neg p) (neg p')
  unfolding SameTracesBelow
  same_neg_below p p' h = same_neg (numbered sizes) Below p p' h
