-- The classing by what is mentioned is faithful to policies that mention those fields alone, and leaves them as they are.
use Prim.Native.Nat.{ℕ, ◌<◌}
use native.Mathlib.Omega.{arith}
use mathlib.Core.Bool.{Bool, true, false, cond}
use mathlib.Core.List.{List}
use mathlib.Core.Path.{◌≡◌, refl, subst}
use lib.ListN.{length, get_or}
use Rattle.policy.specs.declared.FieldAction.{FieldAction}
use Rattle.policy.specs.declared.FieldAction.TheVariants.{Equals, Differs, Set}
use Rattle.policy.specs.Tree.{Policy}
use Rattle.policy.specs.NodeLists.{NodeLists}
use Rattle.policy.specs.Legality.{InFields, bad_field, field_of, value_of}
use Rattle.policy.specs.Mentions.{mentioned}
use Rattle.policy.specs.InnerTransport.{EachAction}
use Rattle.policy.proofs.MentionLaws.{core_length, core_at}
use Rattle.policy.proofs.TransportLaws.{each_action_both, each_action_map, same_actions}
use Rattle.classes.specs.Classing.{class_action, classed, Alone, Faithful, NamesAlone}
use Rattle.classes.specs.Mentioned.{by_mention}

-- ---- one field of n values, mentioned or not

shown_under : (m : Bool) (x n : ℕ) → 0 < n → x < cond m n 1 → cond m x 0 < n
shown_under true x n p b = b
shown_under false x n p b = p

class_under : (m : Bool) (v n : ℕ) → v < n → cond m v 0 < cond m n 1
class_under true v n b = b
class_under false v n b = omega arith

class_of_shown_under : (m : Bool) (x n : ℕ) → x < cond m n 1 → cond m (cond m x 0) 0 ≡ x
class_of_shown_under true x n b = refl
class_of_shown_under false x n b = omega arith

module _ (Ls : List NodeLists) (sizes : List ℕ) where
  pub mention_faithful : ((i : ℕ) → i < length sizes → 0 < get_or sizes i 0) → Faithful (by_mention Ls sizes) sizes
  mention_faithful positive = record {
    fields = core_length Ls sizes;
    shown_below = λ f x k b. shown_under (mentioned Ls f) x (get_or sizes f 0) (positive f k) (subst (λ n. x < n) (core_at Ls sizes f k) b);
    class_below = λ f v k b. rw (core_at Ls sizes f k) (class_under (mentioned Ls f) v (get_or sizes f 0) b);
    class_shown = λ f x k b. class_of_shown_under (mentioned Ls f) x (get_or sizes f 0) (subst (λ n. x < n) (core_at Ls sizes f k) b);
  }

  -- each value of a mentioned field is alone in its class
  alone : (a : FieldAction) → mentioned Ls (field_of a) ≡ true → Alone (by_mention Ls sizes) sizes a
  unfolding Alone
  alone a m v b = rw m (λ e. e)

  pub mention_alone : (p : Policy) → InFields sizes p → EachAction (λ a. mentioned Ls (field_of a) ≡ true) p → NamesAlone (by_mention Ls sizes) sizes p
  unfolding InFields NamesAlone
  mention_alone p =
      each_action_both (λ a. bad_field sizes (field_of a) (value_of a) ≡ false) (λ a. mentioned Ls (field_of a) ≡ true)
      (λ a. (bad_field sizes (field_of a) (value_of a) ≡ false) × Alone (by_mention Ls sizes) sizes a) (λ a n m. (n, alone a m)) p

  same_action : (a : FieldAction) → mentioned Ls (field_of a) ≡ true → class_action (by_mention Ls sizes) a ≡ a
  unfolding class_action field_of
  same_action (Equals f v) m = rw m
  same_action (Differs f v) m = rw m
  same_action (Set f v) m = rw m

  -- over mentioned fields the policy on classes is the policy itself
  pub mention_classed : (p : Policy) → EachAction (λ a. mentioned Ls (field_of a) ≡ true) p → classed (by_mention Ls sizes) p ≡ p
  unfolding classed
  mention_classed p n =
      same_actions (class_action (by_mention Ls sizes)) p
      (each_action_map (λ a. mentioned Ls (field_of a) ≡ true) (λ a. class_action (by_mention Ls sizes) a ≡ a) same_action p n)
