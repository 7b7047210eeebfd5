-- Tokens derive a tree: one constructor for each clause of document 01, "Text", and of document 02, A.1. Both joins group to the left. A dup
-- of a text has no number yet: its label is 0.
use Rattle.std.specs.Prelude.{ℕ, List, [], ◌∷◌, ◌++◌, ◌≡◌}
use Rattle.policy.specs.declared.FieldAction.{FieldAction}
use Rattle.policy.specs.declared.FieldAction.TheVariants.{Equals, Differs, Set}
use Rattle.policy.specs.Tree.{Policy, drop, id, dup, sum, seq, star, neg}
use Rattle.policy.specs.Tree
use Rattle.grammar.specs.declared.Token.{Token}
use Rattle.grammar.specs.declared.Token.TheVariants.{Keyword, Field, Number, Operator, Plus, Semicolon, Asterisk, Opening, Closing, Exclamation}
use Rattle.grammar.specs.declared.Constant.{Constant}
use Rattle.grammar.specs.declared.Constant.TheVariants.{Drop, Id, Dup}
use Rattle.grammar.specs.declared.Comparison.{Comparison}
use Rattle.grammar.specs.declared.Comparison.TheVariants.{Equal, Different, Assigned}

unfoldable pub constant_policy : Constant → Policy
constant_policy Drop = drop
constant_policy Id = id
constant_policy Dup = dup 0

unfoldable pub field_action : Comparison → ℕ → ℕ → FieldAction
field_action Equal f v = Equals f v
field_action Different f v = Differs f v
field_action Assigned f v = Set f v

mutual
  -- drop, id, dup, a field with =, != or <- and a number, a sum in parentheses, or ! before an item, which negates it
  pub data Item : List Token → Policy → Type 0 where
    word : {ts : List Token} {p : Policy} (c : Constant) → ts ≡ Keyword c ∷ [] → p ≡ constant_policy c → Item ts p
    action : {ts : List Token} {p : Policy} (f v : ℕ) (c : Comparison) → ts ≡ Field f ∷ Operator c ∷ Number v ∷ [] → p ≡ Tree.field (field_action c f v) → Item ts p
    parentheses : {ts us : List Token} {p : Policy} → Sum us p → ts ≡ Opening ∷ us ++ Closing ∷ [] → Item ts p
    negation : {ts us : List Token} {p q : Policy} → Item us q → ts ≡ Exclamation ∷ us → p ≡ neg q → Item ts p

  -- an item and any number of *
  pub data Starred : List Token → Policy → Type 0 where
    item : {ts : List Token} {p : Policy} → Item ts p → Starred ts p
    starred : {ts us : List Token} {p q : Policy} → Starred us q → ts ≡ us ++ Asterisk ∷ [] → p ≡ star q → Starred ts p

  -- starred items joined by ;
  pub data Sequence : List Token → Policy → Type 0 where
    single : {ts : List Token} {p : Policy} → Starred ts p → Sequence ts p
    sequenced : {ts us vs : List Token} {p q r : Policy} → Sequence us q → Starred vs r → ts ≡ us ++ Semicolon ∷ vs → p ≡ seq q r → Sequence ts p

  -- sequences joined by +
  pub data Sum : List Token → Policy → Type 0 where
    alone : {ts : List Token} {p : Policy} → Sequence ts p → Sum ts p
    summed : {ts us vs : List Token} {p q r : Policy} → Sum us q → Sequence vs r → ts ≡ us ++ Plus ∷ vs → p ≡ sum q r → Sum ts p
