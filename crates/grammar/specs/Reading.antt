-- Reading tokens from left to right: a function that finds the tree, or the first token (or the end) that no legal text continues with.
use Rattle.std.specs.Prelude.{ℕ, zero, suc, List, [], ◌∷◌, Option, None, Some}
use Rattle.policy.specs.Tree.{Policy, sum, seq, star, neg}
use Rattle.policy.specs.Tree
use Rattle.grammar.specs.declared.Token.{Token}
use Rattle.grammar.specs.declared.Token.TheVariants.{Keyword, Field, Number, Operator, Plus, Semicolon, Asterisk, Opening, Closing, Exclamation}
use Rattle.grammar.specs.declared.Comparison.{Comparison}
use Rattle.grammar.specs.Tokens.{Placed}
use Rattle.grammar.specs.Grammar.{constant_policy, field_action}

-- what stands before the present item inside the same parentheses: sequences joined by +, then starred items joined by ;, then so many !
pub record Before : Type 0 where
  pub summed : Option Policy
  pub sequenced : Option Policy
  pub negations : ℕ

-- nothing stands before
unfoldable pub nothing : Before
nothing = record { summed = None; sequenced = None; negations = 0 }

unfoldable pub join_sequence : Option Policy → Policy → Policy
join_sequence None p = p
join_sequence (Some q) p = seq q p

unfoldable pub join_sum : Option Policy → Policy → Policy
join_sum None p = p
join_sum (Some q) p = sum q p

-- the sequence up to the present item, and the sum up to it: both join to the left
unfoldable pub up_to : Before → Policy → Policy
up_to b p = join_sequence b.sequenced p

unfoldable pub whole : Before → Policy → Policy
whole b p = join_sum b.summed (up_to b p)

-- a policy negated so many times
unfoldable pub negated : ℕ → Policy → Policy
negated zero p = p
negated (suc n) p = neg (negated n p)

-- where the reading stands. The list has what stands before each open parenthesis, the innermost first.
pub data State : Type 0 where
  wants : Before → List Before → State
  named : Before → List Before → ℕ → State
  compared : Before → List Before → ℕ → Comparison → State
  has : Before → List Before → Policy → State

unfoldable pub start : State
start = wants nothing []

-- one more ! before an item
unfoldable pub negating : Before → Before
negating b = record { summed = b.summed; sequenced = b.sequenced; negations = suc b.negations }

-- the item p has been read; each ! before it negates it
unfoldable pub item_read : Before → List Before → Policy → State
item_read b cs p = has (record { summed = b.summed; sequenced = b.sequenced; negations = 0 }) cs (negated b.negations p)

-- a ) after the item p
unfoldable pub close : Before → List Before → Policy → Option State
close b [] p = None
close b (c ∷ cs) p = Some (item_read c cs (whole b p))

-- the state after one more token, if a legal text can have it there
unfoldable pub step : State → Token → Option State
step (wants b cs) (Keyword c) = Some (item_read b cs (constant_policy c))
step (wants b cs) (Field f) = Some (named b cs f)
step (wants b cs) Opening = Some (wants nothing (b ∷ cs))
step (wants b cs) Exclamation = Some (wants (negating b) cs)
step (wants b cs) _ = None
step (named b cs f) (Operator c) = Some (compared b cs f c)
step (named b cs f) _ = None
step (compared b cs f c) (Number v) = Some (item_read b cs (Tree.field (field_action c f v)))
step (compared b cs f c) _ = None
step (has b cs p) Asterisk = Some (has b cs (star p))
step (has b cs p) Semicolon = Some (wants (record { summed = b.summed; sequenced = Some (up_to b p); negations = 0 }) cs)
step (has b cs p) Plus = Some (wants (record { summed = Some (whole b p); sequenced = None; negations = 0 }) cs)
step (has b cs p) Closing = close b cs p
step (has b cs p) _ = None

-- a tree, or the byte of the token (or of the end) that no legal text continues with
pub data Outcome : Type 0 where
  tree : Policy → Outcome
  stop : ℕ → Outcome

-- the text may end after an item outside all parentheses
unfoldable pub finish : ℕ → State → Outcome
finish end (wants b cs) = stop end
finish end (named b cs f) = stop end
finish end (compared b cs f c) = stop end
finish end (has b [] p) = tree (whole b p)
finish end (has b (c ∷ cs) p) = stop end

-- reading on from a state; the text ends at the byte `end`
unfoldable pub read_on : ℕ → State → List Placed → Outcome
read_on end s [] = finish end s
read_on end s (t ∷ ts) = elim (step s t.token) [ None ↦ stop t.start | Some s' ↦ read_on end s' ts ]
