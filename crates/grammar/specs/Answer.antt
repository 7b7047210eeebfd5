-- What the reader answers and leaves in the lent lists: the causes of the tables (document 02, A.4), then 14 to 17 of document 01, each over the
-- whole text before the next.
use Rattle.std.specs.Prelude.{Option, None, Some, Result, Ok, Err, ℕ, suc, pred, min, true, false, cond, List, [], ◌∷◌, ◌≡◌, ltb, length}
use Rattle.packet.specs.Refusals.{refused_at, first_refused}
use Rattle.packet.specs.Written.{written}
use Rattle.packet.specs.declared.Refusal.{Refusal}
use Rattle.packet.specs.Refusals.{Tested}
use Rattle.fields.specs.Tables.{Table, names_for, table_on, tables_stage}
use Rattle.policy.specs.Order.{in_order}
use Rattle.policy.specs.Tree.{Policy}
use Rattle.policy.specs.Tree
use Rattle.policy.specs.NodesOfTree.{tree_size, nodes_of}
use Rattle.grammar.specs.declared.Token.{Token}
use Rattle.grammar.specs.declared.Token.TheVariants.{Opening, Closing}
use Rattle.grammar.specs.Tokens.{Placed, is_bad, tokens}
use Rattle.grammar.specs.Reading.{Outcome, tree, stop, start, read_on}

-- what reading a text says: the number of its nodes, or a refusal
abbrev pub Answer : Type 0
Answer = Result ℕ Refusal

-- cause 14: the first token that is bad
unfoldable pub bad_place : List Placed → Option ℕ
bad_place [] = None
bad_place (t ∷ ts) = elim (is_bad t.token) [ true ↦ Some t.start | false ↦ bad_place ts ]

-- how many parentheses are open after a token; never below 0
unfoldable pub open_after : ℕ → Token → ℕ
open_after n Opening = suc n
open_after n Closing = pred n
open_after n _ = n

-- cause 15: the first token with which over 64 parentheses are open, n of them before the first of these tokens
unfoldable pub deep_place : ℕ → List Placed → Option ℕ
deep_place n [] = None
deep_place n (t ∷ ts) =
    elim (ltb 64 (open_after n t.token)) [ true ↦ Some t.start | false ↦ deep_place (open_after n t.token) ts ]

-- cause 16: the token or end that no legal text continues with
unfoldable pub stop_place : Outcome → Option ℕ
stop_place (tree p) = None
stop_place (stop place) = Some place

-- the tree that was read
unfoldable pub tree_read : Outcome → Policy
tree_read (tree p) = p
tree_read (stop place) = Tree.drop

-- cause 17: over 512 nodes, or more than the shortest lent list
unfoldable pub too_many : ℕ → ℕ → Option ℕ
too_many room n = cond (ltb (min 512 room) n) (Some n) None

unfoldable pub answer_after : Tested → ℕ → Answer
answer_after (Ok _) n = Ok n
answer_after (Err r) n = Err r

module _ (names : List (List ℕ)) (text : List ℕ) where
  -- the reading of the whole text
  unfoldable pub outcome : Outcome
  outcome = read_on (length text) start (tokens names text)

  -- the tree of the text, if it has one
  unfoldable pub text_tree : Policy
  text_tree = tree_read outcome

  -- the order of causes
  unfoldable pub tested : ℕ → Tested
  tested room =
      first_refused
      (refused_at 14 0 (bad_place (tokens names text))
      ∷ refused_at 15 0 (deep_place 0 (tokens names text))
      ∷ refused_at 16 0 (stop_place outcome)
      ∷ refused_at 17 0 (too_many room (tree_size text_tree))
      ∷ [])

  -- the answer, where the shortest lent list has so many entries
  unfoldable pub answer_to : ℕ → Answer
  answer_to room = answer_after (tested room) (tree_size text_tree)

-- a lent list after an answer: the nodes' entries on a count, as found on a refusal
unfoldable pub left_by : Answer → List ℕ → List ℕ → List ℕ
left_by (Ok n) entries old = written entries old
left_by (Err r) entries old = old

-- the length of the shortest lent list
unfoldable pub shortest : List ℕ → List ℕ → List ℕ → ℕ
shortest kind first second = min (length kind) (min (length first) (length second))

-- what reading a text over some names does, whatever its bytes and the lists' lengths
pub record ReadWith (names : List (List ℕ)) (text kind first second : List ℕ) (r : Answer) (kind' first' second' : List ℕ) : Type 0 where
  pub answer : r ≡ answer_to names text (shortest kind first second)
  pub kinds : kind' ≡ left_by r (nodes_of (text_tree names text)).kind kind
  pub firsts : first' ≡ left_by r (nodes_of (text_tree names text)).first first
  pub seconds : second' ≡ left_by r (nodes_of (text_tree names text)).second second

module _ (left right : Table) (side : ℕ) where
  -- the names that a text of the side may use, at their joint numbers
  unfoldable pub text_names : List (List ℕ)
  text_names = names_for (left ∷ right ∷ []) (table_on side left right)

  -- the tests of the reader: of a call's stages it has the tables and its text
  unfoldable pub read_tests : List ℕ → ℕ → Tested
  read_tests text room =
      in_order
      record {
        fields = tables_stage (left ∷ right ∷ []);
        product = Ok tt;
        texts = tested text_names text room;
        policies = Ok tt;
        lists = Ok tt;
        packets = Ok tt;
      }

  unfoldable pub read_answer : List ℕ → ℕ → Answer
  read_answer text room = answer_after (read_tests text room) (tree_size (text_tree text_names text))

-- what reading a text of one side does, whatever the tables, its bytes and the lists' lengths
pub record TextRead (left right : Table) (side : ℕ) (text kind first second : List ℕ) (r : Answer) (kind' first' second' : List ℕ) : Type 0 where
  pub answer : r ≡ read_answer left right side text (shortest kind first second)
  pub kinds : kind' ≡ left_by r (nodes_of (text_tree (text_names left right side) text)).kind kind
  pub firsts : first' ≡ left_by r (nodes_of (text_tree (text_names left right side) text)).first first
  pub seconds : second' ≡ left_by r (nodes_of (text_tree (text_names left right side) text)).second second
