-- What the inner functions of the reader promise.
use Rattle.std.specs.Prelude.{ℕ, zero, suc, ◌+◌, ◌-◌, ◌≤◌, ◌<◌, cond, List, [], ◌∷◌, ◌≡◌, Option, None, Some, Result, MatchOption, MatchResult, ltb, length, set}
use Rattle.policy.specs.AsLists.{as_lists}
use Rattle.policy.specs.Tree.{Policy}
use Rattle.policy.specs.NodeLists.{NodeLists}
use Rattle.policy.specs.NodesOfTree.{NodeEntry, node_entry, tree_size, entries_from}
use Rattle.grammar.specs.declared.Token.{Token}
use Rattle.grammar.specs.declared.Token.TheVariants.{Plus, Semicolon, Asterisk, Closing, Exclamation}
use Rattle.grammar.specs.Tokens.{tokens_from}
use Rattle.grammar.specs.InnerKinds.{front, front_place}
use Rattle.grammar.specs.Reading.{Before, nothing, State, wants, has, item_read, stop, read_on}
use Rattle.grammar.specs.Answer.{stop_place, outcome, text_tree}
use Rattle.tokens.specs.Inner.{FirstAt}
use Rattle.tokens.specs.declared.Placed as Found
use Rattle.text.specs.declared.NegationRun as Scan
use Rattle.text.specs.declared.Step as Stepped
use Rattle.text.specs.declared.Leaf as Leaves
use Rattle.text.specs.declared.Lists as Lent

-- levels of readers. A bare item is one after its `!`. A joined sequence may go on with `;`, an added sum with `+`.
pub data ReaderLevel : Type 0 where
  bare item starred joined sequence added sum : ReaderLevel

-- what stands before what a reader of the level reads
unfoldable pub Entered : ReaderLevel → Before → Type 0
Entered bare b = Unit
Entered item b = b.negations ≡ 0
Entered starred b = b.negations ≡ 0
Entered joined b = (b.sequenced ≡ None) × (b.negations ≡ 0)
Entered sequence b = (b.sequenced ≡ None) × (b.negations ≡ 0)
Entered added b = b ≡ nothing
Entered sum b = b ≡ nothing

-- the state after p, which a reader of the level has read: each ! negates a bare item
unfoldable pub After : ReaderLevel → Before → List Before → Policy → State
After bare b cs p = item_read b cs p
After item b cs p = has b cs p
After starred b cs p = has b cs p
After joined b cs p = has b cs p
After sequence b cs p = has b cs p
After added b cs p = has b cs p
After sum b cs p = has b cs p

-- the tokens that can stand where a reader of the level has stopped
unfoldable pub Past : ReaderLevel → Option Token → Type 0
Past bare t = Unit
Past item t = Unit
Past starred t = t ≡ Some Asterisk → ⊥
Past joined t = t ≡ Some Asterisk → ⊥
Past sequence t = (t ≡ Some Asterisk → ⊥) × (t ≡ Some Semicolon → ⊥)
Past added t = (t ≡ Some Asterisk → ⊥) × (t ≡ Some Semicolon → ⊥)
Past sum t = (t ≡ Some Asterisk → ⊥) × (t ≡ Some Semicolon → ⊥) × (t ≡ Some Plus → ⊥)

-- writes v at n where there is room for it
unfoldable pub put_at : ℕ → ℕ → ℕ → List ℕ → List ℕ
put_at room n v xs = cond (ltb n room) (set xs n v) xs

unfoldable pub put_entry : ℕ → ℕ → NodeEntry → NodeLists → NodeLists
put_entry room n e L =
    record { kind = put_at room n e.kind L.kind; first = put_at room n e.first L.first; second = put_at room n e.second L.second }

unfoldable pub put_all : ℕ → ℕ → List NodeEntry → NodeLists → NodeLists
put_all room n [] L = L
put_all room n (e ∷ es) L = put_all room (suc n) es (put_entry room n e L)

-- writes the nodes that negate the node before n, so many times
unfoldable pub put_negations : ℕ → ℕ → ℕ → NodeLists → NodeLists
put_negations room n zero L = L
put_negations room n (suc k) L = put_entry room (n + k) (node_entry 9 (n + k - 1) 0) (put_negations room n k L)

-- the lent lists
abbrev pub lists : Lent.Lists → NodeLists
lists out = as_lists out.kind.now out.first.now out.second.now

-- the same lists are lent
pub record SameLists (out out' : Lent.Lists) : Type 0 where
  pub kind : out'.kind.ghost_name ≡ out.kind.ghost_name
  pub first : out'.first.ghost_name ≡ out.first.ghost_name
  pub second : out'.second.ghost_name ≡ out.second.ghost_name

-- there is room for so many nodes
pub record HasRoom (room : ℕ) (L : NodeLists) : Type 0 where
  pub kinds : room ≤ length L.kind
  pub firsts : room ≤ length L.first
  pub seconds : room ≤ length L.second

-- what a reader asks: no more nodes so far than bytes so far, and no more written than there is room for
pub record ReaderReady (text : List ℕ) (at nodes room : ℕ) (L : NodeLists) : Type 0 where
  pub within : at ≤ length text
  pub few : nodes ≤ at
  pub fits : HasRoom room L

-- so many ! more before an item
unfoldable pub more_negations : ℕ → Before → Before
more_negations n b = record { summed = b.summed; sequenced = b.sequenced; negations = n + b.negations }

module _ (names : List (List ℕ)) (text : List ℕ) where
  -- the token at a byte, or the end of the text
  abbrev pub TokenRead : ℕ → Result Found.Placed ℕ → Type 0
  TokenRead at r = MatchResult r (FirstAt names text at) (λ place. (tokens_from names text at ≡ []) × (place ≡ length text))

  -- the token at a byte is the mark, and `next` is the byte after it
  pub record MarkAt (mark : Token) (at next : ℕ) : Type 0 where
    pub place : ℕ
    pub tokens_are : tokens_from names text at ≡ record { token = mark; start = place } ∷ tokens_from names text next
    pub onward : at < next
    pub within : next ≤ length text

  -- the same, if it is
  abbrev pub MarkRead : Token → ℕ → Option ℕ → Type 0
  MarkRead mark at r = MatchOption r (front (tokens_from names text at) ≡ Some mark → ⊥) (MarkAt mark at)

  -- no text goes on from a byte where an item is wanted
  abbrev pub Stuck : ℕ → ℕ → Type 0
  Stuck at place = (b : Before) (cs : List Before) → read_on (length text) (wants b cs) (tokens_from names text at) ≡ stop place

  -- a run of ! from a byte on, and the token after it, which is none
  pub record Scanned (at : ℕ) (r : Scan.NegationRun) : Type 0 where
    pub place : ℕ
    pub moves : (b : Before) (cs : List Before)
        → read_on (length text) (wants b cs) (tokens_from names text at)
        ≡ read_on (length text) (wants (more_negations r.count b) cs) (tokens_from names text place)
    pub token_is : FirstAt names text place r.token
    pub over : r.token.token ≡ Exclamation → ⊥
    pub few : at + r.count ≤ place

  abbrev pub NegationsRead : ℕ → Result Scan.NegationRun ℕ → Type 0
  NegationsRead at r = MatchResult r (Scanned at) (Stuck at)

  -- an item that is no sum in parentheses: one node, whatever its number
  pub record GotLeaf (at : ℕ) (r : Leaves.Leaf) : Type 0 where
    pub policy : Policy
    pub moves : (b : Before) (cs : List Before)
        → read_on (length text) (wants b cs) (tokens_from names text at) ≡ read_on (length text) (item_read b cs policy) (tokens_from names text r.at)
    pub one : tree_size policy ≡ 1
    pub entries : (n : ℕ) → entries_from n policy ≡ node_entry r.kind r.first r.second ∷ []
    pub onward : at < r.at
    pub within : r.at ≤ length text

  -- the item that begins with a token
  abbrev pub LeafRead : Found.Placed → Result Leaves.Leaf ℕ → Type 0
  LeafRead t r = (at : ℕ) → FirstAt names text at t → MatchResult r (GotLeaf at) (Stuck at)

  -- the closing parenthesis after what s has read
  pub record Shut (s r : Stepped.Step) : Type 0 where
    pub mark : MarkAt Closing s.at r.at
    pub nodes_is : r.nodes ≡ s.nodes

  abbrev pub ClosingRead : Stepped.Step → Result Stepped.Step ℕ → Type 0
  ClosingRead s r =
      MatchResult r (Shut s)
      (λ place. (front (tokens_from names text s.at) ≡ Some Closing → ⊥) × (place ≡ front_place (length text) (tokens_from names text s.at)))

  -- a reader has read a policy, whose nodes are those after the first so many
  pub record Got (l : ReaderLevel) (at nodes room : ℕ) (L : NodeLists) (L' : NodeLists) (r : Stepped.Step) : Type 0 where
    pub policy : Policy
    pub moves : (b : Before) → Entered l b → (cs : List Before)
        → read_on (length text) (wants b cs) (tokens_from names text at) ≡ read_on (length text) (After l b cs policy) (tokens_from names text r.at)
    pub past : Past l (front (tokens_from names text r.at))
    pub nodes_is : r.nodes ≡ nodes + tree_size policy
    pub lists_are : L' ≡ put_all room nodes (entries_from nodes policy) L
    pub onward : at < r.at
    pub within : r.at ≤ length text
    pub few : r.nodes + at ≤ r.at + nodes

  -- no text goes on from a byte at which a reader of the level begins
  abbrev pub Stops : ReaderLevel → ℕ → ℕ → Type 0
  Stops l at place = (b : Before) → Entered l b → (cs : List Before) → read_on (length text) (wants b cs) (tokens_from names text at) ≡ stop place

  -- what a reader of the level has done
  abbrev pub Done : ReaderLevel → ℕ → ℕ → ℕ → NodeLists → Result Stepped.Step ℕ → NodeLists → Type 0
  Done l at nodes room L r L' = MatchResult r (Got l at nodes room L L') (Stops l at)

  -- the end of the text after what s has read
  abbrev pub EndRead : Stepped.Step → Result ℕ ℕ → Type 0
  EndRead s r =
      MatchResult r (λ n. (tokens_from names text s.at ≡ []) × (n ≡ s.nodes))
      (λ place. (front (tokens_from names text s.at) ≡ None → ⊥) × (place ≡ front_place (length text) (tokens_from names text s.at)))

  -- the whole text has been read, or the reading has stopped
  abbrev pub WholeRead : Result ℕ ℕ → Type 0
  WholeRead r =
      MatchResult r (λ n. (stop_place (outcome names text) ≡ None) × (n ≡ tree_size (text_tree names text)))
      (λ place. stop_place (outcome names text) ≡ Some place)

-- the node that joins what r has read to what stands before it
pub record NodeJoined (k left room : ℕ) (r : Stepped.Step) (L : NodeLists) (r' : Stepped.Step) (L' : NodeLists) : Type 0 where
  pub step_is : r' ≡ record { at = r.at; nodes = r.nodes + 1 }
  pub lists_are : L' ≡ put_entry room r.nodes (node_entry k left (r.nodes - 1)) L

-- the nodes that negate what r has read
pub record Negated (count room : ℕ) (r : Stepped.Step) (L : NodeLists) (r' : Stepped.Step) (L' : NodeLists) : Type 0 where
  pub step_is : r' ≡ record { at = r.at; nodes = r.nodes + count }
  pub lists_are : L' ≡ put_negations room r.nodes count L
