-- The reading finds exactly the trees that the tokens derive: at most one tree, and the byte of cause 16 is that of the first token (or the end)
-- that no legal text continues with.
use Prim.Native.Nat.{ℕ, zero, suc, ◌≤◌, min}
use native.Mathlib.Omega.{arith}
use mathlib.Core.Bool.{Bool, true, false, true≢false}
use mathlib.Core.List.{List, [], ◌∷◌, ◌++◌, map, append_assoc, append-nil}
use mathlib.Core.Logic.{◌↔◌}
use Rattle.std.specs.Prelude.{Option, None, Some, Ok}
use mathlib.Core.Path.{◌≡◌, refl, sym, ◌∙◌, ap, subst, subst₂}
use lib.ListN.{length}
use Rattle.policy.specs.Tree.{Policy, sum, seq, star, neg}
use Rattle.policy.specs.Tree
use Rattle.policy.specs.NodesOfTree.{tree_size}
use Rattle.grammar.specs.declared.Token.{Token}
use Rattle.grammar.specs.declared.Token.TheVariants.{Keyword, Field, Number, Operator, Plus, Semicolon, Asterisk, Opening, Closing, Exclamation, Bad}
use Rattle.grammar.specs.declared.Constant.{Constant}
use Rattle.grammar.specs.declared.Constant.TheVariants.{Id}
use Rattle.grammar.specs.declared.Comparison.{Comparison}
use Rattle.grammar.specs.declared.Comparison.TheVariants.{Equal}
use Rattle.grammar.specs.Tokens.{Placed, is_bad, tokens}
use Rattle.grammar.specs.InnerKinds.{front_place}
use Rattle.grammar.specs.Grammar.{constant_policy, field_action, Item, Starred, Sequence, Sum, word, action, parentheses, negation, item, starred, single, sequenced, alone, summed}
use Rattle.grammar.specs.Reading.{Before, nothing, join_sequence, join_sum, up_to, whole, negated, State, wants, named, compared, has, start, negating, item_read, close, step, Outcome, tree, stop, finish, read_on}
use Rattle.grammar.specs.Answer.{bad_place, deep_place, stop_place, tree_read, outcome, text_tree, answer_to}
use Rattle.grammar.proofs.AnswerLaws.{few_enough, count_parts, count_answers}

-- the tokens without their places
unfoldable pub bare : List Placed → List Token
bare ts = map (λ (t : Placed). t.token) ts

-- the tree that a reading ends in, if it does
tree_in : Outcome → Option Policy
tree_in (tree p) = Some p
tree_in (stop n) = None

-- reading on, places apart
accept : State → List Token → Option Policy
accept s [] = tree_in (finish 0 s)
accept s (t ∷ ts) = elim (step s t) [ None ↦ None | Some s' ↦ accept s' ts ]

accept_none : (s : State) (t : Token) (ts : List Token) → step s t ≡ None → accept s (t ∷ ts) ≡ None
unfolding accept
accept_none s t ts e = rw (e, accept)

accept_some : (s s' : State) (t : Token) (ts : List Token) → step s t ≡ Some s' → accept s (t ∷ ts) ≡ accept s' ts
unfolding accept
accept_some s s' t ts e = rw (e, accept)

read_none : (end : ℕ) (s : State) (t : Placed) (ts : List Placed) → step s t.token ≡ None → read_on end s (t ∷ ts) ≡ stop t.start
unfolding read_on
read_none end s t ts e = rw (e, read_on)

read_some : (end : ℕ) (s s' : State) (t : Placed) (ts : List Placed) → step s t.token ≡ Some s' → read_on end s (t ∷ ts) ≡ read_on end s' ts
unfolding read_on
read_some end s s' t ts e = rw (e, read_on)

finish_in : (end : ℕ) (s : State) → tree_in (finish end s) ≡ tree_in (finish 0 s)
unfolding finish tree_in
finish_in end (wants b cs) = refl
finish_in end (named b cs f) = refl
finish_in end (compared b cs f c) = refl
finish_in end (has b [] p) = refl
finish_in end (has b (c ∷ cs) p) = refl

read_accept : (end : ℕ) (s : State) (ts : List Placed) → tree_in (read_on end s ts) ≡ accept s (bare ts)
unfolding read_on bare accept tree_in
read_accept end s [] = finish_in end s
read_accept end s (t ∷ ts) = go (step s t.token) refl (λ s'. read_accept end s' ts)
  where
    go : (o : Option State) → step s t.token ≡ o → ((s' : State) → tree_in (read_on end s' ts) ≡ accept s' (bare ts)) → tree_in (read_on end s (t ∷ ts)) ≡ accept s (bare (t ∷ ts))
    go None e f = ap tree_in (read_none end s t ts e) ∙ none_in t.start ∙ sym (accept_none s t.token (bare ts) e)
      where
        none_in : (n : ℕ) → tree_in (stop n) ≡ None
        none_in n = refl
    go (Some s') e f = ap tree_in (read_some end s s' t ts e) ∙ f s' ∙ sym (accept_some s s' t.token (bare ts) e)

-- ---- what is derived is found

-- what stands before an item outside its !
plain : Option Policy → Option Policy → Before
plain s q = record { summed = s; sequenced = q; negations = 0 }

-- an item, after whatever !
record ItemEnd (ts : List Token) (p : Policy) : Type 0 where
  moves : (b : Before) (cs : List Before) (rest : List Token) → accept (wants b cs) (ts ++ rest) ≡ accept (item_read b cs p) rest

-- an item with its stars, which has no ! before it
record StarredEnd (ts : List Token) (p : Policy) : Type 0 where
  moves : (s q : Option Policy) (cs : List Before) (rest : List Token) → accept (wants (plain s q) cs) (ts ++ rest) ≡ accept (has (plain s q) cs p) rest

-- the last item of a sequence, and what stands before it
record SequenceEnd (s : Option Policy) (ts : List Token) (p : Policy) : Type 0 where
  before : Option Policy
  last : Policy
  joined : join_sequence before last ≡ p
  moves : (cs : List Before) (rest : List Token)
      → accept (wants (plain s None) cs) (ts ++ rest) ≡ accept (has (plain s before) cs last) rest

record SumEnd (ts : List Token) (p : Policy) : Type 0 where
  before : Before
  last : Policy
  joined : whole before last ≡ p
  moves : (cs : List Before) (rest : List Token) → accept (wants nothing cs) (ts ++ rest) ≡ accept (has before cs last) rest

sequence_one : (s : Option Policy) {ts : List Token} {p : Policy} → StarredEnd ts p → SequenceEnd s ts p
unfolding join_sequence
sequence_one s {p = p} m = record { before = None; last = p; joined = refl; moves = m.moves s None }

sequence_more : (s : Option Policy) {ts us : List Token} {p q : Policy} → SequenceEnd s ts p → StarredEnd us q
    → SequenceEnd s (ts ++ Semicolon ∷ us) (seq p q)
unfolding join_sequence accept step up_to plain
sequence_more s {ts} {us} {p} {q} e m =
    record {
      before = Some p;
      last = q;
      joined = refl;
      moves = λ cs rest.
          ap (accept (wants (plain s None) cs)) (append_assoc ts (Semicolon ∷ us) rest)
          ∙ e.moves cs (Semicolon ∷ us ++ rest)
          ∙ ap (λ (x : Policy). accept (wants (plain s (Some x)) cs) (us ++ rest)) e.joined
          ∙ m.moves s (Some p) cs rest;
    }

sum_one : {ts : List Token} {p : Policy} → SequenceEnd None ts p → SumEnd ts p
unfolding whole up_to join_sum nothing plain
sum_one e = record { before = plain None e.before; last = e.last; joined = e.joined; moves = e.moves }

sum_more : {ts us : List Token} {p q : Policy} → SumEnd ts p → SequenceEnd (Some p) us q → SumEnd (ts ++ Plus ∷ us) (sum p q)
unfolding whole up_to join_sum accept step plain
sum_more {ts} {us} {p} {q} e f =
    record {
      before = plain (Some p) f.before;
      last = f.last;
      joined = ap (sum p) f.joined;
      moves = λ cs rest.
          ap (accept (wants nothing cs)) (append_assoc ts (Plus ∷ us) rest)
          ∙ e.moves cs (Plus ∷ us ++ rest)
          ∙ ap (λ (x : Policy). accept (wants (plain (Some x) None) cs) (us ++ rest)) e.joined
          ∙ f.moves cs rest;
    }

item_inside : {ts : List Token} {p : Policy} → SumEnd ts p → ItemEnd (Opening ∷ ts ++ Closing ∷ []) p
unfolding accept step close
item_inside {ts} {p} e =
    record {
      moves = λ b cs rest.
          ap (accept (wants nothing (b ∷ cs))) (append_assoc ts (Closing ∷ []) rest)
          ∙ e.moves (b ∷ cs) (Closing ∷ rest)
          ∙ ap (λ (x : Policy). accept (item_read b cs x) rest) e.joined;
    }

-- the ! that stands next to an item negates it first
negated_inside : (n : ℕ) (p : Policy) → negated n (neg p) ≡ neg (negated n p)
unfolding negated
negated_inside zero p = refl
negated_inside (suc n) p = ap neg (negated_inside n p)

item_negates : {ts : List Token} {p : Policy} → ItemEnd ts p → ItemEnd (Exclamation ∷ ts) (neg p)
unfolding accept step negating item_read negated plain
item_negates {ts} {p} m =
    record {
      moves = λ b cs rest.
          m.moves (negating b) cs rest
          ∙ ap (λ (x : Policy). accept (has (plain b.summed b.sequenced) cs x) rest) (sym (negated_inside b.negations p));
    }

item_alone : {ts : List Token} {p : Policy} → ItemEnd ts p → StarredEnd ts p
unfolding plain item_read negated
item_alone m = record { moves = λ s q. m.moves (plain s q) }

star_more : {ts : List Token} {p : Policy} → StarredEnd ts p → StarredEnd (ts ++ Asterisk ∷ []) (star p)
unfolding accept step
star_more {ts} {p} m =
    record { moves = λ s q cs rest. ap (accept (wants (plain s q) cs)) (append_assoc ts (Asterisk ∷ []) rest) ∙ m.moves s q cs (Asterisk ∷ rest) }

word_reads : (c : Constant) → ItemEnd (Keyword c ∷ []) (constant_policy c)
unfolding accept step
word_reads c = record { moves = λ b cs rest. refl }

action_reads : (f v : ℕ) (c : Comparison) → ItemEnd (Field f ∷ Operator c ∷ Number v ∷ []) (Tree.field (field_action c f v))
unfolding accept step
action_reads f v c = record { moves = λ b cs rest. refl }

mutual
  item_found : {ts : List Token} {p : Policy} → Item ts p → ItemEnd ts p
  item_found (word c e q) = subst₂ ItemEnd (sym e) (sym q) (word_reads c)
  item_found (action f v c e q) = subst₂ ItemEnd (sym e) (sym q) (action_reads f v c)
  item_found (parentheses {p = p} d e) = subst (λ (ts : List Token). ItemEnd ts p) (sym e) (item_inside (sum_found d))
  item_found (negation d e q) = subst₂ ItemEnd (sym e) (sym q) (item_negates (item_found d))

  starred_found : {ts : List Token} {p : Policy} → Starred ts p → StarredEnd ts p
  starred_found (item d) = item_alone (item_found d)
  starred_found (starred d e q) = subst₂ StarredEnd (sym e) (sym q) (star_more (starred_found d))

  sequence_found : {ts : List Token} {p : Policy} → Sequence ts p → (s : Option Policy) → SequenceEnd s ts p
  sequence_found (single d) s = sequence_one s (starred_found d)
  sequence_found (sequenced d f e q) s = subst₂ (SequenceEnd s) (sym e) (sym q) (sequence_more s (sequence_found d s) (starred_found f))

  sum_found : {ts : List Token} {p : Policy} → Sum ts p → SumEnd ts p
  sum_found (alone d) = sum_one (sequence_found d None)
  sum_found (summed {q = q} d f e r) = subst₂ SumEnd (sym e) (sym r) (sum_more (sum_found d) (sequence_found f (Some q)))

found : {ts : List Token} {p : Policy} → Sum ts p → accept start ts ≡ Some p
unfolding accept finish tree_in start
found {ts} {p} d =
    let e = sum_found d in
    ap (accept (wants nothing [])) (sym (append-nil ts)) ∙ e.moves [] [] ∙ ap Some e.joined

some_one : (p q : Policy) → Some p ≡ Some q → p ≡ q
some_one p q e = cc

-- at most one tree
pub one_tree : {ts : List Token} (p q : Policy) → Sum ts p → Sum ts q → p ≡ q
one_tree p q d e = some_one p q (sym (found d) ∙ found e)

-- ---- what is found is derived

-- tokens that derive what stands before
Summed : Option Policy → List Token → Type 0
Summed None ts = ts ≡ []
Summed (Some p) ts = (us : List Token) × Sum us p × (ts ≡ us ++ Plus ∷ [])

Sequenced : Option Policy → List Token → Type 0
Sequenced None ts = ts ≡ []
Sequenced (Some p) ts = (us : List Token) × Sequence us p × (ts ≡ us ++ Semicolon ∷ [])

-- so many !
marks : ℕ → List Token
marks zero = []
marks (suc n) = Exclamation ∷ marks n

-- the tokens up to an item inside the parentheses that are open
Opened : List Before → List Token → Type 0
Opened [] ts = ts ≡ []
Opened (b ∷ cs) ts =
    (o s q : List Token) × Opened cs o × Summed b.summed s × Sequenced b.sequenced q × (ts ≡ o ++ (s ++ (q ++ (marks b.negations ++ Opening ∷ []))))

-- the tokens up to the ! of an item
record Inside (m n : Option Policy) (cs : List Before) (ts : List Token) : Type 0 where
  o : List Token
  s : List Token
  q : List Token
  opened : Opened cs o
  sums : Summed m s
  sequences : Sequenced n q
  are : ts ≡ o ++ (s ++ q)

abbrev Within : Before → List Before → List Token → Type 0
Within b cs ts = Inside b.summed b.sequenced cs ts

-- the tokens that lead to a state
Reached : State → List Token → Type 0
Reached (wants b cs) ts = (us : List Token) × Within b cs us × (ts ≡ us ++ marks b.negations)
Reached (named b cs f) ts = (us : List Token) × Within b cs us × (ts ≡ us ++ (marks b.negations ++ Field f ∷ []))
Reached (compared b cs f c) ts = (us : List Token) × Within b cs us × (ts ≡ us ++ (marks b.negations ++ Field f ∷ Operator c ∷ []))
Reached (has b cs p) ts = (us vs : List Token) × Within b cs us × Starred vs p × (ts ≡ us ++ vs)

Advanced : Option State → List Token → Type 0
Advanced None ts = Unit
Advanced (Some s) ts = Reached s ts

sequence_of : (m : Option Policy) (p : Policy) (q vs : List Token) → Sequenced m q → Starred vs p → Sequence (q ++ vs) (join_sequence m p)
unfolding Sequenced join_sequence
sequence_of None p q vs e d = rw e (single d)
sequence_of (Some r) p q vs (us, h, e) d = sequenced h d (ap (λ (x : List Token). x ++ vs) e ∙ append_assoc us (Semicolon ∷ []) vs) refl

sum_of : (m : Option Policy) (p : Policy) (s vs : List Token) → Summed m s → Sequence vs p → Sum (s ++ vs) (join_sum m p)
unfolding Summed join_sum
sum_of None p s vs e d = rw e (alone d)
sum_of (Some r) p s vs (us, h, e) d = summed h d (ap (λ (x : List Token). x ++ vs) e ∙ append_assoc us (Plus ∷ []) vs) refl

-- an item after so many !
item_marked : (n : ℕ) {vs : List Token} {p : Policy} → Item vs p → Item (marks n ++ vs) (negated n p)
unfolding marks negated
item_marked zero d = d
item_marked (suc n) d = negation (item_marked n d) refl refl

marks_more : (n : ℕ) (ts : List Token) → marks n ++ Exclamation ∷ ts ≡ marks (suc n) ++ ts
unfolding marks
marks_more zero ts = refl
marks_more (suc n) ts = ap (λ (x : List Token). Exclamation ∷ x) (marks_more n ts)

-- an item has been read
read_reached : (b : Before) (cs : List Before) (p : Policy) (ts us vs : List Token) → Within b cs us → Item vs p → ts ≡ us ++ (marks b.negations ++ vs)
    → Reached (item_read b cs p) ts
unfolding Reached item_read
read_reached b cs p ts us vs i d e = (us, marks b.negations ++ vs, i, item (item_marked b.negations d), e)

close_reached : (b : Before) (cs : List Before) (p : Policy) (ts us vs : List Token) → Within b cs us → Starred vs p → ts ≡ us ++ vs → Advanced (close b cs p) (ts ++ Closing ∷ [])
unfolding Advanced close Opened whole up_to
close_reached b [] p ts us vs i d e = tt
close_reached b (c ∷ cs) p ts us vs i d e =
    let k = i.opened in
    let inner : Sum (i.s ++ (i.q ++ vs)) (whole b p) = sum_of b.summed (join_sequence b.sequenced p) i.s (i.q ++ vs) i.sums (sequence_of b.sequenced p i.q vs i.sequences d) in
    read_reached c cs (whole b p) (ts ++ Closing ∷ []) (k.0 ++ (k.1 ++ k.2)) (Opening ∷ (i.s ++ (i.q ++ vs)) ++ Closing ∷ [])
    (record { o = k.0; s = k.1; q = k.2; opened = k.3; sums = k.4; sequences = k.5; are = refl }) (parentheses inner refl)
    (ap (λ (x : List Token). x ++ Closing ∷ []) (e ∙ ap (λ (x : List Token). x ++ vs) (i.are ∙ ap (λ (x : List Token). x ++ (i.s ++ i.q)) k.6)) ∙ simp append_assoc)

advance : (st : State) (t : Token) (ts : List Token) → Reached st ts → Advanced (step st t) (ts ++ t ∷ [])
unfolding Advanced Reached step Opened Summed Sequenced nothing up_to whole negating marks
advance (wants b cs) (Keyword c) ts h =
    read_reached b cs (constant_policy c) (ts ++ Keyword c ∷ []) h.0 (Keyword c ∷ []) h.1 (word c refl refl)
    (ap (λ (x : List Token). x ++ Keyword c ∷ []) h.2 ∙ append_assoc h.0 (marks b.negations) (Keyword c ∷ []))
advance (wants b cs) (Field g) ts h = (h.0, h.1, ap (λ (x : List Token). x ++ Field g ∷ []) h.2 ∙ append_assoc h.0 (marks b.negations) (Field g ∷ []))
advance (wants b cs) (Number n) ts h = tt
advance (wants b cs) (Operator d) ts h = tt
advance (wants b cs) Plus ts h = tt
advance (wants b cs) Semicolon ts h = tt
advance (wants b cs) Asterisk ts h = tt
advance (wants b cs) Opening ts h =
    let i = h.1 in (
      ts ++ Opening ∷ [],
      record {
        o = ts ++ Opening ∷ [];
        s = [];
        q = [];
        opened = (
          i.o,
          i.s,
          i.q,
          i.opened,
          i.sums,
          i.sequences,
          ap (λ (x : List Token). x ++ Opening ∷ []) (h.2 ∙ ap (λ (x : List Token). x ++ marks b.negations) i.are) ∙ simp append_assoc,
        );
        sums = refl;
        sequences = refl;
        are = sym (append-nil (ts ++ Opening ∷ []));
      },
      sym (append-nil (ts ++ Opening ∷ [])),
    )
advance (wants b cs) Exclamation ts h = (
  h.0,
  h.1,
  ap (λ (x : List Token). x ++ Exclamation ∷ []) h.2 ∙ append_assoc h.0 (marks b.negations) (Exclamation ∷ [])
      ∙ ap (λ (x : List Token). h.0 ++ x) (marks_more b.negations [] ∙ append-nil (Exclamation ∷ marks b.negations)),
)
advance (wants b cs) Closing ts h = tt
advance (wants b cs) Bad ts h = tt
advance (named b cs f) (Keyword c) ts h = tt
advance (named b cs f) (Field g) ts h = tt
advance (named b cs f) (Number n) ts h = tt
advance (named b cs f) (Operator d) ts h = (h.0, h.1, ap (λ (x : List Token). x ++ Operator d ∷ []) h.2 ∙ simp append_assoc)
advance (named b cs f) Plus ts h = tt
advance (named b cs f) Semicolon ts h = tt
advance (named b cs f) Asterisk ts h = tt
advance (named b cs f) Opening ts h = tt
advance (named b cs f) Closing ts h = tt
advance (named b cs f) Exclamation ts h = tt
advance (named b cs f) Bad ts h = tt
advance (compared b cs f e) (Keyword c) ts h = tt
advance (compared b cs f e) (Field g) ts h = tt
advance (compared b cs f e) (Number n) ts h =
    read_reached b cs (Tree.field (field_action e f n)) (ts ++ Number n ∷ []) h.0 (Field f ∷ Operator e ∷ Number n ∷ []) h.1 (action f n e refl refl)
    (ap (λ (x : List Token). x ++ Number n ∷ []) h.2 ∙ simp append_assoc)
advance (compared b cs f e) (Operator d) ts h = tt
advance (compared b cs f e) Plus ts h = tt
advance (compared b cs f e) Semicolon ts h = tt
advance (compared b cs f e) Asterisk ts h = tt
advance (compared b cs f e) Opening ts h = tt
advance (compared b cs f e) Closing ts h = tt
advance (compared b cs f e) Exclamation ts h = tt
advance (compared b cs f e) Bad ts h = tt
advance (has b cs p) (Keyword c) ts h = tt
advance (has b cs p) (Field g) ts h = tt
advance (has b cs p) (Number n) ts h = tt
advance (has b cs p) (Operator d) ts h = tt
advance (has b cs p) Plus ts h =
    let i = h.2 in (
      ts ++ Plus ∷ [],
      record {
        o = i.o;
        s = (i.s ++ (i.q ++ h.1)) ++ Plus ∷ [];
        q = [];
        opened = i.opened;
        sums = (
          i.s ++ (i.q ++ h.1),
          sum_of b.summed (join_sequence b.sequenced p) i.s (i.q ++ h.1) i.sums (sequence_of b.sequenced p i.q h.1 i.sequences h.3),
          refl,
        );
        sequences = refl;
        are = ap (λ (x : List Token). x ++ Plus ∷ []) (h.4 ∙ ap (λ (x : List Token). x ++ h.1) i.are) ∙ simp (append_assoc, append-nil);
      },
      sym (append-nil (ts ++ Plus ∷ [])),
    )
advance (has b cs p) Semicolon ts h =
    let i = h.2 in (
      ts ++ Semicolon ∷ [],
      record {
        o = i.o;
        s = i.s;
        q = (i.q ++ h.1) ++ Semicolon ∷ [];
        opened = i.opened;
        sums = i.sums;
        sequences = (i.q ++ h.1, sequence_of b.sequenced p i.q h.1 i.sequences h.3, refl);
        are = ap (λ (x : List Token). x ++ Semicolon ∷ []) (h.4 ∙ ap (λ (x : List Token). x ++ h.1) i.are) ∙ simp append_assoc;
      },
      sym (append-nil (ts ++ Semicolon ∷ [])),
    )
advance (has b cs p) Asterisk ts h = (h.0, h.1 ++ Asterisk ∷ [], h.2, starred h.3 refl refl, ap (λ (x : List Token). x ++ Asterisk ∷ []) h.4 ∙ append_assoc h.0 h.1 (Asterisk ∷ []))
advance (has b cs p) Opening ts h = tt
advance (has b cs p) Closing ts h = close_reached b cs p ts h.0 h.1 h.2 h.3 h.4
advance (has b cs p) Exclamation ts h = tt
advance (has b cs p) Bad ts h = tt

finish_derived : (st : State) (ts : List Token) (p : Policy) → Reached st ts → tree_in (finish 0 st) ≡ Some p → Sum ts p
unfolding Reached finish tree_in Opened whole up_to
finish_derived (wants b cs) ts p h e = absurd (let z : ◌≡◌ {A = ℕ} 0 1 = cc in omega arith)
finish_derived (named b cs f) ts p h e = absurd (let z : ◌≡◌ {A = ℕ} 0 1 = cc in omega arith)
finish_derived (compared b cs f c) ts p h e = absurd (let z : ◌≡◌ {A = ℕ} 0 1 = cc in omega arith)
finish_derived (has b (c ∷ cs) q) ts p h e = absurd (let z : ◌≡◌ {A = ℕ} 0 1 = cc in omega arith)
finish_derived (has b [] q) ts p h e =
    let i = h.2 in
    let d : Sum (i.s ++ (i.q ++ h.1)) (whole b q) = sum_of b.summed (join_sequence b.sequenced q) i.s (i.q ++ h.1) i.sums (sequence_of b.sequenced q i.q h.1 i.sequences h.3) in
    subst₂ Sum (sym (h.4 ∙ ap (λ (x : List Token). x ++ h.1) (i.are ∙ ap (λ (x : List Token). x ++ (i.s ++ i.q)) i.opened) ∙ append_assoc i.s i.q h.1)) (some_one (whole b q) p e) d

derived_from : (st : State) (us ts : List Token) (p : Policy) → Reached st us → accept st ts ≡ Some p → Sum (us ++ ts) p
unfolding accept Advanced
derived_from st us [] p h e = subst (λ (l : List Token). Sum l p) (sym (append-nil us)) (finish_derived st us p h e)
derived_from st us (t ∷ ts) p h e = go (step st t) refl (advance st t us h) (λ s' r q. derived_from s' (us ++ t ∷ []) ts p r q)
  where
    go : (o : Option State) → step st t ≡ o → Advanced o (us ++ t ∷ []) → ((s' : State) → Reached s' (us ++ t ∷ []) → accept s' ts ≡ Some p → Sum ((us ++ t ∷ []) ++ ts) p) → Sum (us ++ t ∷ ts) p
    go None q a f = absurd (let y : None ≡ Some p = sym (accept_none st t ts q) ∙ e in let z : ◌≡◌ {A = ℕ} 0 1 = cc in omega arith)
    go (Some s') q a f = subst (λ (l : List Token). Sum l p) (append_assoc us (t ∷ []) ts) (f s' a (sym (accept_some st s' t ts q) ∙ e))

derived : (ts : List Token) (p : Policy) → accept start ts ≡ Some p → Sum ts p
unfolding start Reached Opened Summed Sequenced nothing marks
derived ts p e = derived_from start [] ts p ([], record { o = []; s = []; q = []; opened = refl; sums = refl; sequences = refl; are = refl }, refl) e

tree_in_lem : (o : Outcome) (p : Policy) → tree_in o ≡ Some p → o ≡ tree p
unfolding tree_in
tree_in_lem (tree q) p e = ap tree (some_one q p e)
tree_in_lem (stop n) p e = absurd (let z : ◌≡◌ {A = ℕ} 0 1 = cc in omega arith)

-- the reading finds a tree exactly where the tokens derive it
pub read_derives : (names : List (List ℕ)) (text : List ℕ) (p : Policy) → (outcome names text ≡ tree p) ↔ Sum (bare (tokens names text)) p
unfolding outcome tree_in
read_derives names text p = (
  λ e. derived (bare (tokens names text)) p (sym (read_accept (length text) start (tokens names text)) ∙ ap tree_in e),
  λ d. tree_in_lem (read_on (length text) start (tokens names text)) p (read_accept (length text) start (tokens names text) ∙ found d),
)

-- ---- cause 16

-- some tokens complete these to a sequence that derives a tree
unfoldable pub Viable : List Token → Type 0
Viable ts = (us : List Token) × (p : Policy) × Sum (ts ++ us) p

closings : List Before → List Token
closings [] = []
closings (c ∷ cs) = Closing ∷ closings cs

has_completes : (cs : List Before) (b : Before) (p : Policy) → (q : Policy) × (accept (has b cs p) (closings cs) ≡ Some q)
unfolding accept closings step close item_read finish tree_in
has_completes [] b p = (whole b p, refl)
has_completes (c ∷ cs) b p = has_completes cs _ (negated c.negations (whole b p))

-- from every state some tokens end in a tree
completes : (st : State) → (us : List Token) × (q : Policy) × (accept st us ≡ Some q)
unfolding accept step item_read
completes (wants b cs) = let h = has_completes cs _ (negated b.negations (constant_policy Id)) in (Keyword Id ∷ closings cs, h.0, h.1)
completes (named b cs f) = let h = has_completes cs _ (negated b.negations (Tree.field (field_action Equal f 0))) in (Operator Equal ∷ Number 0 ∷ closings cs, h.0, h.1)
completes (compared b cs f c) = let h = has_completes cs _ (negated b.negations (Tree.field (field_action c f 0))) in (Number 0 ∷ closings cs, h.0, h.1)
completes (has b cs p) = let h = has_completes cs b p in (closings cs, h.0, h.1)

-- a state refuses the token at the front, or the end
Refuses : State → List Placed → Type 0
Refuses st [] = accept st [] ≡ None
Refuses st (t ∷ ts) = step st t.token ≡ None

record Stopped (end : ℕ) (st : State) (ts : List Placed) (n : ℕ) : Type 0 where
  read : List Placed
  left : List Placed
  state : State
  parts : ts ≡ read ++ left
  place : n ≡ front_place end left
  leads : (us : List Token) → accept st (bare read ++ us) ≡ accept state us
  refuses : Refuses state left

stop_one : (m n : ℕ) → stop m ≡ stop n → m ≡ n
stop_one m n e = cc

finish_stops : (end : ℕ) (st : State) (n : ℕ) → finish end st ≡ stop n → (tree_in (finish 0 st) ≡ None) × (n ≡ end)
unfolding finish tree_in
finish_stops end (wants b cs) n e = (refl, sym (stop_one end n e))
finish_stops end (named b cs f) n e = (refl, sym (stop_one end n e))
finish_stops end (compared b cs f c) n e = (refl, sym (stop_one end n e))
finish_stops end (has b (c ∷ cs) p) n e = (refl, sym (stop_one end n e))
finish_stops end (has b [] p) n e = absurd (let z : ◌≡◌ {A = ℕ} 0 1 = cc in omega arith)

stopped_at : (end : ℕ) (st : State) (ts : List Placed) (n : ℕ) → read_on end st ts ≡ stop n → Stopped end st ts n
unfolding read_on bare Refuses front_place accept
stopped_at end st [] n e =
    let h = finish_stops end st n e in
    record { read = []; left = []; state = st; parts = refl; place = h.1; leads = λ us. refl; refuses = h.0 }
stopped_at end st (t ∷ ts) n e = go (step st t.token) refl (λ s' q. stopped_at end s' ts n q)
  where
    go : (o : Option State) → step st t.token ≡ o → ((s' : State) → read_on end s' ts ≡ stop n → Stopped end s' ts n) → Stopped end st (t ∷ ts) n
    go None q f =
        record { read = []; left = t ∷ ts; state = st; parts = refl; place = sym (stop_one t.start n (sym (read_none end st t ts q) ∙ e)); leads = λ us. refl; refuses = q }
    go (Some s') q f =
        let h = f s' (sym (read_some end st s' t ts q) ∙ e) in
        record {
          read = t ∷ h.read;
          left = h.left;
          state = h.state;
          parts = ap (λ (l : List Placed). t ∷ l) h.parts;
          place = h.place;
          leads = λ us. accept_some st s' t.token (bare h.read ++ us) q ∙ h.leads us;
          refuses = h.refuses;
        }

refused_end : (st : State) (l : List Placed) → l ≡ [] → Refuses st l → accept st [] ≡ None
unfolding Refuses
refused_end st l e r = subst (Refuses st) e r

refused_front : (st : State) (t : Placed) (us l : List Placed) → l ≡ t ∷ us → Refuses st l → step st t.token ≡ None
unfolding Refuses
refused_front st t us l e r = subst (Refuses st) e r

number_one : (m n : ℕ) → Some m ≡ Some n → m ≡ n
number_one m n e = cc

-- the tokens before the byte of cause 16 begin a legal text; with the token there no text does; where it is the end, the text is none itself
pub record FirstIllegal (end : ℕ) (ts : List Placed) (n : ℕ) : Type 0 where
  pub read : List Placed
  pub left : List Placed
  pub parts : ts ≡ read ++ left
  pub place : n ≡ front_place end left
  pub viable : Viable (bare read)
  pub ended : left ≡ [] → (p : Policy) → Sum (bare read) p → ⊥
  pub dead : (t : Placed) (us : List Placed) → left ≡ t ∷ us → Viable (bare read ++ t.token ∷ []) → ⊥

pub first_illegal : (names : List (List ℕ)) (text : List ℕ) (n : ℕ) → stop_place (outcome names text) ≡ Some n → FirstIllegal (length text) (tokens names text) n
unfolding outcome stop_place Viable
first_illegal names text n e = go (read_on (length text) start (tokens names text)) refl e
  where
    never : {p : Policy} → None ≡ Some p → ⊥
    never {p} q = let z : ◌≡◌ {A = ℕ} 0 1 = cc in omega arith

    illegal : Stopped (length text) start (tokens names text) n → FirstIllegal (length text) (tokens names text) n
    illegal h =
        let c = completes h.state in
        record {
          read = h.read;
          left = h.left;
          parts = h.parts;
          place = h.place;
          viable = (c.0, c.1, derived (bare h.read ++ c.0) c.1 (h.leads c.0 ∙ c.2));
          ended = λ q p d. never (sym (refused_end h.state h.left q h.refuses) ∙ sym (h.leads []) ∙ ap (accept start) (append-nil (bare h.read)) ∙ found d);
          dead = λ t us q v.
              never
              (sym (accept_none h.state t.token v.0 (refused_front h.state t us h.left q h.refuses))
              ∙ sym (h.leads (t.token ∷ v.0))
              ∙ ap (accept start) (sym (append_assoc (bare h.read) (t.token ∷ []) v.0))
              ∙ found v.2);
        }

    go : (o : Outcome) → read_on (length text) start (tokens names text) ≡ o → stop_place o ≡ Some n → FirstIllegal (length text) (tokens names text) n
    go (tree p) q f = absurd (let y : ◌≡◌ {A = Option ℕ} None (Some n) = f in let z : ◌≡◌ {A = ℕ} 0 1 = cc in omega arith)
    go (stop m) q f = illegal (stopped_at (length text) start (tokens names text) n (q ∙ ap stop (number_one m n f)))

-- ---- the count

no_bad : (st : State) → step st Bad ≡ None
unfolding step
no_bad (wants b cs) = refl
no_bad (named b cs f) = refl
no_bad (compared b cs f c) = refl
no_bad (has b cs p) = refl

bad_token : (t : Token) → is_bad t ≡ true → t ≡ Bad
unfolding is_bad
bad_token (Keyword c) e = absurd (true≢false (sym e))
bad_token (Field g) e = absurd (true≢false (sym e))
bad_token (Number n) e = absurd (true≢false (sym e))
bad_token (Operator d) e = absurd (true≢false (sym e))
bad_token Plus e = absurd (true≢false (sym e))
bad_token Semicolon e = absurd (true≢false (sym e))
bad_token Asterisk e = absurd (true≢false (sym e))
bad_token Opening e = absurd (true≢false (sym e))
bad_token Closing e = absurd (true≢false (sym e))
bad_token Exclamation e = absurd (true≢false (sym e))
bad_token Bad e = refl

-- what derives a tree has no bad token
tree_words : (end : ℕ) (st : State) (ts : List Placed) (p : Policy) → read_on end st ts ≡ tree p → bad_place ts ≡ None
unfolding bad_place read_on
tree_words end st [] p e = refl
tree_words end st (t ∷ ts) p e = go (step st t.token) refl (is_bad t.token) refl (λ s' q. tree_words end s' ts p q)
  where
    never : {n : ℕ} → stop n ≡ tree p → ⊥
    never {n} q = let z : ◌≡◌ {A = ℕ} 0 1 = cc in omega arith

    go : (o : Option State) → step st t.token ≡ o → (b : Bool) → is_bad t.token ≡ b → ((s' : State) → read_on end s' ts ≡ tree p → bad_place ts ≡ None) → bad_place (t ∷ ts) ≡ None
    go None q b w f = absurd (never (sym (read_none end st t ts q) ∙ e))
    go (Some s') q true w f = absurd (let y : None ≡ Some s' = sym (no_bad st) ∙ ap (step st) (sym (bad_token t.token w)) ∙ q in let z : ◌≡◌ {A = ℕ} 0 1 = cc in omega arith)
    go (Some s') q false w f = rw (w, bad_place) (f s' (sym (read_some end st s' t ts q) ∙ e))

-- the answer is a count exactly where the tokens derive a tree that causes 15 and 17 let pass: the count is that of its nodes
words_pass : (names : List (List ℕ)) (text : List ℕ) (p : Policy) → outcome names text ≡ tree p → bad_place (tokens names text) ≡ None
unfolding outcome
words_pass names text p e = tree_words (length text) start (tokens names text) p e

pub tree_read_lem : (names : List (List ℕ)) (text : List ℕ) → stop_place (outcome names text) ≡ None → outcome names text ≡ tree (text_tree names text)
unfolding text_tree stop_place tree_read
tree_read_lem names text e = go (outcome names text) e
  where
    go : (o : Outcome) → stop_place o ≡ None → o ≡ tree (tree_read o)
    go (tree p) e = refl
    go (stop n) e = absurd (let z : ◌≡◌ {A = ℕ} 0 1 = cc in omega arith)

pub counts : (names : List (List ℕ)) (text : List ℕ) (room n : ℕ)
    → (answer_to names text room ≡ Ok n) ↔ ((deep_place 0 (tokens names text) ≡ None) × ((p : Policy) × Sum (bare (tokens names text)) p × (tree_size p ≡ n)) × (n ≤ min 512 room))
counts names text room n = (there, back)
  where
    there : answer_to names text room ≡ Ok n → (deep_place 0 (tokens names text) ≡ None) × ((p : Policy) × Sum (bare (tokens names text)) p × (tree_size p ≡ n)) × (n ≤ min 512 room)
    there e =
        let q = count_parts names text room n (sym e) in
        (q.0, (text_tree names text, (read_derives names text (text_tree names text)).0 (tree_read_lem names text q.1), q.3), subst (λ (k : ℕ). k ≤ min 512 room) q.3 (few_enough room (tree_size (text_tree names text)) q.2))

    back : (deep_place 0 (tokens names text) ≡ None) × ((p : Policy) × Sum (bare (tokens names text)) p × (tree_size p ≡ n)) × (n ≤ min 512 room) → answer_to names text room ≡ Ok n
    back (d, (p, h, z), l) =
        let t : outcome names text ≡ tree p = (read_derives names text p).1 h in
        count_answers names text room n p (words_pass names text p t) d t z l
