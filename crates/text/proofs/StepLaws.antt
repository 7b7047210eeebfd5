-- What each way out of a reader shows.
use Prim.Native.Nat.{ℕ, ◌+◌, ◌-◌, ◌^◌, ◌≤◌, ◌<◌}
use native.Mathlib.Omega.{arith}
use mathlib.Core.List.{List, [], ◌∷◌}
use Rattle.std.specs.Prelude.{Option, Some, None}
use mathlib.Core.Path.{◌≡◌, refl, sym, ◌∙◌, ap, ap₂, subst}
use lib.ListN.{length}
use Rattle.policy.specs.Tree.{Policy}
use Rattle.policy.specs.Tree
use Rattle.policy.specs.NodeLists.{NodeLists}
use Rattle.policy.specs.NodesOfTree.{NodeEntry, node_entry, action_entry, tree_size, entries_from}
use Rattle.policy.proofs.Postfix.{size_positive}
use Rattle.grammar.specs.declared.Token.{Token}
use Rattle.grammar.specs.declared.Token.TheVariants.{Keyword, Field, Number, Operator, Plus, Semicolon, Asterisk, Opening, Closing, Exclamation}
use Rattle.grammar.specs.declared.Constant.{Constant}
use Rattle.grammar.specs.declared.Constant.TheVariants.{Drop, Id, Dup}
use Rattle.grammar.specs.declared.Comparison.{Comparison}
use Rattle.grammar.specs.declared.Comparison.TheVariants.{Equal, Different, Assigned}
use Rattle.grammar.specs.Tokens.{Placed, tokens_from}
use Rattle.grammar.specs.InnerKinds.{front, front_place, constant_kind, comparison_kind}
use Rattle.grammar.specs.Grammar.{constant_policy, field_action}
use Rattle.grammar.specs.Reading.{Before, nothing, join_sequence, join_sum, up_to, whole, negated, State, wants, named, compared, has, negating, item_read, stop, read_on}
use Rattle.tokens.specs.Inner.{FirstAt}
use Rattle.text.specs.Inner.{ReaderLevel, bare, item, starred, joined, sequence, added, sum, Entered, After, Past, put_entry, put_all, put_negations, more_negations, HasRoom, ReaderReady, MarkAt, Stuck, Scanned, GotLeaf, Shut, Got, Stops, NodeJoined, Negated}
use Rattle.tokens.specs.declared.Placed as Found
use Rattle.text.specs.declared.NegationRun as Scan
use Rattle.text.specs.declared.Step as Stepped
use Rattle.text.specs.declared.Leaf as Leaves
use Rattle.grammar.proofs.ReadLaws.{wants_stops, named_stops, compared_stops, wants_ends, named_ends, compared_ends, at_keyword, at_field, at_operator, at_number, at_opening, at_exclamation, at_asterisk, at_semicolon, at_plus, at_closing, open_stops, collapse_sequence, collapse_sum}
use Rattle.text.proofs.PutLaws.{put_star, negated_size, put_negated, put_join, joined_entries, room_all}

constant_size : (c : Constant) → tree_size (constant_policy c) ≡ 1
unfolding constant_policy tree_size
constant_size Drop = refl
constant_size Id = refl
constant_size Dup = refl

constant_entries : (n : ℕ) (c : Constant) → entries_from n (constant_policy c) ≡ node_entry (constant_kind c) 0 0 ∷ []
unfolding constant_policy entries_from constant_kind
constant_entries n Drop = refl
constant_entries n Id = refl
constant_entries n Dup = refl

action_entries : (n : ℕ) (c : Comparison) (f v : ℕ) → entries_from n (Tree.field (field_action c f v)) ≡ node_entry (comparison_kind c) f v ∷ []
unfolding entries_from field_action action_entry comparison_kind
action_entries n Equal f v = refl
action_entries n Different f v = refl
action_entries n Assigned f v = refl

-- where no token is left
pub front_none : {ts : List Placed} {k : Token} → ts ≡ [] → front ts ≡ Some k → ⊥
unfolding front
front_none {k = k} e f = let y : None ≡ Some k = sym (ap front e) ∙ f in let z : ◌≡◌ {A = ℕ} 0 1 = cc in omega arith

pub end_place : {ts : List Placed} {end place : ℕ} → (ts ≡ []) × (place ≡ end) → place ≡ front_place end ts
unfolding front_place
end_place {end = end} h = h.1 ∙ sym (ap (front_place end) h.0)

module _ (names : List (List ℕ)) (text : List ℕ) where
  abbrev toks : ℕ → List Placed
  toks at = tokens_from names text at

  abbrev end : ℕ
  end = length text

  -- the tokens from a byte on, by the one that is first
  pub token_at : {at : ℕ} {t : Found.Placed} {k : Token} → FirstAt names text at t → t.token ≡ k → toks at ≡ record { token = k; start = t.start } ∷ toks t.next
  token_at {t = t} f e = f.tokens_are ∙ ap (λ (x : Token). record { token = x; start = t.start } ∷ toks t.next) e

  pub first_onward : {at : ℕ} {t : Found.Placed} → FirstAt names text at t → at < t.next
  first_onward f = omega (arith, f.low, f.onward)

  pub mark_first : {at : ℕ} {t : Found.Placed} {k : Token} → FirstAt names text at t → t.token ≡ k → MarkAt names text k at t.next
  mark_first {t = t} f e = record { place = t.start; tokens_are = token_at f e; onward = first_onward f; within = f.within }

  pub front_is : {at : ℕ} {t : Found.Placed} → FirstAt names text at t → front (toks at) ≡ Some t.token
  unfolding front
  front_is f = ap front f.tokens_are

  pub place_is : {at : ℕ} {t : Found.Placed} → FirstAt names text at t → t.start ≡ front_place end (toks at)
  unfolding front_place
  place_is f = sym (ap (front_place end) f.tokens_are)

  -- the first token is no other than it is, and none where there is no token
  pub front_other : {at : ℕ} {t : Found.Placed} {k : Token} → FirstAt names text at t → (t.token ≡ k → ⊥) → front (toks at) ≡ Some k → ⊥
  front_other {t = t} {k} f h e = h (let y : Some t.token ≡ Some k = sym (front_is f) ∙ e in cc)

  pub not_ended : {at : ℕ} {t : Found.Placed} → FirstAt names text at t → front (toks at) ≡ None → ⊥
  not_ended {t = t} f e = let y : Some t.token ≡ None = sym (front_is f) ∙ e in let z : ◌≡◌ {A = ℕ} 0 1 = cc in omega arith

  -- ---- an item that is one node

  module _ {at : ℕ} {t : Found.Placed} (f : FirstAt names text at t) where
    pub leaf_keyword : {c : Constant} {k : ℕ} → t.token ≡ Keyword c → k ≡ constant_kind c → GotLeaf names text at (record { at = t.next; kind = k; first = 0; second = 0 })
    leaf_keyword {c} e q =
        record {
          policy = constant_policy c;
          moves = λ b cs. at_keyword end b cs (token_at f e);
          one = constant_size c;
          entries = λ n. constant_entries n c ∙ ap (λ (x : ℕ). node_entry x 0 0 ∷ []) (sym q);
          onward = first_onward f;
          within = f.within;
        }

    pub leaf_none : ((c : Constant) → t.token ≡ Keyword c → ⊥) → ((n : ℕ) → t.token ≡ Field n → ⊥) → (t.token ≡ Opening → ⊥) → (t.token ≡ Exclamation → ⊥) → Stuck names text at t.start
    leaf_none x y z w b cs = wants_stops end b cs f.tokens_are x y z w

    module _ {n : ℕ} (e : t.token ≡ Field n) where
      past_name : (b : Before) (cs : List Before) → read_on end (wants b cs) (toks at) ≡ read_on end (named b cs n) (toks t.next)
      past_name b cs = at_field end b cs (token_at f e)

      pub name_ends : {place : ℕ} → (toks t.next ≡ []) × (place ≡ end) → Stuck names text at place
      name_ends h b cs = past_name b cs ∙ named_ends end b cs n h.0 ∙ ap stop (sym h.1)

      module _ {o : Found.Placed} (g : FirstAt names text t.next o) where
        pub name_stops : ((c : Comparison) → o.token ≡ Operator c → ⊥) → Stuck names text at o.start
        name_stops x b cs = past_name b cs ∙ named_stops end b cs n g.tokens_are x

        module _ {c : Comparison} (e' : o.token ≡ Operator c) where
          past_operator : (b : Before) (cs : List Before) → read_on end (wants b cs) (toks at) ≡ read_on end (compared b cs n c) (toks o.next)
          past_operator b cs = past_name b cs ∙ at_operator end b cs n (token_at g e')

          pub operator_ends : {place : ℕ} → (toks o.next ≡ []) × (place ≡ end) → Stuck names text at place
          operator_ends h b cs = past_operator b cs ∙ compared_ends end b cs n c h.0 ∙ ap stop (sym h.1)

          module _ {v : Found.Placed} (w : FirstAt names text o.next v) where
            pub operator_stops : ((m : ℕ) → v.token ≡ Number m → ⊥) → Stuck names text at v.start
            operator_stops x b cs = past_operator b cs ∙ compared_stops end b cs n c w.tokens_are x

            pub leaf_action : {m k : ℕ} → v.token ≡ Number m → k ≡ comparison_kind c → GotLeaf names text at (record { at = v.next; kind = k; first = n; second = m })
            unfolding tree_size
            leaf_action {m} {k} x q =
                record {
                  policy = Tree.field (field_action c n m);
                  moves = λ b cs. past_operator b cs ∙ at_number end b cs n c (token_at w x);
                  one = refl;
                  entries = λ i. action_entries i c n m ∙ ap (λ (z : ℕ). node_entry z n m ∷ []) (sym q);
                  onward = omega (arith, first_onward f, first_onward g, first_onward w);
                  within = w.within;
                }

  -- ---- a run of !

  pub scanned_none : (at : ℕ) (b : Before) (cs : List Before) → read_on end (wants b cs) (toks at) ≡ read_on end (wants (more_negations 0 b) cs) (toks at)
  unfolding more_negations
  scanned_none at b cs = ap (λ (n : ℕ). read_on end (wants (record { summed = b.summed; sequenced = b.sequenced; negations = n }) cs) (toks at)) (omega arith)

  pub scanned_more : (count : ℕ) {at : ℕ} {t : Found.Placed} → FirstAt names text at t → t.token ≡ Exclamation → (b : Before) (cs : List Before)
      → read_on end (wants (more_negations count b) cs) (toks at) ≡ read_on end (wants (more_negations (count + 1) b) cs) (toks t.next)
  unfolding more_negations negating
  scanned_more count {t = t} f e b cs =
      at_exclamation end (more_negations count b) cs (token_at f e)
      ∙ ap (λ (n : ℕ). read_on end (wants (record { summed = b.summed; sequenced = b.sequenced; negations = n }) cs) (toks t.next)) (omega arith)

  -- what stands after a run of ! is negated by each of them
  read_negated : (n : ℕ) (b : Before) (cs : List Before) (p : Policy) → b.negations ≡ 0 → item_read (more_negations n b) cs p ≡ has b cs (negated n p)
  unfolding item_read more_negations
  read_negated n b cs p h =
      ap₂ (λ (m k : ℕ). has (record { summed = b.summed; sequenced = b.sequenced; negations = m }) cs (negated k p)) (sym h) (omega arith)

  -- so many ! stand between the bytes at and i, where the token t is
  pub record Marked (at count : ℕ) (t : Found.Placed) : Type 0 where
    pub place : ℕ
    pub moves : (b : Before) (cs : List Before) → read_on end (wants b cs) (toks at) ≡ read_on end (wants (more_negations count b) cs) (toks place)
    pub token_is : FirstAt names text place t
    pub few : at + count ≤ place

  pub marked_none : {at : ℕ} {t : Found.Placed} → FirstAt names text at t → Marked at 0 t
  marked_none {at} f = record { place = at; moves = scanned_none at; token_is = f; few = omega arith }

  module _ {at count : ℕ} {t : Found.Placed} (m : Marked at count t) where
    pub marked_more : {u : Found.Placed} → t.token ≡ Exclamation → FirstAt names text t.next u → Marked at (count + 1) u
    marked_more e g =
        record {
          place = t.next;
          moves = λ b cs. m.moves b cs ∙ scanned_more count m.token_is e b cs;
          token_is = g;
          few = omega (arith, m.few, first_onward m.token_is);
        }

    pub marked_ends : {place : ℕ} → t.token ≡ Exclamation → (toks t.next ≡ []) × (place ≡ end) → Stuck names text at place
    marked_ends e h b cs = m.moves b cs ∙ scanned_more count m.token_is e b cs ∙ wants_ends end (more_negations (count + 1) b) cs h.0 ∙ ap stop (sym h.1)

    pub marked_over : (t.token ≡ Exclamation → ⊥) → Scanned names text at (record { count = count; token = t })
    marked_over h = record { place = m.place; moves = m.moves; token_is = m.token_is; over = h; few = m.few }

  pub none_ends : (at : ℕ) {place : ℕ} → (toks at ≡ []) × (place ≡ end) → Stuck names text at place
  none_ends at h b cs = wants_ends end b cs h.0 ∙ ap stop (sym h.1)

module _ (names : List (List ℕ)) (text : List ℕ) (room : ℕ) where
  pub leaf_item : {at nodes : ℕ} {L L' : NodeLists} {w : Leaves.Leaf} → GotLeaf names text at w
      → L' ≡ put_entry room nodes (node_entry w.kind w.first w.second) L
      → Got names text bare at nodes room L L' (record { at = w.at; nodes = nodes + 1 })
  unfolding Past After put_all
  leaf_item {nodes = n} {L = L} g l =
      record {
        policy = g.policy;
        moves = λ b h cs. g.moves b cs;
        past = tt;
        nodes_is = omega (arith, g.one);
        lists_are = l ∙ ap (λ (es : List NodeEntry). put_all room n es L) (sym (g.entries n));
        onward = g.onward;
        within = g.within;
        few = omega (arith, g.onward);
      }

  -- ---- a sum in parentheses

  module _ {at : ℕ} {t : Found.Placed} (f : FirstAt names text at t) (e : t.token ≡ Opening) where
    inner : (b : Before) (cs : List Before) → read_on (length text) (wants b cs) (tokens_from names text at) ≡ read_on (length text) (wants nothing (b ∷ cs)) (tokens_from names text t.next)
    inner b cs = at_opening (length text) b cs (token_at names text f e)

    pub opened : {nodes : ℕ} {L L' : NodeLists} {s r : Stepped.Step} → Got names text sum t.next nodes room L L' s → Shut names text s r → Got names text bare at nodes room L L' r
    unfolding Entered After Past
    opened {s = s} g c =
        record {
          policy = g.policy;
          moves = λ b h cs. inner b cs ∙ g.moves nothing refl (b ∷ cs) ∙ at_closing (length text) b cs g.policy c.mark.tokens_are;
          past = tt;
          nodes_is = c.nodes_is ∙ g.nodes_is;
          lists_are = g.lists_are;
          onward = omega (arith, first_onward names text f, g.onward, c.mark.onward);
          within = c.mark.within;
          few = omega (arith, first_onward names text f, g.few, c.mark.onward, c.nodes_is);
        }

    pub opened_stops : {place : ℕ} → Stops names text sum t.next place → Stuck names text at place
    unfolding Entered
    opened_stops d b cs = inner b cs ∙ d nothing refl (b ∷ cs)

    pub unclosed : {nodes place : ℕ} {L L' : NodeLists} {s : Stepped.Step} → Got names text sum t.next nodes room L L' s
        → (front (tokens_from names text s.at) ≡ Some Closing → ⊥) × (place ≡ front_place (length text) (tokens_from names text s.at)) → Stuck names text at place
    unfolding Entered After Past
    unclosed {s = s} g h b cs =
        inner b cs ∙ g.moves nothing refl (b ∷ cs)
        ∙ open_stops (length text) nothing b cs g.policy (tokens_from names text s.at) h.0 g.past.0 g.past.1 g.past.2
        ∙ ap stop (sym h.1)

  -- ---- an item with its !

  module _ {at : ℕ} {x : Scan.NegationRun} (s : Scanned names text at x) where
    pub item_turn : {nodes : ℕ} {L L₁ L₂ : NodeLists} {r r' : Stepped.Step} → Got names text bare s.place nodes room L L₁ r → Negated x.count room r L₁ r' L₂
        → Got names text item at nodes room L L₂ r'
    unfolding Entered After Past
    item_turn {nodes} {L} {L₂ = L₂} {r = r} g n =
        subst (Got names text item at nodes room L L₂) (sym n.step_is)
        (record {
          policy = negated x.count g.policy;
          moves = λ b h cs.
              s.moves b cs ∙ g.moves (more_negations x.count b) tt cs
              ∙ ap (λ (z : State). read_on (length text) z (tokens_from names text r.at)) (read_negated names text x.count b cs g.policy h);
          past = tt;
          nodes_is = omega (arith, g.nodes_is, negated_size x.count g.policy);
          lists_are = n.lists_are ∙ ap (put_negations room r.nodes x.count) g.lists_are ∙ put_negated room nodes r.nodes x.count g.policy L g.nodes_is;
          onward = omega (arith, s.few, g.onward);
          within = g.within;
          few = omega (arith, s.few, g.few);
        })

    pub item_stops : {place : ℕ} → Stuck names text s.place place → Stops names text item at place
    item_stops d b h cs = s.moves b cs ∙ d (more_negations x.count b) cs

    -- what the sum after a parenthesis asks
    pub ready_open : {nodes : ℕ} {L : NodeLists} → ReaderReady text at nodes room L → ReaderReady text x.token.next nodes room L
    ready_open r =
        record { within = s.token_is.within; few = omega (arith, r.few, s.few, first_onward names text s.token_is); fits = r.fits }

    -- what negating asks
    pub negate_ready : {nodes : ℕ} {L L₁ : NodeLists} {r : Stepped.Step} → length text < 2 ^ 63 → ReaderReady text at nodes room L → Got names text bare s.place nodes room L L₁ r
        → HasRoom room L₁ × (0 < r.nodes) × (r.nodes + x.count < 2 ^ 63)
    negate_ready big y g = (
      room_all _ _ y.fits g.lists_are,
      omega (arith, g.nodes_is, size_positive g.policy),
      omega (arith, g.few, g.within, s.few, y.few),
    )

  module _ {l : ReaderLevel} {at nodes : ℕ} {L L₁ : NodeLists} {s : Stepped.Step} (g : Got names text l at nodes room L L₁ s) where
    pub nodes_pos : 0 < s.nodes
    nodes_pos = omega (arith, g.nodes_is, size_positive g.policy)

    -- what a reader asks after a mark
    pub ready_next : {k : Token} {next : ℕ} → ReaderReady text at nodes room L → MarkAt names text k s.at next → ReaderReady text next s.nodes room L₁
    ready_next r m = record { within = m.within; few = omega (arith, r.few, g.few, m.onward); fits = room_all _ _ r.fits g.lists_are }

    -- what joining asks
    pub join_ready : {m : ReaderLevel} {k : Token} {next : ℕ} {L₂ : NodeLists} {r : Stepped.Step} → length text < 2 ^ 63 → ReaderReady text at nodes room L → MarkAt names text k s.at next
        → Got names text m next s.nodes room L₁ L₂ r → HasRoom room L₂ × (s.nodes - 1 < r.nodes) × (r.nodes < 2 ^ 63)
    join_ready big y m h = (
      room_all _ _ (room_all _ _ y.fits g.lists_are) h.lists_are,
      omega (arith, nodes_pos, h.nodes_is),
      omega (arith, h.few, h.within, m.onward, g.few, y.few),
    )

  -- ---- one more *

  pub star_turn : {at nodes next : ℕ} {L L₁ L₂ : NodeLists} {s : Stepped.Step} → Got names text item at nodes room L L₁ s → MarkAt names text Asterisk s.at next
      → L₂ ≡ put_entry room s.nodes (node_entry 8 (s.nodes - 1) 0) L₁
      → Got names text item at nodes room L L₂ (record { at = next; nodes = s.nodes + 1 })
  unfolding Past After tree_size
  star_turn {nodes = nodes} {L = L} {s = s} g m l =
      record {
        policy = Tree.star g.policy;
        moves = λ b h cs. g.moves b h cs ∙ at_asterisk (length text) b cs g.policy m.tokens_are;
        past = tt;
        nodes_is = omega (arith, g.nodes_is);
        lists_are = l ∙ ap (put_entry room s.nodes (node_entry 8 (s.nodes - 1) 0)) g.lists_are ∙ put_star room nodes s.nodes g.policy L g.nodes_is;
        onward = omega (arith, g.onward, m.onward);
        within = m.within;
        few = omega (arith, g.few, m.onward);
      }

  pub star_ends : {at nodes : ℕ} {L L₁ : NodeLists} {s : Stepped.Step} → Got names text item at nodes room L L₁ s → (front (tokens_from names text s.at) ≡ Some Asterisk → ⊥) → Got names text starred at nodes room L L₁ s
  unfolding Past Entered After
  star_ends g h =
      record { policy = g.policy; moves = g.moves; past = h; nodes_is = g.nodes_is; lists_are = g.lists_are; onward = g.onward; within = g.within; few = g.few }

  pub star_stops : (at : ℕ) {place : ℕ} → Stops names text item at place → Stops names text starred at place
  unfolding Entered
  star_stops at d = d

  -- ---- one more starred item

  pub sequence_starts : {at nodes : ℕ} {L L₁ : NodeLists} {s : Stepped.Step} → Got names text starred at nodes room L L₁ s → Got names text joined at nodes room L L₁ s
  unfolding Past Entered After
  sequence_starts g =
      record { policy = g.policy; moves = λ b h cs. g.moves b h.1 cs; past = g.past; nodes_is = g.nodes_is; lists_are = g.lists_are; onward = g.onward; within = g.within; few = g.few }

  pub sequence_stops : (at : ℕ) {place : ℕ} → Stops names text starred at place → Stops names text sequence at place
  unfolding Entered
  sequence_stops at d b h cs = d b h.1 cs

  pub sequence_ends : {at nodes : ℕ} {L L₁ : NodeLists} {s : Stepped.Step} → Got names text joined at nodes room L L₁ s → (front (tokens_from names text s.at) ≡ Some Semicolon → ⊥) → Got names text sequence at nodes room L L₁ s
  unfolding Past Entered After
  sequence_ends g h =
      record { policy = g.policy; moves = g.moves; past = (g.past, h); nodes_is = g.nodes_is; lists_are = g.lists_are; onward = g.onward; within = g.within; few = g.few }

  -- what holds where nothing is sequenced before holds as the level asks
  as_joined : (P : Before → Type 0) → ((m : Option Policy) → P (record { summed = m; sequenced = None; negations = 0 })) → (b : Before) → (b.sequenced ≡ None) × (b.negations ≡ 0) → P b
  as_joined P f b h = subst P (λ i. record { summed = b.summed; sequenced = sym h.0 i; negations = sym h.1 i }) (f b.summed)

  module _ {at nodes next : ℕ} {L L₁ : NodeLists} {s : Stepped.Step} (g : Got names text joined at nodes room L L₁ s) (k : MarkAt names text Semicolon s.at next) where
    -- up to the ; and past it
    past_semicolon : (m : Option Policy) (cs : List Before)
        → read_on (length text) (wants (record { summed = m; sequenced = None; negations = 0 }) cs) (tokens_from names text at) ≡ read_on (length text) (wants (record { summed = m; sequenced = Some g.policy; negations = 0 }) cs) (tokens_from names text next)
    unfolding Entered After up_to join_sequence
    past_semicolon m cs =
        g.moves (record { summed = m; sequenced = None; negations = 0 }) (refl, refl) cs ∙ at_semicolon (length text) (record { summed = m; sequenced = None; negations = 0 }) cs g.policy k.tokens_are

    pub sequence_turn : {L₂ L₃ : NodeLists} {r r' : Stepped.Step} → Got names text starred next s.nodes room L₁ L₂ r → NodeJoined 7 (s.nodes - 1) room r L₂ r' L₃
        → Got names text joined at nodes room L L₃ r'
    unfolding Past Entered After tree_size entries_from joined_entries
    sequence_turn {L₃ = L₃} {r = r} y j =
        subst (Got names text joined at nodes room L L₃) (sym j.step_is)
        (record {
          policy = Tree.seq g.policy y.policy;
          moves = λ b h cs.
              as_joined (λ x. read_on (length text) (wants x cs) (tokens_from names text at) ≡ read_on (length text) (has x cs (Tree.seq g.policy y.policy)) (tokens_from names text r.at))
              (λ m. past_semicolon m cs ∙ y.moves (record { summed = m; sequenced = Some g.policy; negations = 0 }) refl cs ∙ collapse_sequence (length text) m cs g.policy y.policy (tokens_from names text r.at) y.past) b h;
          past = y.past;
          nodes_is = omega (arith, g.nodes_is, y.nodes_is);
          lists_are = j.lists_are ∙ ap (put_entry room r.nodes (node_entry 7 (s.nodes - 1) (r.nodes - 1))) (y.lists_are ∙ ap (put_all room s.nodes (entries_from s.nodes y.policy)) g.lists_are) ∙ put_join 7 room nodes s.nodes r.nodes g.policy y.policy L g.nodes_is y.nodes_is;
          onward = omega (arith, g.onward, k.onward, y.onward);
          within = y.within;
          few = omega (arith, g.few, y.few, k.onward, y.onward, y.nodes_is);
        })

    pub sequence_broken : {place : ℕ} → Stops names text starred next place → Stops names text sequence at place
    unfolding Entered
    sequence_broken {place} d b h cs =
        as_joined (λ x. read_on (length text) (wants x cs) (tokens_from names text at) ≡ stop place)
        (λ m. past_semicolon m cs ∙ d (record { summed = m; sequenced = Some g.policy; negations = 0 }) refl cs) b h

  -- ---- one more sequence

  pub sum_starts : {at nodes : ℕ} {L L₁ : NodeLists} {s : Stepped.Step} → Got names text sequence at nodes room L L₁ s → Got names text added at nodes room L L₁ s
  unfolding Past Entered After nothing
  sum_starts g =
      record { policy = g.policy; moves = λ b h cs. g.moves b (ap (λ (x : Before). x.sequenced) h, ap (λ (x : Before). x.negations) h) cs; past = g.past; nodes_is = g.nodes_is; lists_are = g.lists_are; onward = g.onward; within = g.within; few = g.few }

  pub sum_stops : (at : ℕ) {place : ℕ} → Stops names text sequence at place → Stops names text sum at place
  unfolding Entered nothing
  sum_stops at d b h cs = d b (ap (λ (x : Before). x.sequenced) h, ap (λ (x : Before). x.negations) h) cs

  pub sum_ends : {at nodes : ℕ} {L L₁ : NodeLists} {s : Stepped.Step} → Got names text added at nodes room L L₁ s → (front (tokens_from names text s.at) ≡ Some Plus → ⊥) → Got names text sum at nodes room L L₁ s
  unfolding Past Entered After
  sum_ends g h =
      record { policy = g.policy; moves = g.moves; past = (g.past.0, g.past.1, h); nodes_is = g.nodes_is; lists_are = g.lists_are; onward = g.onward; within = g.within; few = g.few }

  module _ {at nodes next : ℕ} {L L₁ : NodeLists} {s : Stepped.Step} (g : Got names text added at nodes room L L₁ s) (k : MarkAt names text Plus s.at next) where
    -- up to the + and past it
    past_plus : (cs : List Before)
        → read_on (length text) (wants nothing cs) (tokens_from names text at) ≡ read_on (length text) (wants (record { summed = Some g.policy; sequenced = None; negations = 0 }) cs) (tokens_from names text next)
    unfolding Entered After whole up_to join_sequence join_sum nothing
    past_plus cs = g.moves nothing refl cs ∙ at_plus (length text) nothing cs g.policy k.tokens_are

    pub sum_turn : {L₂ L₃ : NodeLists} {r r' : Stepped.Step} → Got names text sequence next s.nodes room L₁ L₂ r → NodeJoined 6 (s.nodes - 1) room r L₂ r' L₃
        → Got names text added at nodes room L L₃ r'
    unfolding Past Entered After tree_size entries_from joined_entries
    sum_turn {L₃ = L₃} {r = r} y j =
        subst (Got names text added at nodes room L L₃) (sym j.step_is)
        (record {
          policy = Tree.sum g.policy y.policy;
          moves = λ b h cs.
              subst (λ (x : Before). read_on (length text) (wants x cs) (tokens_from names text at) ≡ read_on (length text) (has x cs (Tree.sum g.policy y.policy)) (tokens_from names text r.at)) (sym h)
              (past_plus cs ∙ y.moves (record { summed = Some g.policy; sequenced = None; negations = 0 }) (refl, refl) cs ∙ collapse_sum (length text) cs g.policy y.policy (tokens_from names text r.at) y.past.0 y.past.1);
          past = y.past;
          nodes_is = omega (arith, g.nodes_is, y.nodes_is);
          lists_are = j.lists_are ∙ ap (put_entry room r.nodes (node_entry 6 (s.nodes - 1) (r.nodes - 1))) (y.lists_are ∙ ap (put_all room s.nodes (entries_from s.nodes y.policy)) g.lists_are) ∙ put_join 6 room nodes s.nodes r.nodes g.policy y.policy L g.nodes_is y.nodes_is;
          onward = omega (arith, g.onward, k.onward, y.onward);
          within = y.within;
          few = omega (arith, g.few, y.few, k.onward, y.onward, y.nodes_is);
        })

    pub sum_broken : {place : ℕ} → Stops names text sequence next place → Stops names text sum at place
    unfolding Entered
    sum_broken {place} d b h cs =
        subst (λ (x : Before). read_on (length text) (wants x cs) (tokens_from names text at) ≡ stop place) (sym h)
        (past_plus cs ∙ d (record { summed = Some g.policy; sequenced = None; negations = 0 }) (refl, refl) cs)
