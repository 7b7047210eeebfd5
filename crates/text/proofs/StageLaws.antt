-- The stages over the reader's steps, and the public call.
use Prim.Native.Nat.{ℕ, ◌+◌, ◌≤◌, min}
use native.Mathlib.Omega.{arith}
use native.Mathlib.Nat.{zero-add}
use mathlib.Core.List.{List, [], ◌∷◌}
use mathlib.Core.Path.{◌≡◌, refl, sym, ◌∙◌, ap}
use lib.ListN.{length}
use Rattle.std.specs.Prelude.{Result, Ok, Err, Some, None}
use Rattle.policy.specs.AsLists.{as_lists}
use Rattle.policy.specs.Tree.{Policy}
use Rattle.policy.specs.NodeLists.{NodeLists}
use Rattle.policy.specs.NodesOfTree.{tree_size, entries_from, nodes_of, lists_of}
use Rattle.policy.proofs.Nodes.{entries_length}
use Rattle.grammar.specs.Tokens.{Placed, tokens_from, tokens}
use Rattle.grammar.specs.InnerKinds.{front, front_place}
use Rattle.grammar.specs.Reading.{nothing, whole, up_to, join_sequence, join_sum, has, start, Outcome, tree, stop, read_on}
use Rattle.grammar.specs.Answer.{Answer, stop_place, tree_read, outcome, text_tree, answer_to, left_by, ReadWith}
use Rattle.packet.specs.Written.{written}
use Rattle.grammar.proofs.ReadLaws.{top_ends, top_stops}
use Rattle.grammar.proofs.AnswerLaws.{parts, nodes_few, answer_is}
use Rattle.text.specs.Inner.{EndRead, WholeRead, Entered, After, Past, sum, ReaderReady, Got, Stops, Done}
use Rattle.text.specs.declared.Step as Stepped
use Rattle.text.proofs.PutLaws.{put_written}

ends : {ts : List Placed} → ts ≡ [] → front ts ≡ None
unfolding front
ends e = ap front e

module _ (names : List (List ℕ)) (text : List ℕ) where
  whole_is : {nodes room : ℕ} {L L' : NodeLists} {s : Stepped.Step} (g : Got names text sum 0 nodes room L L' s) → outcome names text ≡ read_on (length text) (has nothing [] g.policy) (tokens_from names text s.at)
  unfolding outcome tokens start Entered After
  whole_is g = g.moves nothing refl []

  whole_tree : (p : Policy) → whole nothing p ≡ p
  unfolding whole up_to join_sequence join_sum nothing
  whole_tree p = refl

  ends_tree : {nodes room : ℕ} {L L' : NodeLists} {s : Stepped.Step} (g : Got names text sum 0 nodes room L L' s) → tokens_from names text s.at ≡ [] → outcome names text ≡ tree g.policy
  ends_tree {s = s} g e = whole_is g ∙ top_ends (length text) nothing g.policy (tokens_from names text s.at) (ends e) ∙ ap tree (whole_tree g.policy)

  ends_stop : {nodes room : ℕ} {L L' : NodeLists} {s : Stepped.Step} (g : Got names text sum 0 nodes room L L' s) → (front (tokens_from names text s.at) ≡ None → ⊥)
      → outcome names text ≡ stop (front_place (length text) (tokens_from names text s.at))
  unfolding Past
  ends_stop {s = s} g e = whole_is g ∙ top_stops (length text) nothing g.policy (tokens_from names text s.at) e g.past.0 g.past.1 g.past.2

  pub counted : (room : ℕ) {L L' : NodeLists} {s : Stepped.Step} → Got names text sum 0 0 room L L' s → (r : Result ℕ ℕ) → EndRead names text s r → WholeRead names text r
  unfolding stop_place text_tree tree_read
  counted room g (Ok n) h = (
    ap stop_place (ends_tree g h.0),
    h.1 ∙ g.nodes_is ∙ sym (ap (λ (o : Outcome). 0 + tree_size (tree_read o)) (ends_tree g h.0)) ∙ zero-add (tree_size (text_tree names text)),
  )
  counted room g (Err place) h = ap stop_place (ends_stop g h.0) ∙ ap Some (sym h.1)

  pub stopped : {place : ℕ} → Stops names text sum 0 place → stop_place (outcome names text) ≡ Some place
  unfolding stop_place outcome tokens start Entered
  stopped d = ap stop_place (d nothing refl [])

module _ (names : List (List ℕ)) (text : List ℕ) (room n : ℕ) (e : Ok n ≡ answer_to names text room) where
  -- a reader that is given room for all nodes of the text writes them
  pub nodes_written : (r : Result Stepped.Step ℕ) (K F S : List ℕ) {L' : NodeLists} → n ≤ length K → n ≤ length F → n ≤ length S → Done names text sum 0 0 n (as_lists K F S) r L'
      → L' ≡ as_lists (written (nodes_of (text_tree names text)).kind K) (written (nodes_of (text_tree names text)).first F) (written (nodes_of (text_tree names text)).second S)
  unfolding stop_place text_tree tree_read nodes_of outcome tokens start Entered front
  nodes_written r K F S {L'} k f z d = go r d
    where
      Goal : Type 0
      Goal = L' ≡ as_lists (written (nodes_of (text_tree names text)).kind K) (written (nodes_of (text_tree names text)).first F) (written (nodes_of (text_tree names text)).second S)

      stuck : (place : ℕ) → outcome names text ≡ stop place → ⊥
      stuck place q = let y : Some place ≡ None = sym (ap stop_place q) ∙ (parts names text room n e).0 in let w : ◌≡◌ {A = ℕ} 0 1 = cc in omega arith

      read : {s : Stepped.Step} (g : Got names text sum 0 0 n (as_lists K F S) L' s) → outcome names text ≡ tree g.policy → Goal
      read g q =
          let t : g.policy ≡ text_tree names text = sym (ap tree_read q) in
          g.lists_are
          ∙ put_written n (entries_from 0 g.policy) K F S (omega (arith, entries_length 0 g.policy, ap tree_size t, (parts names text room n e).2)) k f z
          ∙ ap (λ (p : Policy). as_lists (written (lists_of (entries_from 0 p)).kind K) (written (lists_of (entries_from 0 p)).first F) (written (lists_of (entries_from 0 p)).second S)) t

      last : {s : Stepped.Step} (g : Got names text sum 0 0 n (as_lists K F S) L' s) (ts : List Placed) → tokens_from names text s.at ≡ ts → Goal
      last g [] q = read g (ends_tree names text g q)
      last g (t ∷ ts) q = absurd (stuck _ (ends_stop names text g (λ x. let y : Some t.token ≡ None = sym (ap front q) ∙ x in let w : ◌≡◌ {A = ℕ} 0 1 = cc in omega arith)))

      go : (r : Result Stepped.Step ℕ) → Done names text sum 0 0 n (as_lists K F S) r L' → Goal
      go (Ok s) g = last g (tokens_from names text s.at) refl
      go (Err place) d = absurd (stuck place (d nothing refl []))

-- ---- the reader over some names, whose room is the shortest lent list

module _ (names : List (List ℕ)) (text K F S : List ℕ) (room m : ℕ) (r : Answer) (inner : m ≡ min (length F) (length S)) (outer : room ≡ min (length K) m) (says : r ≡ answer_to names text room) where
  pub with_ready : (n : ℕ) → r ≡ Ok n → ReaderReady text 0 0 n (as_lists K F S)
  with_ready n e =
      let h : n ≤ min 512 room = nodes_few names text room n (sym e ∙ says) in
      record { within = omega arith; few = omega arith; fits = record { kinds = omega arith; firsts = omega arith; seconds = omega arith } }

  pub with_small : (n : ℕ) → r ≡ Ok n → n ≤ 512
  with_small n e = let h : n ≤ min 512 room = nodes_few names text room n (sym e ∙ says) in omega arith

  pub with_done : (n : ℕ) (q : Result Stepped.Step ℕ) (K' F' S' : List ℕ) → r ≡ Ok n → Done names text sum 0 0 n (as_lists K F S) q (as_lists K' F' S') → ReadWith names text K F S (Ok n) K' F' S'
  unfolding left_by
  with_done n q K' F' S' e d =
      let h : n ≤ min 512 room = nodes_few names text room n (sym e ∙ says) in
      let w = nodes_written names text room n (sym e ∙ says) q K F S {L' = as_lists K' F' S'} (omega arith) (omega arith) (omega arith) d in
      record {
        answer = sym e ∙ answer_is names text K F S room m r inner outer says;
        kinds = ap (λ (L : NodeLists). L.kind) w;
        firsts = ap (λ (L : NodeLists). L.first) w;
        seconds = ap (λ (L : NodeLists). L.second) w;
      }

  -- what the lists hold once they are no longer lent
  pub with_left : {a : Answer} {K' F' S' k f s : List ℕ} → ReadWith names text K F S a K' F' S' → k ≡ K' → f ≡ F' → s ≡ S' → ReadWith names text K F S a k f s
  with_left h x y z = record { answer = h.answer; kinds = x ∙ h.kinds; firsts = y ∙ h.firsts; seconds = z ∙ h.seconds }
