-- The causes, the answer that they make, and what a refusal leaves.
use Prim.Native.Nat.{ℕ, ◌≤◌, ◌<◌, min}
use native.Mathlib.Omega.{arith}
use mathlib.Core.Bool.{Bool, true, false, cond}
use mathlib.Core.List.{List, [], ◌∷◌}
use Rattle.std.specs.Prelude.{Option, None, Some, Ok, Err}
use mathlib.Core.Path.{◌≡◌, refl, sym, ◌∙◌, ap, subst}
use lib.Dec.{ltb}
use lib.ListN.{length}
use borrow.Author.Tests.{lt-ltb, le-ltb, ltb-false}
use Rattle.packet.specs.Refusals.{refusal, refused_at, first_refused}
use Rattle.packet.specs.declared.Refusal.{Refusal}
use Rattle.packet.specs.Refusals.{Tested}
use Rattle.fields.specs.Tables.{Table, tables_stage}
use Rattle.policy.specs.Order.{order, in_order}
use Rattle.policy.specs.Tree.{Policy}
use Rattle.policy.specs.NodesOfTree.{tree_size}
use Rattle.grammar.specs.declared.Token.{Token}
use Rattle.grammar.specs.declared.Token.TheVariants.{Keyword, Field, Number, Operator, Plus, Semicolon, Asterisk, Opening, Closing, Exclamation, Bad}
use Rattle.grammar.specs.Tokens.{Placed, is_bad, tokens}
use Rattle.grammar.specs.Reading.{tree}
use Rattle.grammar.specs.Answer.{Answer, bad_place, open_after, deep_place, stop_place, tree_read, too_many, answer_after, outcome, text_tree, tested, answer_to, left_by, shortest, ReadWith, text_names, read_tests, read_answer, TextRead}

-- ---- cause 14

pub bad_end : {ts : List Placed} → ts ≡ [] → bad_place ts ≡ None
unfolding bad_place
bad_end e = rw e

pub bad_here : {ts us : List Placed} {place : ℕ} → ts ≡ record { token = Bad; start = place } ∷ us → bad_place ts ≡ Some place
unfolding bad_place is_bad
bad_here e = rw e

not_bad : (t : Token) → (t ≡ Bad → ⊥) → is_bad t ≡ false
unfolding is_bad
not_bad Bad h = absurd (h refl)
not_bad (Keyword c) h = refl
not_bad (Field f) h = refl
not_bad (Number n) h = refl
not_bad (Operator c) h = refl
not_bad Plus h = refl
not_bad Semicolon h = refl
not_bad Asterisk h = refl
not_bad Opening h = refl
not_bad Closing h = refl
not_bad Exclamation h = refl

pub bad_on : {ts us : List Placed} {t : Token} {place : ℕ} → ts ≡ record { token = t; start = place } ∷ us → (t ≡ Bad → ⊥) → bad_place ts ≡ bad_place us
unfolding bad_place
bad_on {t = t} e h = rw (e, bad_place, not_bad t h)

-- ---- cause 15

pub deep_end : (n : ℕ) {ts : List Placed} → ts ≡ [] → deep_place n ts ≡ None
unfolding deep_place
deep_end n e = rw e

pub deep_here : (n m : ℕ) {ts us : List Placed} {t : Token} {place : ℕ} → ts ≡ record { token = t; start = place } ∷ us → m ≡ open_after n t → 64 < m → deep_place n ts ≡ Some place
unfolding deep_place
deep_here n m {t = t} e q l = rw (e, deep_place, lt-ltb 64 (open_after n t) (omega (arith, q)))

pub deep_on : (n m : ℕ) {ts us : List Placed} {t : Token} {place : ℕ} → ts ≡ record { token = t; start = place } ∷ us → m ≡ open_after n t → m ≤ 64 → deep_place n ts ≡ deep_place m us
unfolding deep_place
deep_on n m {us = us} {t = t} e q l = rw (e, deep_place, le-ltb 64 (open_after n t) (omega (arith, q))) (ap (λ (k : ℕ). deep_place k us) (sym q))

-- ---- causes 16 and 17

-- stages 16 and 17 over the place where the reading stops and the number of nodes
abbrev pub sized : ℕ → Option ℕ → ℕ → Answer
sized room o n = answer_after (first_refused (refused_at 16 0 o ∷ refused_at 17 0 (too_many room n) ∷ [])) n

pub sized_stop : (room n place : ℕ) (o : Option ℕ) (r : Refusal) → o ≡ Some place → r ≡ refusal 16 0 place → Err r ≡ sized room o n
unfolding refused_at first_refused answer_after
sized_stop room n place o r e q = rw (e, q)

pub sized_over : (room n m : ℕ) (o : Option ℕ) (r : Refusal) → o ≡ None → m ≡ n → min 512 room < m → r ≡ refusal 17 0 m → Err r ≡ sized room o n
unfolding refused_at first_refused answer_after too_many
sized_over room n m o r e q l f = rw (e, f, ← q, lt-ltb (min 512 room) m l)

pub sized_nodes : (room n m : ℕ) (o : Option ℕ) → o ≡ None → m ≡ n → m ≤ min 512 room → Ok m ≡ sized room o n
unfolding refused_at first_refused answer_after too_many
sized_nodes room n m o e q l = rw (e, ← q, le-ltb (min 512 room) m l)

-- ---- the answer

module _ (names : List (List ℕ)) (text : List ℕ) (room : ℕ) where
  pub first_refuses : (r : Refusal) → Err r ≡ refused_at 14 0 (bad_place (tokens names text)) → Err r ≡ answer_to names text room
  unfolding answer_to tested answer_after first_refused
  first_refuses r e = rw (← e)

  pub second_refuses : (r : Refusal) → Ok tt ≡ refused_at 14 0 (bad_place (tokens names text)) → Err r ≡ refused_at 15 0 (deep_place 0 (tokens names text)) → Err r ≡ answer_to names text room
  unfolding answer_to tested answer_after first_refused
  second_refuses r e f = rw (← e, ← f)

  pub rest_answers : Ok tt ≡ refused_at 14 0 (bad_place (tokens names text)) → Ok tt ≡ refused_at 15 0 (deep_place 0 (tokens names text))
      → sized room (stop_place (outcome names text)) (tree_size (text_tree names text)) ≡ answer_to names text room
  unfolding answer_to tested answer_after first_refused
  rest_answers e f = rw (← e, ← f)

nodes_only : (o₁ o₂ o₃ o₄ : Option ℕ) (m n : ℕ) → Ok n ≡ answer_after (first_refused (refused_at 14 0 o₁ ∷ refused_at 15 0 o₂ ∷ refused_at 16 0 o₃ ∷ refused_at 17 0 o₄ ∷ [])) m
    → (o₂ ≡ None) × (o₃ ≡ None) × (o₄ ≡ None) × (m ≡ n)
unfolding refused_at first_refused answer_after
nodes_only None None None None m n e = (refl, refl, refl, sym (cc))
nodes_only (Some x) o₂ o₃ o₄ m n e = absurd (let z : ◌≡◌ {A = ℕ} 0 1 = cc in omega arith)
nodes_only None (Some x) o₃ o₄ m n e = absurd (let z : ◌≡◌ {A = ℕ} 0 1 = cc in omega arith)
nodes_only None None (Some x) o₄ m n e = absurd (let z : ◌≡◌ {A = ℕ} 0 1 = cc in omega arith)
nodes_only None None None (Some x) m n e = absurd (let z : ◌≡◌ {A = ℕ} 0 1 = cc in omega arith)

pub few_enough : (room n : ℕ) → too_many room n ≡ None → n ≤ min 512 room
unfolding too_many
few_enough room n e = go (ltb (min 512 room) n) refl e
  where
    go : (b : Bool) → ltb (min 512 room) n ≡ b → cond b (Some n) None ≡ None → n ≤ min 512 room
    go true q f = absurd (let z : ◌≡◌ {A = ℕ} 0 1 = cc in omega arith)
    go false q f = ltb-false (min 512 room) n q

-- what a count tells
pub count_parts : (names : List (List ℕ)) (text : List ℕ) (room n : ℕ) → Ok n ≡ answer_to names text room
    → (deep_place 0 (tokens names text) ≡ None) × (stop_place (outcome names text) ≡ None) × (too_many room (tree_size (text_tree names text)) ≡ None) × (tree_size (text_tree names text) ≡ n)
unfolding answer_to tested
count_parts names text room n e = nodes_only (bad_place (tokens names text)) (deep_place 0 (tokens names text)) (stop_place (outcome names text)) (too_many room (tree_size (text_tree names text))) (tree_size (text_tree names text)) n e

-- where a count is the answer
pub count_answers : (names : List (List ℕ)) (text : List ℕ) (room n : ℕ) (p : Policy) → bad_place (tokens names text) ≡ None → deep_place 0 (tokens names text) ≡ None → outcome names text ≡ tree p → tree_size p ≡ n → n ≤ min 512 room
    → answer_to names text room ≡ Ok n
unfolding answer_to tested answer_after first_refused refused_at text_tree stop_place tree_read too_many
count_answers names text room n p a b c d l = rw (a, b, c, d, le-ltb (min 512 room) n l)

module _ (names : List (List ℕ)) (text : List ℕ) (room n : ℕ) (e : Ok n ≡ answer_to names text room) where
  pub parts : (stop_place (outcome names text) ≡ None) × (too_many room (tree_size (text_tree names text)) ≡ None) × (tree_size (text_tree names text) ≡ n)
  parts = let q = count_parts names text room n e in (q.1, q.2, q.3)

  pub nodes_few : n ≤ min 512 room
  nodes_few = let q : tree_size (text_tree names text) ≤ min 512 room = few_enough room (tree_size (text_tree names text)) parts.1 in subst (λ (k : ℕ). k ≤ min 512 room) parts.2 q

pub stage_passes : (k : ℕ) (o : Option ℕ) → o ≡ None → Ok tt ≡ refused_at k 0 o
unfolding refused_at
stage_passes k o e = rw e

pub stage_refuses : (k place place' : ℕ) (o : Option ℕ) (r : Refusal) → o ≡ Some place' → place ≡ place' → r ≡ refusal k 0 place → Err r ≡ refused_at k 0 o
unfolding refused_at
stage_refuses k place place' o r e q f = rw (e, f, q)

-- ---- the reader over some names, whose room is the shortest lent list

module _ (names : List (List ℕ)) (text K F S : List ℕ) (room m : ℕ) (r : Answer) (inner : m ≡ min (length F) (length S)) (outer : room ≡ min (length K) m) (says : r ≡ answer_to names text room) where
  pub answer_is : r ≡ answer_to names text (shortest K F S)
  unfolding shortest
  answer_is = says ∙ ap (answer_to names text) (outer ∙ ap (λ (k : ℕ). min (length K) k) inner)

  pub with_refused : (x : Refusal) → r ≡ Err x → ReadWith names text K F S r K F S
  unfolding left_by
  with_refused x e = record { answer = answer_is; kinds = rw e; firsts = rw e; seconds = rw e }

-- ---- the public call: the causes of the tables, then the reader over the names of the text's side

then_passed : (t : Tested) → first_refused (t ∷ Ok tt ∷ Ok tt ∷ Ok tt ∷ Ok tt ∷ []) ≡ t
unfolding first_refused
then_passed (Ok _) = refl
then_passed (Err r) = refl

module _ {left right : Table} {side : ℕ} {text K F S : List ℕ} where
  pub tables_refuse : {x : Refusal} → Err x ≡ tables_stage (left ∷ right ∷ []) → TextRead left right side text K F S (Err x) K F S
  unfolding read_answer read_tests answer_after in_order order first_refused left_by
  tables_refuse e = record { answer = rw (← e); kinds = refl; firsts = refl; seconds = refl }

  pub tables_pass : {r : Answer} {K' F' S' : List ℕ} (names : List (List ℕ)) → Ok tt ≡ tables_stage (left ∷ right ∷ []) → names ≡ text_names left right side
      → ReadWith names text K F S r K' F' S' → TextRead left right side text K F S r K' F' S'
  unfolding read_answer read_tests answer_to in_order order first_refused
  tables_pass {r} {K'} {F'} {S'} names e n h =
      let d : ReadWith (text_names left right side) text K F S r K' F' S' = subst (λ (ns : List (List ℕ)). ReadWith ns text K F S r K' F' S') n h in
      record { answer = d.answer ∙ rw (← e, then_passed (tested (text_names left right side) text (shortest K F S))); kinds = d.kinds; firsts = d.firsts; seconds = d.seconds }
